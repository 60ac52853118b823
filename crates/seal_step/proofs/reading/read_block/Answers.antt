use Rattle.std.proofs.Common.{sym, subst, arith}
use Rattle.std.specs.Prelude.{Err}
use Rattle.std.proofs.lemmas.Result.{err_from_is_err_and}
use Rattle.seal_step.specs.declared.error.SealError.TheVariants.{Length}
use Rattle.seal_step.specs.Parts.{list_parts, joined}
use Rattle.seal_step.specs.Reading.{ListBack}
use Rattle.seal_step.proofs.Compares.{block_stopped, block_short, block_other, block_more}
use Rattle.seal_step.proofs.reading.read_block.Goals as goal

pub returns-in_err-n : goal.returns-in_err-n
returns-in_err-n g c =
    let list = c.args.list.now in
    let parts = list_parts list.plan.now list.entries.now list.finish in
    let p = err_from_is_err_and c.from_residual.result c.from_residual.ensures.1 in
    rw (p.1, p.2) (block_stopped c.args.d parts c.args.at _ _ _ _ c.in_err-n.ensures.read (omega arith) (omega arith))

pub returns-then-n-eq0 : goal.returns-then-n-eq0
returns-then-n-eq0 g c = λ first s.
    let list = c.args.list.now in
    let parts = list_parts list.plan.now list.entries.now list.finish in
    subst (λ k. ListBack c.args.d (joined parts) (Err (Length k c.args.at)) first (g.B.Bay.world c.read_some.new.bay)) (sym c.requires.total)
    (block_short c.args.d parts c.args.at _ _ _ _ _ c.in_ok-n.ensures.read c.in_ok-n.ensures.bound (omega arith) (omega arith) c.if-n-eq0.true (omega arith) first s)

pub returns-in_err-compare_block : goal.returns-in_err-compare_block
returns-in_err-compare_block g c =
    let list = c.args.list.now in
    let parts = list_parts list.plan.now list.entries.now list.finish in
    let p = err_from_is_err_and c.from_residual-in_err-compare_block.result c.from_residual-in_err-compare_block.ensures.1 in
    rw (p.1, p.2) (block_other c.args.d parts c.args.at _ _ _ _ _ c.in_ok-n.ensures.read c.in_ok-n.ensures.bound (omega arith) (omega arith) c.if-n-eq0.false _ _ _ c.in_err-compare_block.ensures)

pub returns : goal.returns
returns g c =
    let list = c.args.list.now in
    let parts = list_parts list.plan.now list.entries.now list.finish in
    block_more c.args.d parts c.args.at _ _ _ _ _ c.in_ok-n.ensures.read c.in_ok-n.ensures.bound (omega arith) (omega arith) c.if-n-eq0.false _ _ c.in_ok-compare_block.ensures
