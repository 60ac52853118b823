use Rattle.std.proofs.Common.{ℕ, Bool, true, List, ◌∷◌, [], take, subst}
use Rattle.std.specs.Prelude.{Ok, is_ok}
use Rattle.bay_core.specs.Paths.{part_path}
use Rattle.bay_core.specs.Replay.{Drive}
use Rattle.bay_core.specs.Went.{Called, Tried, write_call}
use Rattle.block_pool.specs.Lent.{block_at}
use Rattle.fan_copier.specs.Turning.{CompareCalls}
use Rattle.fan_copier.proofs.Comparing.{put_plain, put_agreed, put_mended, put_cut, only_false, other_kept}
use Rattle.fan_copier.proofs.blocks.put_block.Goals as goal

pub returns-then-not-keeps-clause-called : goal.returns-then-not-keeps-clause-called
returns-then-not-keeps-clause-called g c = put_plain c.args.keeps c.args.d c.args.at _ c.write_part.result c.if-not-keeps.true c.write_part.ensures.called

pub returns-in-Ok-true-clause-called : goal.returns-in-Ok-true-clause-called
returns-in-Ok-true-clause-called g c = put_agreed c.args.keeps c.args.d c.args.at _ c.if-not-keeps.false
    (subst (λ (b : Bool). Called (Drive c.args.d) (CompareCalls c.args.d c.args.at (take c.args.len (block_at c.args.pool.now c.args.slot.now)) (Ok b)) true (g.B.Bay.world c.args.bay.now) (g.B.Bay.world c.agrees.new.bay)) c.in-Ok-true.field-0-test c.in-Ok-true.ensures.called)

pub returns-in-Ok-false-clause-called : goal.returns-in-Ok-false-clause-called
returns-in-Ok-false-clause-called g c =
    let kept = other_kept c.args.pool.now c.agrees.new.pool c.args.compare.now c.args.slot.now c.in-Ok-false.ensures.pool c.requires.compare.1 in
    put_mended c.args.keeps c.args.d c.args.at _ c.write_part-in-Ok-false.result c.if-not-keeps.false
    (subst (λ (b : Bool). Called (Drive c.args.d) (CompareCalls c.args.d c.args.at (take c.args.len (block_at c.args.pool.now c.args.slot.now)) (Ok b)) true (g.B.Bay.world c.args.bay.now) (g.B.Bay.world c.agrees.new.bay)) c.in-Ok-false.field-0-test c.in-Ok-false.ensures.called)
    (only_false c.write_part-in-Ok-false.result c.write_part-in-Ok-false.ensures.written)
    (subst (λ (l : List ℕ). Tried c.args.d (write_call c.args.d part_path c.args.at (take c.args.len l) ∷ []) (is_ok c.write_part-in-Ok-false.result) (g.B.Bay.world c.agrees.new.bay) (g.B.Bay.world c.write_part-in-Ok-false.new.bay)) kept c.write_part-in-Ok-false.ensures.called)

pub returns-in-Err-clause-called : goal.returns-in-Err-clause-called
returns-in-Err-clause-called g c = put_cut c.args.keeps c.args.d c.args.at _ c.in-Err.failed c.if-not-keeps.false c.in-Err.ensures.called
