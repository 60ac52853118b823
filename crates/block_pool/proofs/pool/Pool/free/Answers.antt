use Rattle.std.proofs.Common.{◌≡◌, ◌+◌, Bool, cond, take, ap, sym, ◌∙◌, arith, add-one}
use Rattle.std.proofs.lemmas.List.{take_all}
use Rattle.block_pool.specs.Lent.{PoolState, free_in}
use Rattle.block_pool.proofs.Lending.{free_in-take, free_and_lent}
use Rattle.block_pool.proofs.pool.Pool.free.Goals as goal
use Rattle.block_pool.proofs.pool.Pool.free.Goals.{then-not-is_lent, else-not-is_lent}

pub loop-is_lent-preserved : goal.loop-is_lent-preserved
loop-is_lent-preserved c =
    let lent = c.deref-is_lent-items.result.now in
    let i = c.loop-is_lent.is_lent-index in
    let so_far = c.loop-is_lent.invariant.so_far in
    let with_next = λ (b : Bool). cond b (free_in (take i lent)) (free_in (take i lent) + 1) in
    let more = ap (λ n. free_in (take n lent)) (add-one i) ∙ free_in-take lent i (omega arith) in
    elim c.if-not-is_lent.branch [
      | then-not-is_lent w ↦ record { so_far = w.n-is ∙ ap (λ n. n + 1) so_far ∙ sym (more ∙ ap with_next w.if-not-is_lent.true); few = omega arith }
      | else-not-is_lent w ↦ record { so_far = w.n-is ∙ so_far ∙ sym (more ∙ ap with_next w.if-not-is_lent.false); few = omega arith }
    ]

pub returns-clause-made : goal.returns-clause-made
returns-clause-made c =
    let lent = c.deref-is_lent-items.result.now in
    let same = c.deref-is_lent-items.ensures.value ∙ ap (λ (pool : PoolState). pool.lent) c.self.view_is in
    let i = c.loop-is_lent.is_lent-index in
    let whole : take i lent ≡ lent = take_all i lent (omega arith) in
    let counted = c.loop-is_lent.invariant.so_far ∙ ap free_in (whole ∙ same) in
    omega (arith, counted, free_and_lent c.args.self.now.lent)
