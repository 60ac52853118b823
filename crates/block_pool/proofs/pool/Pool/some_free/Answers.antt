use Rattle.std.proofs.Common.{arith, ap, ◌∙◌, length}
use Rattle.block_pool.specs.Lent.{PoolState}
use Rattle.block_pool.proofs.Lending.{free_in-none}
use Rattle.block_pool.proofs.pool.Pool.some_free.Goals as goal

pub returns-clause-none : goal.returns-clause-none
returns-clause-none c =
    let same = c.deref-lent-items.ensures.value ∙ ap (λ (pool : PoolState). pool.lent) c.self.view_is in
    let size = ap length same in
    free_in-none c.args.self.now.lent (λ k below. c.loop-number.invariant k (omega (arith, below, size)))
