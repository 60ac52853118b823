use Rattle.std.proofs.Common.{ℕ, false, slice_set, sym, subst}
use Rattle.block_pool.specs.Lent.{PoolState, TakesBack}
use Rattle.block_pool.proofs.Lending.{takes_back}
use Rattle.block_pool.proofs.pool.Pool.give.Goals as goal

pub returns : goal.returns
returns c =
    let old = c.args.self.now in
    subst (λ (number : ℕ). TakesBack c.args.slot old (record { blocks = c.self.inside.blocks.items; lent = slice_set c.self.inside.lent.items number false })) (sym c.slot.view_is)
    (subst (λ (pool : PoolState). TakesBack c.args.slot old (record pool { lent = slice_set pool.lent c.args.slot false })) (sym c.self.view_is)
    (takes_back old c.args.slot c.requires))
