use Rattle.std.proofs.Common.{true, slice_set, sym, subst}
use Rattle.block_pool.specs.Lent.{PoolState, LendsOut}
use Rattle.block_pool.proofs.Lending.{lends_out}
use Rattle.block_pool.proofs.pool.Pool.take.Goals as goal

pub returns-clause-some : goal.returns-clause-some
returns-clause-some c =
    let number = c.in_ok-number.number in
    let found = c.in_ok-number.ensures.some in
    subst (λ (pool : PoolState). LendsOut number c.args.self.now (record pool { lent = slice_set pool.lent number true })) (sym c.self.view_is)
    (lends_out c.args.self.now number found.0 found.1)
