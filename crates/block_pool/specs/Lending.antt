-- What a pool becomes where a block of it is written.
use Rattle.std.specs.Prelude.{ℕ, List, slice_set}
use Rattle.std.specs.Borrow.{Lends, MutBor, Fml, Array, u8}
use Rattle.block_pool.specs.Lent.{PoolState}
use Rattle.block_pool.specs.contracts.pool.Pool.{the_row}

-- the pool with other bytes in the block of a number
abbrev pub with_block : PoolState → ℕ → List ℕ → PoolState
with_block pool number bytes = record pool { blocks = slice_set pool.blocks number bytes }

-- the pool ends with the last bytes that are left behind the reference in the block of a number
abbrev pub LendsBlock : MutBor PoolState → ℕ → MutBor (List ℕ) → Fml
LendsBlock pool number bytes = Lends the_row (Array u8 0) pool bytes (with_block pool.now number)
