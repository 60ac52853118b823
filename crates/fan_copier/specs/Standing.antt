-- Where a file's copy stands between two turns, and what is always so of it.
use Rattle.std.specs.Prelude.{◌≡◌, ℕ, ◌+◌, ◌-◌, ◌*◌, ◌/◌, ◌%◌, ◌^◌, ◌<◌, ◌≤◌, min, Bool, true, false, not, ◌&&◌, List, length, take, drop, slice_index, Option, Some, None, is_some}
use Rattle.block_pool.specs.Lent.{PoolState, block_at}
use Rattle.fan_core.specs.declared.counts.Counts.{Counts}
use Rattle.fan_core.specs.Flags.{has}
use Rattle.fan_core.specs.Next.{at_start}
use Rattle.fan_copier.specs.Ring.{cell}

-- how many blocks of 65,536 bytes a file of this size has, the last of them shorter or not
abbrev pub blocks_of : ℕ → ℕ
blocks_of size = (size + 65535) / 65536

-- the length of a block of a file
abbrev pub block_len : ℕ → ℕ → ℕ
block_len size k = min 65536 (size - k * 65536)

-- a block of these bytes
abbrev pub block_of : List ℕ → ℕ → List ℕ
block_of bytes k = take 65536 (drop (k * 65536) bytes)

-- the place of a block among the slots
abbrev pub place : Counts → ℕ → ℕ
place c k = k % c.slots

-- the number of a slot
abbrev pub number_of : Option ℕ → ℕ
number_of None = 0
number_of (Some n) = n

-- the block of the pool at a place
abbrev pub at_place : List (Option ℕ) → PoolState → ℕ → List ℕ
at_place ring pool i = block_at pool (number_of (cell ring i))

-- where a copy stands: its counts, the drives whose empty piece is still to be written, and those that keep their part
pub record Standing : Type 0 where
  pub counts : Counts
  pub pieces : List Bool
  pub kept : List Bool

-- where a copy stands at its begin: nothing is read or written, and just the drives that keep no part get an empty piece
pub record IsAtStart (size : ℕ) (drives keeping : List Bool) (slots : ℕ) (at : Standing) : Type 0 where
  pub counts : at.counts ≡ at_start drives (blocks_of size) slots
  pub eight : (length at.pieces ≡ 8) × (length at.kept ≡ 8)
  pub pieces : (d : ℕ) → has at.pieces d ≡ (has drives d && not (has keeping d))
  pub kept : at.kept ≡ keeping

-- a block that may still be wanted: it was read, and so few blocks ago that no other has its place
pub record IsHeld (c : Counts) (k : ℕ) : Type 0 where
  pub read : k < c.read
  pub near : c.read ≤ k + c.slots

-- a block that was read, and that this live drive has not got yet
pub record IsWanted (c : Counts) (d k : ℕ) : Type 0 where
  pub live : has c.live d ≡ true
  pub not_yet : slice_index c.written d ≤ k
  pub read : k < c.read

-- what is always so of a copy
pub record IsCopy (size : ℕ) (at : Standing) (ring : List (Option ℕ)) : Type 0 where
  pub small : size < 2 ^ 48
  pub blocks : at.counts.blocks ≡ blocks_of size
  pub slots : at.counts.slots ≤ 16
  pub pieces_live : (d : ℕ) → has at.pieces d ≡ true → has at.counts.live d ≡ true
  pub pieces_first : (d : ℕ) → has at.pieces d ≡ true → at.counts.read ≡ 0
  pub filled : (k : ℕ) → IsHeld at.counts k → is_some (cell ring (place at.counts k)) ≡ true
  pub outside : (i : ℕ) → at.counts.slots ≤ i → is_some (cell ring i) ≡ false
