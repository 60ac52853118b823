-- A region in blocks, some of which are lent.
use Rattle.std.specs.Prelude.{◌≡◌, ◌≢◌, ℕ, ◌+◌, ◌<◌, Bool, true, false, List, [], ◌∷◌, slice_index_or, slice_set}

-- the bytes of each block, and for each whether it is lent
pub record PoolState : Type 0 where
  pub blocks : List (List ℕ)
  pub lent : List Bool

-- how many blocks are free
abbrev pub free_in : List Bool → ℕ
free_in [] = 0
free_in (true ∷ lent) = free_in lent
free_in (false ∷ lent) = free_in lent + 1

-- how many blocks are lent
abbrev pub lent_in : List Bool → ℕ
lent_in [] = 0
lent_in (true ∷ lent) = lent_in lent + 1
lent_in (false ∷ lent) = lent_in lent

-- whether the pool has lent the block of a number
abbrev pub is_lent : PoolState → ℕ → Bool
is_lent pool number = slice_index_or pool.lent number false

-- the bytes of the block of a number
abbrev pub block_at : PoolState → ℕ → List ℕ
block_at pool number = slice_index_or pool.blocks number []

-- every other block is lent or free as before, with the bytes that it had
abbrev pub OthersStay : ℕ → PoolState → PoolState → Type 0
OthersStay number old new = (n : ℕ) → n ≢ number → (is_lent new n ≡ is_lent old n) × (block_at new n ≡ block_at old n)

-- a free block is lent, and nothing else changes
pub record LendsOut (number : ℕ) (old new : PoolState) : Type 0 where
  pub some_free : 0 < free_in old.lent
  pub was_free : is_lent old number ≡ false
  pub is : new ≡ record old { lent = slice_set old.lent number true }
  pub lent : is_lent new number ≡ true
  pub one_less : free_in new.lent + 1 ≡ free_in old.lent
  pub others : OthersStay number old new

-- a lent block is free again, and nothing else changes
pub record TakesBack (number : ℕ) (old new : PoolState) : Type 0 where
  pub is : new ≡ record old { lent = slice_set old.lent number false }
  pub free : is_lent new number ≡ false
  pub one_more : free_in new.lent ≡ free_in old.lent + 1
  pub others : OthersStay number old new
