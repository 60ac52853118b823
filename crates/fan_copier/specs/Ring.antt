-- The slots of a copy, by place.
use Rattle.std.specs.Prelude.{◌≡◌, ◌≢◌, ℕ, ◌+◌, true, false, List, [], ◌∷◌, slice_index_or, Option, Some, None, is_some}
use Rattle.block_pool.specs.Lent.{PoolState, is_lent, block_at, free_in}

-- the slot at a place
abbrev pub cell : List (Option ℕ) → ℕ → Option ℕ
cell ring i = slice_index_or ring i None

-- how many slots there are
abbrev pub taken : List (Option ℕ) → ℕ
taken [] = 0
taken (None ∷ ring) = taken ring
taken (Some n ∷ ring) = taken ring + 1

-- no place has this slot
abbrev pub IsOut : List (Option ℕ) → ℕ → Type 0
IsOut ring n = (i : ℕ) → cell ring i ≡ Some n → ⊥

-- the pool lent each of these slots, and they are different blocks of it
pub record Owns (ring : List (Option ℕ)) (pool : PoolState) : Type 0 where
  pub lent : (i n : ℕ) → cell ring i ≡ Some n → is_lent pool n ≡ true
  pub apart : (i j n : ℕ) → cell ring i ≡ Some n → cell ring j ≡ Some n → i ≡ j

-- a place has a slot now, and nothing else changed
pub record Readies (place : ℕ) (old new : List (Option ℕ)) (before after : PoolState) : Type 0 where
  pub there : is_some (cell new place) ≡ true
  pub others : (j : ℕ) → j ≢ place → cell new j ≡ cell old j
  pub same : is_some (cell old place) ≡ true → cell new place ≡ cell old place
  pub owns : Owns new after
  pub blocks : after.blocks ≡ before.blocks
  pub sum : free_in after.lent + taken new ≡ free_in before.lent + taken old
  pub still : (n : ℕ) → is_lent before n ≡ true → is_lent after n ≡ true
  pub fresh : (n : ℕ) → cell old place ≡ None → cell new place ≡ Some n → is_lent before n ≡ false

-- a place has no slot now, and nothing else changed
pub record Gives (place : ℕ) (old new : List (Option ℕ)) (before after : PoolState) : Type 0 where
  pub empty : cell new place ≡ None
  pub owns : Owns new after
  pub others : (j : ℕ) → j ≢ place → cell new j ≡ cell old j
  pub blocks : after.blocks ≡ before.blocks
  pub sum : free_in after.lent + taken new ≡ free_in before.lent + taken old
  pub still : (n : ℕ) → is_lent before n ≡ true → (cell old place ≡ Some n → ⊥) → is_lent after n ≡ true

-- what is lent to others stays lent, with its bytes where it is such
abbrev pub Spares : List (Option ℕ) → (ℕ → Type 0) → PoolState → PoolState → Type 0
Spares ring Such old new = (n : ℕ) → is_lent old n ≡ true → IsOut ring n → (is_lent new n ≡ true) × (Such n → block_at new n ≡ block_at old n)

-- A turn keeps the sum of the free slots and the copy's. What is lent to others stays lent to them, with its bytes, but for those of the slot
-- that is handed in for comparing.
pub record KeepsPool (compare : ℕ) (old new : List (Option ℕ)) (before after : PoolState) : Type 0 where
  pub owns : Owns new after
  pub sum : free_in after.lent + taken new ≡ free_in before.lent + taken old
  pub spares : Spares old (λ n. n ≢ compare) before after
  pub out : (n : ℕ) → is_lent before n ≡ true → IsOut old n → IsOut new n

-- all slots are given back, and what is lent to others stays lent, with its bytes
pub record GivesAll (ring : List (Option ℕ)) (before after : PoolState) : Type 0 where
  pub sum : free_in after.lent ≡ free_in before.lent + taken ring
  pub spares : Spares ring (λ n. Unit {0}) before after
