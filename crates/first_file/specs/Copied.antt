-- A file came whole from a card to the part of a drive.
use Rattle.std.specs.Prelude.{◌≡◌, ◌≢◌, ℕ, Bool, true, List, length, slice_set}
use Rattle.bay_core.specs.Map.{Map, content}
use Rattle.bay_core.specs.World.{World, Steady}
use Rattle.block_pool.specs.Lent.{PoolState, is_lent, block_at, free_in}
use Rattle.digest_set.specs.declared.triple.Triple.{Triple}
use Rattle.digest_set.specs.Triple.{triple}
use Rattle.fan_core.specs.Flags.{no_drives}
use Rattle.fan_copier.specs.Copying.{PartIs}

-- the set of one drive
abbrev pub just : ℕ → List Bool
just d = slice_set no_drives d true

-- the part of an honest drive d has as many bytes as were planned, with these digests, and the file of a steady card has them
pub record IsCopied (s d : ℕ) (path : List ℕ) (size : ℕ) (digests : Triple) (old new : World) : Type 0 where
  pub bytes : List ℕ
  pub sized : length bytes ≡ size
  pub digests_are : digests ≡ triple bytes
  pub part : PartIs d new bytes
  pub card : (m : Map) → Steady old s m → content m path ≡ bytes

-- as many blocks are free as before, and what is lent stays lent; the bytes change in this block alone, of those that are lent
pub record SparesPool (slot : ℕ) (old new : PoolState) : Type 0 where
  pub free : free_in new.lent ≡ free_in old.lent
  pub lent : (n : ℕ) → is_lent old n ≡ true → is_lent new n ≡ true
  pub bytes : (n : ℕ) → is_lent old n ≡ true → n ≢ slot → block_at new n ≡ block_at old n

-- as many blocks are free as before, and what is lent stays lent, with its bytes
pub record GivesBack (old new : PoolState) : Type 0 where
  pub free : free_in new.lent ≡ free_in old.lent
  pub lent : (n : ℕ) → is_lent old n ≡ true → (is_lent new n ≡ true) × (block_at new n ≡ block_at old n)
