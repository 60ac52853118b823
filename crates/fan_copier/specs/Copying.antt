-- A file's copy between two turns, with the bytes that its reads of the card gave.
use Rattle.std.specs.Prelude.{◌≡◌, ℕ, ◌*◌, ◌≤◌, min, Bool, true, false, List, ◌++◌, length, take, slice_index, Option, Some, None}
use Rattle.std.specs.FinMap.{get}
use Rattle.bay_core.specs.declared.event.Event.{Event}
use Rattle.bay_core.specs.Map.{Map}
use Rattle.bay_core.specs.Paths.{part_path}
use Rattle.bay_core.specs.Replay.{reads}
use Rattle.bay_core.specs.World.{World, Honest}
use Rattle.block_pool.specs.Lent.{PoolState, is_lent, block_at}
use Rattle.digest_set.specs.Fed.{AllFed, Md5Fed, Sha1Fed, XxhFed}
use Rattle.fan_core.specs.Flags.{has}
use Rattle.fan_copier.specs.declared.copy.FileCopy.{FileCopy}
use Rattle.fan_copier.specs.Ring.{cell}
use Rattle.fan_copier.specs.Standing.{Standing, IsHeld, IsWanted, place, at_place, block_len, block_of}

-- the card whose file is copied
abbrev pub card_of : FileCopy → ℕ
card_of copy = copy.source

-- the listed size of the file, in bytes
abbrev pub size_of : FileCopy → ℕ
size_of copy = copy.size

-- the drives that were not dropped
abbrev pub live_of : FileCopy → List Bool
live_of copy = copy.window.counts.live

-- the drives that keep their part
abbrev pub kept_of : FileCopy → List Bool
kept_of copy = copy.kept

-- how many blocks the copy may hold at once
abbrev pub slots_at_most : FileCopy → ℕ
slots_at_most copy = copy.window.counts.slots

-- the slots that the copy has, by place
abbrev pub slots_of : FileCopy → List (Option ℕ)
slots_of copy = copy.ring.slots

-- where this copy stands
abbrev pub standing : FileCopy → Standing
standing copy = record { counts = copy.window.counts; pieces = copy.pieces; kept = copy.kept }

-- the bytes that the card gave so far: the digests were fed them, and each block that a drive may still want lies at its place
pub record Has (copy : FileCopy) (pool : PoolState) (bytes : List ℕ) : Type 0 where
  pub fed : AllFed Md5Fed Sha1Fed XxhFed copy.run bytes
  pub so_far : length bytes ≡ min copy.size (copy.window.counts.read * 65536)
  pub block : (k : ℕ) → IsHeld copy.window.counts k → take (block_len copy.size k) (at_place copy.ring.slots pool (place copy.window.counts k)) ≡ block_of bytes k

-- Each block that was read and that some live drive has not got lies, with its bytes, in a slot of its own that the copy has from the pool.
pub record HoldsBlocks (copy : FileCopy) (pool : PoolState) (bytes : List ℕ) : Type 0 where
  pub slot : ℕ → ℕ
  pub lent : (d k : ℕ) → IsWanted copy.window.counts d k → is_lent pool (slot k) ≡ true
  pub taken : (d k : ℕ) → IsWanted copy.window.counts d k → (i : ℕ) × (cell copy.ring.slots i ≡ Some (slot k))
  pub block : (d k : ℕ) → IsWanted copy.window.counts d k → take (block_len copy.size k) (block_at pool (slot k)) ≡ block_of bytes k
  pub apart : (d e k j : ℕ) → IsWanted copy.window.counts d k → IsWanted copy.window.counts e j → slot k ≡ slot j → k ≡ j

-- on an honest drive the part begins with these bytes, and is no longer than the file
abbrev pub PartBegins : ℕ → ℕ → World → List ℕ → Type 0
PartBegins d size w bytes = (m : Map) (L : List Event) → Honest w d m L → (rest : List ℕ) × (get (reads m L d) part_path ≡ Some (bytes ++ rest)) × (length (bytes ++ rest) ≤ size)

-- on an honest drive the part has just these bytes
abbrev pub PartIs : ℕ → World → List ℕ → Type 0
PartIs d w bytes = (m : Map) (L : List Event) → Honest w d m L → get (reads m L d) part_path ≡ Some bytes

-- on an honest drive there is no part
abbrev pub NoPart : ℕ → World → Type 0
NoPart d w = (m : Map) (L : List Event) → Honest w d m L → get (reads m L d) part_path ≡ None

-- each live drive's part begins with the blocks that it has, and a drive whose empty piece is still to be written has none
pub record Parts (size : ℕ) (at : Standing) (w : World) (bytes : List ℕ) : Type 0 where
  pub part : (d : ℕ) → has at.counts.live d ≡ true → has at.pieces d ≡ false → PartBegins d size w (take (slice_index at.counts.written d * 65536) bytes)
  pub no_part : (d : ℕ) → has at.pieces d ≡ true → NoPart d w

-- a copy between two turns, with the bytes that its reads of the card gave
pub record Copying (copy : FileCopy) (pool : PoolState) (w : World) (bytes : List ℕ) : Type 0 where
  pub has : Has copy pool bytes
  pub parts : Parts copy.size (standing copy) w bytes
