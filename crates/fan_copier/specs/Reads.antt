-- Reads of a file of which each begins where the one before ended.
use Rattle.std.specs.Prelude.{◌≡◌, ◌⊎◌, ℕ, ◌+◌, ◌≤◌, ◌<◌, List, [], ◌∷◌, ◌++◌, length, take, drop, Some, None, Result, Ok, Err}
use Rattle.std.specs.FinMap.{get}
use Rattle.bay_core.specs.declared.event.Event.{Event}
use Rattle.bay_core.specs.declared.event.Event.TheVariants.{SourceRead, DriveRead}
use Rattle.bay_core.specs.declared.event.DriveGot.TheVariants.{Read, Absent, Failed}
use Rattle.bay_core.specs.declared.failed.Failed.{Failed as DeviceFailed}
use Rattle.bay_core.specs.Map.{Map, content}
use Rattle.bay_core.specs.Replay.{Device, Source, Drive, reads}
use Rattle.bay_core.specs.World.{World, Honest}
use Rattle.bay_core.specs.Went.{Then}

-- whose file is read: a card's or a drive's, by its path
pub data File : Type 0 where
  OnCard : ℕ → List ℕ → File
  OnDrive : ℕ → List ℕ → File

-- the device that is read
abbrev pub device : File → Device
device (OnCard s path) = Source s
device (OnDrive d path) = Drive d

-- a read that gave these bytes
abbrev pub gave : File → ℕ → ℕ → List ℕ → Event
gave (OnCard s path) at asked bytes = SourceRead s path at asked (Some bytes)
gave (OnDrive d path) at asked bytes = DriveRead d path at asked (Read bytes)

-- a read that failed
abbrev pub failed : File → ℕ → ℕ → Event
failed (OnCard s path) at asked = SourceRead s path at asked None
failed (OnDrive d path) at asked = DriveRead d path at asked Failed

-- the answer of a drive that it has no such file
abbrev pub IsAbsent : File → ℕ → ℕ → Event → Type 0
IsAbsent (OnCard s path) at asked e = ⊥
IsAbsent (OnDrive d path) at asked e = e ≡ DriveRead d path at asked Absent

-- one read, which asked for a byte at least and got none
abbrev pub GaveNone : File → ℕ → List Event → Type 0
GaveNone f at L = (asked : ℕ) × (0 < asked) × (e : Event) × (L ≡ e ∷ []) × ((e ≡ gave f at asked []) ⊎ IsAbsent f at asked e)

-- one read that failed, seen or not
abbrev pub MayFail : File → ℕ → List Event → Type 0
MayFail f at L = (L ≡ []) ⊎ ((asked : ℕ) × (L ≡ failed f at asked ∷ []))

-- one read that gave these bytes, some at least
pub record Piece (f : File) (at : ℕ) (e : Event) (bytes : List ℕ) : Type 0 where
  pub asked : ℕ
  pub is : e ≡ gave f at asked bytes
  pub some : 0 < length bytes

-- reads that each gave some bytes, the first at this place, each other where the one before ended; together they gave these bytes
unfoldable pub Tiles : File → ℕ → List Event → List ℕ → Type 0
Tiles f at [] bytes = bytes ≡ []
Tiles f at (e ∷ L) bytes = (first : List ℕ) × (rest : List ℕ) × Piece f at e first × (bytes ≡ first ++ rest) × Tiles f (at + length first) L rest

-- reads up to one that gave none, before so many bytes came
abbrev pub EndsAt : File → ℕ → ℕ → List ℕ → List Event → Type 0
EndsAt f at want bytes L = (length bytes < want) × Then (λ A. Tiles f at A bytes) (GaveNone f (at + length bytes)) L

-- reads up to one that failed, before so many bytes came
abbrev pub CutAt : File → ℕ → ℕ → List Event → Type 0
CutAt f at want L = (bytes : List ℕ) × (length bytes < want) × Then (λ A. Tiles f at A bytes) (MayFail f (at + length bytes)) L

-- reads that went on until so many bytes came or one gave none
abbrev pub Gathered : File → ℕ → ℕ → List ℕ → List Event → Type 0
Gathered f at want bytes L = ((length bytes ≡ want) × Tiles f at L bytes) ⊎ EndsAt f at want bytes L

-- the calls that fill a buffer
abbrev pub GatherCalls : File → ℕ → List ℕ → Result ℕ DeviceFailed → List Event → Type 0
GatherCalls f at into (Ok n) L = Gathered f at (length into) (take n into) L
GatherCalls f at into (Err e) L = CutAt f at (length into) L

-- bytes of a file from a place on
abbrev pub AreAt : List ℕ → ℕ → List ℕ → Type 0
AreAt file at bytes = bytes ≡ take (length bytes) (drop at file)

-- the bytes of a steady card's file from a place on, fewer than asked for only where the file ends
pub record Gathers (m : Map) (path : List ℕ) (at : ℕ) (into : List ℕ) (n : ℕ) : Type 0 where
  pub bytes : AreAt (content m path) at (take n into)
  pub short : (n ≡ length into) ⊎ (length (content m path) ≤ at + n)

-- on an honest drive these are bytes of its file from a place on
abbrev pub AreOn : ℕ → List ℕ → ℕ → List ℕ → World → Type 0
AreOn d path at bytes w = (m : Map) (L : List Event) → Honest w d m L → (file : List ℕ) → get (reads m L d) path ≡ Some file → AreAt file at bytes
