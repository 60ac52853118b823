-- Runs of reads, listings and lines on one drive and the output, and where such a run stops.
use Rattle.std.specs.Prelude.{◌≡◌, ◌⊎◌, ℕ, ◌+◌, Bool, true, false, not, List, [], ◌∷◌, ◌++◌, map, length, Option, Some, None, nat_eq}
use Rattle.std.specs.List.{flat_map}
use Rattle.bay_core.specs.declared.event.Event.{Event}
use Rattle.bay_core.specs.declared.event.Event.TheVariants.{AttachFailed, SourceList, SourceRead, DriveList, DriveRead, Write, Sync, Rename, Remove, Say}
use Rattle.bay_core.specs.declared.event.DriveGot.{DriveGot}
use Rattle.bay_core.specs.declared.event.DriveGot.TheVariants.{Read, Absent, Failed}
use Rattle.bay_core.specs.Replay.{Device, Source, Drive, Attaching, Output}
use Rattle.bay_core.specs.World.{World, Rose}
use Rattle.bay_core.specs.Went.{Went}

-- drive d or the output
abbrev pub Here : ℕ → Device → Type 0
Here d x = (x ≡ Drive d) ⊎ (x ≡ Output)

-- exactly these calls
abbrev pub Exactly : List Event → List Event → Type 0
Exactly calls L = L ≡ calls

-- these lines, each said
abbrev pub says : List (List ℕ) → List Event
says lines = map (λ t. Say t true) lines

-- what a read noted: nothing, or these bytes
abbrev pub answer : Option (List ℕ) → DriveGot
answer None = Absent
answer (Some bytes) = Read bytes

-- a read that was answered
abbrev pub read_call : ℕ → List ℕ → ℕ → ℕ → Option (List ℕ) → Event
read_call d path at want got = DriveRead d path at want (answer got)

-- the bytes that a read gave
abbrev pub piece : Event → List ℕ
piece (DriveRead d path at want (Read bytes)) = bytes
piece _ = []

-- the bytes that reads gave, one after another
abbrev pub given : List Event → List ℕ
given reads = flat_map piece reads

-- reads of one file of which each begins where the one before ended
unfoldable pub Tiles : ℕ → List ℕ → ℕ → List Event → Type 0
Tiles d path at [] = Unit {0}
Tiles d path at (e ∷ reads) = ((want : ℕ) × (got : Option (List ℕ)) × (e ≡ read_call d path at want got)) × Tiles d path (at + length (piece e)) reads

-- a listing, a read or a line, answered
abbrev pub is_look : Event → Bool
is_look (SourceList s (Some files)) = true
is_look (SourceRead s path at want (Some bytes)) = true
is_look (DriveList d (Some files)) = true
is_look (DriveRead d path at want (Read bytes)) = true
is_look (DriveRead d path at want Absent) = true
is_look (Say line true) = true
is_look _ = false

-- listings, reads and lines, all answered
unfoldable pub Looks : List Event → Type 0
Looks [] = Unit {0}
Looks (e ∷ L) = (is_look e ≡ true) × Looks L

-- a call that may change what a drive holds, also where it failed
abbrev pub is_change : Event → Bool
is_change (Write d path at bytes ok) = true
is_change (Rename d from to ok) = true
is_change (Remove d path ok) = true
is_change _ = false

-- no change is among these calls; a barrier may be
unfoldable pub NoChange : List Event → Type 0
NoChange [] = Unit {0}
NoChange (e ∷ L) = (is_change e ≡ false) × NoChange L

-- a change, or a barrier, whatever its answer
abbrev pub is_effect : Event → Bool
is_effect (Write d path at bytes ok) = true
is_effect (Sync d ok) = true
is_effect (Rename d from to ok) = true
is_effect (Remove d path ok) = true
is_effect _ = false

-- no change and no barrier is among these calls
unfoldable pub IsUntouched : List Event → Type 0
IsUntouched [] = Unit {0}
IsUntouched (e ∷ L) = (is_effect e ≡ false) × IsUntouched L

-- a call that answered that it failed; the clock and the picker do not fail
abbrev pub has_failed : Event → Bool
has_failed (AttachFailed place) = true
has_failed (SourceList s None) = true
has_failed (SourceRead s path at want None) = true
has_failed (DriveList d None) = true
has_failed (DriveRead d path at want Failed) = true
has_failed (Write d path at bytes ok) = not ok
has_failed (Sync d ok) = not ok
has_failed (Rename d from to ok) = not ok
has_failed (Remove d path ok) = not ok
has_failed (Say line ok) = not ok
has_failed _ = false

-- a call on this device that failed
abbrev pub is_failure : Device → Event → Bool
is_failure (Source s) (SourceList e None) = nat_eq s e
is_failure (Source s) (SourceRead e path at want None) = nat_eq s e
is_failure (Drive d) (DriveList e None) = nat_eq d e
is_failure (Drive d) (DriveRead e path at want Failed) = nat_eq d e
is_failure Attaching (AttachFailed place) = true
is_failure Output (Say line false) = true
is_failure _ _ = false

-- at most one call, which failed on that device; none at all where no device is given
abbrev pub AtMost : Option Device → List Event → Type 0
AtMost None L = L ≡ []
AtMost (Some x) L = (L ≡ []) ⊎ ((e : Event) × (L ≡ e ∷ []) × (is_failure x e ≡ true))

-- answered looks, and then at most the call that failed
pub record Stops (at : Option Device) (L : List Event) : Type 0 where
  pub looks : List Event
  pub last : List Event
  pub is : L ≡ looks ++ last
  pub answered : Looks looks
  pub failed : AtMost at last

-- the count of the device that failed rose
abbrev pub Caused : Option Device → World → World → Type 0
Caused None old new = Unit {0}
Caused (Some x) old new = Rose (old.faults x) (new.faults x)

-- looks on drive d and the output, which stopped at a failure of that device; its count rose
pub record Stopped (d : ℕ) (at : Option Device) (old new : World) : Type 0 where
  pub went : Went (Here d) (Stops at) old new
  pub cause : Caused at old new

-- the line of a call that said one
abbrev pub line_of : Event → List (List ℕ)
line_of (Say line true) = line ∷ []
line_of _ = []

-- the lines that were said
abbrev pub said : List Event → List (List ℕ)
said L = flat_map line_of L

-- these lines were said, whatever else was called
abbrev pub Says : List (List ℕ) → List Event → Type 0
Says lines L = said L ≡ lines
