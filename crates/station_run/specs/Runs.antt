-- What the runs of several commands share: the attach of a drive, its calls with those of the end, and the lines since.
use Rattle.std.specs.Prelude.{◌≡◌, ◌⊎◌, ℕ, ◌+◌, ◌≤◌, ◌<◌, List, [], ◌++◌, Option, Some}
use Rattle.bay_core.specs.declared.event.Event.{Event}
use Rattle.bay_core.specs.declared.event.Event.TheVariants.{AttachDrive, AttachFailed}
use Rattle.bay_core.specs.Replay.{Device, Drive, Attaching, Output, calls_on}
use Rattle.bay_core.specs.World.{World, Rose}
use Rattle.bay_core.specs.Went.{Made, MaySee, IsCall, Then}
use Rattle.bay_core.specs.Attach.{SameDrive, SameCard, GivesSo, IsTrueUnless}
use Rattle.bay_core.specs.Looks.{IsUntouched, said}
use Rattle.verify_run.specs.declared.loading.LoadError.{LoadError}
use Rattle.verify_run.specs.declared.loading.LoadError.TheVariants.{DriveFailed, Absent, TooLarge, Unreadable, Memory}
use Rattle.last_lines.specs.Ends.{End, EndCalls, EndStatus}
use Rattle.station_run.specs.Ends.{attach_end}

-- attaching, or the output
abbrev pub IsAttachOrOutput : Device → Type 0
IsAttachOrOutput x = (x ≡ Attaching) ⊎ (x ≡ Output)

-- attaching, the drive that is attached, or the output
abbrev pub IsOfDrive : ℕ → Device → Type 0
IsOfDrive d x = (x ≡ Attaching) ⊎ (x ≡ Drive d) ⊎ (x ≡ Output)

-- A run on these devices alone: such calls and then those of its end, wherever they are told; no count falls; the status is that of its end.
pub record RunOf (On : Device → Type 0) (Such : List Event → Type 0) (end : End) (result : ℕ) (old new : World) : Type 0 where
  pub told : (all : List Event) → new.events ≡ Some all → Made On (Then Such (EndCalls end result)) old.events all
  pub later : (x : Device) → old.faults x ≤ new.faults x
  pub others : (x : Device) → (On x → ⊥) → new.faults x ≡ old.faults x
  pub status : EndStatus end result old new

-- the drive of a place could not be attached, and nothing was attached
pub record NoneAttached (place : List ℕ) (result : ℕ) (old new : World) : Type 0 where
  pub run : RunOf IsAttachOrOutput (MaySee (AttachFailed place)) attach_end result old new
  pub attached : new.attached ≡ old.attached
  pub cause : Rose (old.faults Attaching) (new.faults Attaching)

-- A drive was attached from a place: it has the next number, what its place gives, and no call before; nothing changed of the drives before
-- it, of the cards, and of what the bay was made with.
pub record OneAttached (place : List ℕ) (old new : World) : Type 0 where
  pub drives : new.attached.drives ≡ old.attached.drives + 1
  pub before : (e : ℕ) → e < old.attached.drives → SameDrive e old.attached new.attached
  pub sources : new.attached.sources ≡ old.attached.sources
  pub cards : (s : ℕ) → SameCard s old.attached new.attached
  pub made : new.attached.made ≡ old.attached.made
  pub gives : GivesSo place (new.attached.start old.attached.drives) (new.attached.dates old.attached.drives) old
  pub truth : IsTrueUnless (Drive old.attached.drives) (new.attached.honest old.attached.drives) old.attached
  pub unused : (L : List Event) → old.events ≡ Some L → calls_on old.attached.drives L ≡ []

-- the attach of drive d, and then such calls
abbrev pub AfterAttach : ℕ → List ℕ → (List Event → Type 0) → List Event → Type 0
AfterAttach d place Such L = Then (IsCall (AttachDrive d place)) Such L

-- the count that rose where a list was not loaded
abbrev pub LoadCause : LoadError → ℕ → World → World → Type 0
LoadCause DriveFailed d old new = Rose (old.faults (Drive d)) (new.faults (Drive d))
LoadCause Absent d old new = Unit {0}
LoadCause (TooLarge len) d old new = Unit {0}
LoadCause (Unreadable e) d old new = Unit {0}
LoadCause Memory d old new = Unit {0}

-- the lines that were said since
pub record SaidSince (lines : List (List ℕ)) (old : Option (List Event)) (all : List Event) : Type 0 where
  pub before : List Event
  pub since : List Event
  pub was : old ≡ Some before
  pub is : all ≡ before ++ since
  pub lines_are : said since ≡ lines

-- first ones of these lines were said since, none of them, some or all, and then first ones of those of the end
pub record BegunSince (lines : List (List ℕ)) (end : End) (old : Option (List Event)) (all : List Event) : Type 0 where
  pub first : List (List ℕ)
  pub rest : List (List ℕ)
  pub last : List (List ℕ)
  pub more : List (List ℕ)
  pub lines_are : lines ≡ first ++ rest
  pub end_are : end.lines ≡ last ++ more
  pub said_are : SaidSince (first ++ last) old all

-- no change and no barrier was called since, wherever the calls are told
abbrev pub Unchanged : World → World → Type 0
Unchanged old new = (all : List Event) → new.events ≡ Some all → Made (λ x. Unit {0}) IsUntouched old.events all
