-- Why the first file is not recorded.
use Rattle.std.specs.Prelude.{◌≡◌, ◌≢◌, ℕ, ◌+◌, ◌<◌, Bool, true, List, [], ◌∷◌, length, Some, Result, Ok, Err}
use Rattle.std.specs.FinMap.{get}
use Rattle.bay_core.specs.declared.event.Event.{Event}
use Rattle.bay_core.specs.Map.{Map, content}
use Rattle.bay_core.specs.Paths.{part_path}
use Rattle.bay_core.specs.Replay.{Source, Drive, Attaching, Output, reads}
use Rattle.bay_core.specs.World.{World, Rose, Honest, Steady}
use Rattle.copy_plan.specs.declared.file.PlannedFile.{PlannedFile}
use Rattle.copy_plan.specs.Plan.{PlanValue}
use Rattle.digest_set.specs.declared.triple.Triple.{Triple}
use Rattle.drive_journal.specs.declared.record.Rec.{Rec}
use Rattle.fan_core.specs.Flags.{has}
use Rattle.read_back.specs.declared.back.ReadBackError.{ReadBackError}
use Rattle.read_back.specs.declared.back.ReadBackError.TheVariants.{DriveFailed}
use Rattle.read_back.specs.Back.{HasCopy}
use Rattle.first_file.specs.declared.error.FirstFileError.{FirstFileError}
use Rattle.first_file.specs.declared.error.FirstFileError.TheVariants.{Attach, Drive as DriveLost, Card, Changed, ReadBack, Output as NotSaid}

-- a step that is said ends at a failed call of the drive or of the output
abbrev pub BeginCause : ℕ → Result Unit FirstFileError → World → World → Type 0
BeginCause d (Ok begun) old new = Unit {0}
BeginCause d (Err DriveLost) old new = Rose (old.faults (Drive d)) (new.faults (Drive d))
BeginCause d (Err NotSaid) old new = Rose (old.faults Output) (new.faults Output)
BeginCause d (Err e) old new = ⊥

-- so does a recording, or what was read back, without a failed call, is not what was copied
abbrev pub RecordCause : ℕ → Result Unit FirstFileError → World → World → Type 0
RecordCause d (Err (ReadBack found)) old new = found ≢ DriveFailed
RecordCause d result old new = BeginCause d result old new

-- a call of the drive failed, or what was read back is not what was copied
abbrev pub LostBy : ReadBackError → FirstFileError → Type 0
LostBy DriveFailed e = e ≡ DriveLost
LostBy found e = e ≡ ReadBack found

-- a copy ends at a failed call of the card or of one of its drives, or the card's file has another length
abbrev pub CopyCause : ℕ → List Bool → ℕ → Result Triple FirstFileError → World → World → Type 0
CopyCause s live size (Ok digests) old new = Unit {0}
CopyCause s live size (Err DriveLost) old new = (d : ℕ) × (has live d ≡ true) × Rose (old.faults (Drive d)) (new.faults (Drive d))
CopyCause s live size (Err Card) old new = Rose (old.faults (Source s)) (new.faults (Source s))
CopyCause s live size (Err (Changed listed read)) old new = (listed ≡ size) × (read ≢ size)
CopyCause s live size (Err e) old new = ⊥

-- another length than that of the first of these files
abbrev pub IsChangedFrom : List PlannedFile → ℕ → ℕ → Type 0
IsChangedFrom [] listed read = ⊥
IsChangedFrom (f ∷ files) listed read = (listed ≡ f.size) × (read ≢ f.size)

-- copying and recording the first file of a plan ended so
abbrev pub FileCause : ℕ → ℕ → PlanValue → Result Unit FirstFileError → World → World → Type 0
FileCause s d p (Err Card) old new = Rose (old.faults (Source s)) (new.faults (Source s))
FileCause s d p (Err (Changed listed read)) old new = IsChangedFrom p.files listed read
FileCause s d p result old new = RecordCause d result old new

-- one drive more is attached, but where just that failed
abbrev pub AttachesOne : Result Unit FirstFileError → World → World → Type 0
AttachesOne (Err Attach) old new = new.attached ≡ old.attached
AttachesOne result old new = new.attached.drives ≡ old.attached.drives + 1

-- it went well, or a call failed
abbrev pub EndsByCall : {T : Type 0} → Result T FirstFileError → Type 0
EndsByCall (Err (Changed listed read)) = ⊥
EndsByCall (Err (ReadBack found)) = ⊥
EndsByCall result = Unit {0}

-- the first of these files has on the card the length with which it was planned
abbrev pub IsFirstOn : Map → List PlannedFile → Type 0
IsFirstOn card [] = ⊥
IsFirstOn card (f ∷ files) = length (content card f.path) ≡ f.size

-- what was recorded of an honest drive that had the recorded bytes in its part is read back
abbrev pub RecordsAlone : ℕ → Rec → Result Unit FirstFileError → World → World → Type 0
RecordsAlone d rec result old new = (m : Map) (before all : List Event) → Honest old d m before → new.events ≡ Some all → HasCopy rec.size rec.triple (get (reads m before d) part_path) → EndsByCall result

-- a steady card that has the planned length, and an honest drive, end it by a failed call alone
abbrev pub FilesAlone : ℕ → ℕ → PlanValue → Result Unit FirstFileError → World → World → Type 0
FilesAlone s d p result old new = (m card : Map) (all : List Event) → Honest new d m all → Steady new s card → IsFirstOn card p.files → EndsByCall result

-- so it is with the drive that is attached next
abbrev pub FirstAlone : ℕ → PlanValue → Result Unit FirstFileError → World → World → Type 0
FirstAlone s p result old new = old.attached.drives < new.attached.drives → FilesAlone s old.attached.drives p result old new

-- each error of the whole has its cause, on the drive that is attached next
abbrev pub FirstFileCause : ℕ → PlanValue → Result Unit FirstFileError → World → World → Type 0
FirstFileCause s p (Err Attach) old new = Rose (old.faults Attaching) (new.faults Attaching)
FirstFileCause s p result old new = FileCause s old.attached.drives p result old new
