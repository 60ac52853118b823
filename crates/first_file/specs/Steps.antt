-- The steps of an offload in the calls of a run, as worlds tell them.
use Rattle.std.specs.Prelude.{◌≡◌, ◌≢◌, ◌⊎◌, ℕ, ◌≤◌, Bool, true, false, List, [], ◌∷◌, ◌++◌, length, Some}
use Rattle.bay_core.specs.declared.event.Event.{Event}
use Rattle.bay_core.specs.Map.{Map}
use Rattle.bay_core.specs.Replay.{Device, Source, Drive, Picker, Clock, Output, Attaching, reads}
use Rattle.bay_core.specs.World.{World, Steady}
use Rattle.crash_law.specs.Protocol.{Settled}
use Rattle.copy_plan.specs.Plan.{PlanValue}
use Rattle.drive_journal.specs.declared.record.Rec.{Rec}
use Rattle.offload_law.specs.Stages.{Begun, progress}
use Rattle.recording.specs.Beginning.{ReadyToBegin}
use Rattle.recording.specs.Drives.{Copying, IsCopying, In, Keeps, ToldOf}
use Rattle.recording.specs.Filing.{Waits}

-- whatever calls
abbrev pub AnyCalls : List Event → Type 0
AnyCalls L = Unit {0}

-- a drive, and the output
abbrev pub Aloud : ℕ → Device → Type 0
Aloud d x = (x ≡ Drive d) ⊎ (x ≡ Output)

-- a drive and the output, and what a file that is copied to it comes from: a card, the picker and the clock
abbrev pub OfFile : ℕ → ℕ → Device → Type 0
OfFile s d x = Aloud d x ⊎ (x ≡ Source s) ⊎ (x ≡ Picker) ⊎ (x ≡ Clock)

-- no count rises but of these devices and of attaching
pub record CountsOf (On : Device → Type 0) (old new : World) : Type 0 where
  pub later : (x : Device) → old.faults x ≤ new.faults x
  pub others : (x : Device) → x ≢ Attaching → (On x → ⊥) → new.faults x ≡ old.faults x

-- where a world tells its calls, they are these of before, and then such ones
pub record Since (past : List Event) (P : List Event → Type 0) (w : World) : Type 0 where
  pub calls : (all : List Event) → w.events ≡ Some all → (L : List Event) × (all ≡ past ++ L) × P L

-- these records are on the drive, at rest, and just they are announced
pub record IsRecorded (D : Copying) (d : ℕ) (recs : List Rec) (L : List Event) : Type 0 where
  pub now : In D d L (Settled (Begun recs))
  pub told : ToldOf D d L ≡ progress D.work.plan (Begun recs)

-- after Ok such calls, else calls that keep to the steps
abbrev pub Reaches : Copying → ℕ → Bool → (List Event → Type 0) → List Event → Type 0
Reaches D d true P L = P L
Reaches D d false P L = Keeps D d L

-- the drive is ready for an offload, of which nothing is announced
pub record IsUnbegun (D : Copying) (d : ℕ) (journal : List ℕ) (L : List Event) : Type 0 where
  pub ready : ReadyToBegin D d L journal
  pub told : ToldOf D d L ≡ 0

-- the drive waits for the record of the next file, and just the records before it are announced
pub record IsWaiting (D : Copying) (d gate : ℕ) (path : List ℕ) (recs : List Rec) (rec : Rec) (L : List Event) : Type 0 where
  pub waits : Waits D d L recs gate path rec
  pub told : ToldOf D d L ≡ progress D.work.plan (Begun recs)

-- an offload of so many files was begun on drive d and that was said, or a first part of it was done
abbrev pub BeginsAloud : ℕ → List ℕ → ℕ → Bool → World → World → Type 0
BeginsAloud d journal count ok old new = (D : Copying) → IsCopying D → count ≡ length D.work.plan.files → (past : List Event) →
    Since past (IsUnbegun D d journal) old → Since past (Reaches D d ok (IsRecorded D d [])) new

-- a file was recorded on drive d and that was said, or a first part of it was done
abbrev pub RecordsAloud : ℕ → ℕ → List ℕ → Rec → ℕ → Bool → World → World → Type 0
RecordsAloud d gate path rec count ok old new = (D : Copying) → IsCopying D → count ≡ length D.work.plan.files → (recs : List Rec) (past : List Event) →
    Since past (IsWaiting D d gate path recs rec) old → Since past (Reaches D d ok (IsRecorded D d (recs ++ rec ∷ []))) new

-- drive d is honest and began as this map, with which the offload found it behind those calls, and the card of the offload is steady
pub record IsTrue (D : Copying) (s d : ℕ) (attached : Map) (past : List Event) (w : World) : Type 0 where
  pub honest : w.attached.honest d ≡ true
  pub start : w.attached.start d ≡ Some attached
  pub found : reads attached past d ≡ D.start
  pub steady : Steady w s D.work.card

-- one record is on the drive, at rest, and just it is announced
pub record HasFirst (D : Copying) (d : ℕ) (L : List Event) : Type 0 where
  pub rec : Rec
  pub recorded : IsRecorded D d (rec ∷ []) L

-- the first file of a plan was copied to drive d, on which its offload was begun, and recorded, or a first part of that was done
abbrev pub CopiesFirst : ℕ → ℕ → PlanValue → Bool → World → World → Type 0
CopiesFirst s d p ok old new = (D : Copying) → IsCopying D → p ≡ D.work.plan → (attached : Map) (past : List Event) → IsTrue D s d attached past old →
    Since past (IsRecorded D d []) old → Since past (Reaches D d ok (HasFirst D d)) new
