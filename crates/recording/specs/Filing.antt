-- A file that is whole in the part is settled, read again, and recorded.
use Rattle.std.specs.Prelude.{◌≡◌, ◌⊎◌, ℕ, ◌≤◌, Bool, true, false, List, [], ◌∷◌, ◌++◌, length, Some, Result, Ok, Err, None}
use Rattle.std.specs.FinMap.{get}
use Rattle.bay_core.specs.declared.event.Event.{Event}
use Rattle.bay_core.specs.declared.event.Event.TheVariants.{Sync}
use Rattle.bay_core.specs.Map.{Map}
use Rattle.bay_core.specs.Paths.{new_path, part_path}
use Rattle.bay_core.specs.Replay.{Drive, reads}
use Rattle.bay_core.specs.World.{World, Honest, Rose}
use Rattle.bay_core.specs.Went.{Ran, Then, IsCall, sync_call}
use Rattle.crash_law.specs.Protocol.{Settled}
use Rattle.copy_plan.specs.declared.file.PlannedFile.{PlannedFile}
use Rattle.drive_journal.specs.declared.record.Gate.{Gate}
use Rattle.drive_journal.specs.declared.record.Rec.{Rec}
use Rattle.drive_journal.specs.Calls.{place_calls, open_calls}
use Rattle.drive_journal.specs.Journal.{journal_code}
use Rattle.drive_journal.specs.Record.{closed_record}
use Rattle.offload_law.specs.Stages.{Begun, IsTrueRecord, card_bytes, progress}
use Rattle.offload_law.specs.Steps.{IsNext}
use Rattle.read_back.specs.declared.back.ReadBackError.{ReadBackError}
use Rattle.read_back.specs.declared.back.ReadBackError.TheVariants.{DriveFailed}
use Rattle.read_back.specs.Back.{ReadBackCalls, HasCopy}
use Rattle.recording.specs.Drives.{Copying, IsCopying, In, Keeps, ToldOf, UnderWay}

-- the part is read again, and this came of it
abbrev pub BackCalls : ℕ → Rec → Result Unit ReadBackError → List Event → Type 0
BackCalls d rec r L = (bytes : List ℕ) × ReadBackCalls d part_path rec.size rec.triple r bytes L

-- first the barrier, and then such calls
abbrev pub Settles : ℕ → (List Event → Type 0) → List Event → Type 0
Settles d P L = Then (IsCall (Sync d true)) P L

-- the calls of the act by what came of it: a barrier; the read-back; and where it was good, the path, the record and the gate
abbrev pub RecordCalls : ℕ → ℕ → List ℕ → Rec → Result Gate ReadBackError → List Event → Type 0
RecordCalls d gate path rec (Ok next) L = Settles d (Then (BackCalls d rec (Ok tt)) (Ran (place_calls d gate path (closed_record rec) ++ open_calls d gate) true)) L
RecordCalls d gate path rec (Err DriveFailed) L = Ran (sync_call d ∷ []) false L
    ⊎ Settles d (BackCalls d rec (Err DriveFailed)) L
    ⊎ Settles d (Then (BackCalls d rec (Ok tt)) (Ran (place_calls d gate path (closed_record rec) ++ open_calls d gate) false)) L
RecordCalls d gate path rec (Err e) L = Settles d (BackCalls d rec (Err e)) L

-- a call failed only where the count rose
abbrev pub RecordCause : ℕ → Result Gate ReadBackError → World → World → Type 0
RecordCause d result old new = result ≡ Err DriveFailed → Rose (old.faults (Drive d)) (new.faults (Drive d))

-- it went well, or a call failed
abbrev pub OkOrFault : Result Gate ReadBackError → Type 0
OkOrFault (Ok next) = Unit {0}
OkOrFault (Err DriveFailed) = Unit {0}
OkOrFault (Err e) = ⊥

-- an honest drive that had the recorded bytes in its part is found to have them
pub record FailsAlone (d : ℕ) (rec : Rec) (result : Result Gate ReadBackError) (old new : World) : Type 0 where
  pub only : (m : Map) (before all : List Event) → Honest old d m before → new.events ≡ Some all → HasCopy rec.size rec.triple (get (reads m before d) part_path) → OkOrFault result

-- the records are announced, the next file is in the part, settled or not, the record is true of it, and the gate is right behind the records
pub record Waits (D : Copying) (d : ℕ) (L : List Event) (recs : List Rec) (gate : ℕ) (path : List ℕ) (rec : Rec) : Type 0 where
  pub under_way : UnderWay D d L recs
  pub told : progress D.work.plan (Begun recs) ≤ ToldOf D d L
  pub file : PlannedFile
  pub next : IsNext D.work.plan recs file
  pub gate_is : gate ≡ length (journal_code D.work.plan recs)
  pub path_is : path ≡ file.path
  pub part : get (reads D.start L d) part_path ≡ Some (card_bytes D.work.card file)
  pub sized : rec.size ≡ file.size
  pub true_record : IsTrueRecord (length recs) (card_bytes D.work.card file) rec

-- the same with nothing pending
pub record Ready (D : Copying) (d : ℕ) (L : List Event) (recs : List Rec) (gate : ℕ) (path : List ℕ) (rec : Rec) : Type 0 where
  pub now : In D d L (Settled (Begun recs))
  pub waits : Waits D d L recs gate path rec

-- a file was placed and its gate opened on drive d, or a first part of that was done
pub record Files (d gate : ℕ) (path : List ℕ) (rec : Rec) (ok : Bool) (old new : World) : Type 0 where
  pub keeps : (D : Copying) → IsCopying D → (recs : List Rec) (past before all : List Event) → old.events ≡ Some (past ++ before) → new.events ≡ Some (past ++ all) →
      Ready D d before recs gate path rec → Keeps D d all
  pub done : ok ≡ true → (D : Copying) → IsCopying D → (recs : List Rec) (past before all : List Event) → old.events ≡ Some (past ++ before) → new.events ≡ Some (past ++ all) →
      Ready D d before recs gate path rec → In D d all (Settled (Begun (recs ++ rec ∷ [])))

-- a file was read again and recorded on drive d, or a first part of that was done
pub record Records (d gate : ℕ) (path : List ℕ) (rec : Rec) (ok : Bool) (old new : World) : Type 0 where
  pub keeps : (D : Copying) → IsCopying D → (recs : List Rec) (past before all : List Event) → old.events ≡ Some (past ++ before) → new.events ≡ Some (past ++ all) →
      Waits D d before recs gate path rec → Keeps D d all × (ToldOf D d all ≡ ToldOf D d before)
  pub done : ok ≡ true → (D : Copying) → IsCopying D → (recs : List Rec) (past before all : List Event) → old.events ≡ Some (past ++ before) → new.events ≡ Some (past ++ all) →
      Waits D d before recs gate path rec → In D d all (Settled (Begun (recs ++ rec ∷ [])))

-- after a recording that went well there is no part, and the file that waits for its name is as it was
pub record Cleans (d : ℕ) (ok : Bool) (old new : World) : Type 0 where
  pub no_part : ok ≡ true → (m : Map) (before all : List Event) → old.events ≡ Some before → new.events ≡ Some all → get (reads m all d) part_path ≡ None
  pub same_new : ok ≡ true → (m : Map) (before all : List Event) → old.events ≡ Some before → new.events ≡ Some all → get (reads m all d) new_path ≡ get (reads m before d) new_path
