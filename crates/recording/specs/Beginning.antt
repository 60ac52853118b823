-- An offload begins on a drive, or one that was begun goes on.
use Rattle.std.specs.Prelude.{◌≡◌, ℕ, Bool, true, List, [], ◌∷◌, ◌++◌, Option, Some, None, IfSome}
use Rattle.std.specs.FinMap.{get}
use Rattle.bay_core.specs.declared.event.Event.{Event}
use Rattle.bay_core.specs.Map.{Map}
use Rattle.bay_core.specs.Paths.{new_path, part_path}
use Rattle.bay_core.specs.Replay.{reads}
use Rattle.bay_core.specs.World.{World}
use Rattle.crash_law.specs.Protocol.{Settled}
use Rattle.copy_plan.specs.declared.file.PlannedFile.{PlannedFile}
use Rattle.copy_plan.specs.Fields.{plan_code}
use Rattle.copy_plan.specs.Plan.{list_of}
use Rattle.drive_journal.specs.declared.record.Rec.{Rec}
use Rattle.offload_law.specs.Stages.{Fresh, Begun}
use Rattle.offload_law.specs.Steps.{IsNext}
use Rattle.recording.specs.Drives.{Copying, IsCopying, In, Keeps, ToldOf, UnderWay}

-- nothing was begun on the drive, the list has no file, and the bytes are a journal of the plan with no record
pub record ReadyToBegin (D : Copying) (d : ℕ) (L : List Event) (journal : List ℕ) : Type 0 where
  pub fresh : In D d L (Settled Fresh)
  pub no_list : get (reads D.start L d) (list_of D.work.plan) ≡ None
  pub journal_is : journal ≡ plan_code D.work.plan ++ 0 ∷ []

-- an offload was begun on drive d, or a first part of that was done
pub record Begins (d : ℕ) (journal : List ℕ) (ok : Bool) (old new : World) : Type 0 where
  pub keeps : (D : Copying) → IsCopying D → (past before all : List Event) → old.events ≡ Some (past ++ before) → new.events ≡ Some (past ++ all) →
      ReadyToBegin D d before journal → Keeps D d all × (ToldOf D d all ≡ ToldOf D d before)
  pub done : ok ≡ true → (D : Copying) → IsCopying D → (past before all : List Event) → old.events ≡ Some (past ++ before) → new.events ≡ Some (past ++ all) →
      ReadyToBegin D d before journal → In D d all (Settled (Begun []))

-- after it no file waits for its name, and there is no part
pub record Cleared (d : ℕ) (ok : Bool) (old new : World) : Type 0 where
  pub no_new : ok ≡ true → (m : Map) (before all : List Event) → old.events ≡ Some before → new.events ≡ Some all → get (reads m all d) new_path ≡ None
  pub no_part : ok ≡ true → (m : Map) (before all : List Event) → old.events ≡ Some before → new.events ≡ Some all → get (reads m all d) part_path ≡ None

-- an offload with these records is at rest on the drive, and a path that is to be removed is that of the next file
pub record ReadyToRejoin (D : Copying) (d : ℕ) (L : List Event) (recs : List Rec) (also : Option (List ℕ)) : Type 0 where
  pub now : In D d L (Settled (Begun recs))
  pub next_path : IfSome also (λ path. (f : PlannedFile) × IsNext D.work.plan recs f × (path ≡ f.path))

-- scratch files and a path were removed, or some of them
pub record Rejoins (d : ℕ) (also : Option (List ℕ)) (old new : World) : Type 0 where
  pub keeps : (D : Copying) → IsCopying D → (recs : List Rec) (past before all : List Event) → old.events ≡ Some (past ++ before) → new.events ≡ Some (past ++ all) →
      ReadyToRejoin D d before recs also → UnderWay D d all recs × (ToldOf D d all ≡ ToldOf D d before)
