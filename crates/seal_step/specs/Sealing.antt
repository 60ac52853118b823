-- A drive is sealed by the list of its offload.
use Rattle.std.specs.Prelude.{◌≡◌, ℕ, ◌≤◌, Bool, true, List, ◌++◌, length, Some, None}
use Rattle.std.specs.FinMap.{get}
use Rattle.bay_core.specs.declared.event.Event.{Event}
use Rattle.bay_core.specs.Paths.{new_path}
use Rattle.bay_core.specs.Replay.{reads}
use Rattle.bay_core.specs.World.{World}
use Rattle.crash_law.specs.Protocol.{Settled}
use Rattle.path_text.specs.Moment.{last_moment}
use Rattle.copy_plan.specs.Plan.{list_of}
use Rattle.drive_journal.specs.declared.record.Rec.{Rec}
use Rattle.offload_law.specs.Sealing.{plan_list_text}
use Rattle.offload_law.specs.Stages.{Begun, Sealed, progress}
use Rattle.recording.specs.Drives.{Copying, IsCopying, In, Keeps, ToldOf, UnderWay}

-- every file is recorded and announced, no file waits for its name, the finish is a moment, and the text is that of the list
pub record ReadyToSeal (D : Copying) (d : ℕ) (L : List Event) (recs : List Rec) (finish : ℕ) (list text : List ℕ) : Type 0 where
  pub under_way : UnderWay D d L recs
  pub told : progress D.work.plan (Begun recs) ≤ ToldOf D d L
  pub full : length recs ≡ length D.work.plan.files
  pub no_scratch : get (reads D.start L d) new_path ≡ None
  pub list_is : list ≡ list_of D.work.plan
  pub text_is : text ≡ plan_list_text D.work.plan recs finish
  pub moment : finish ≤ last_moment

-- the list was sealed, or a first part of that was done
pub record Seals (d : ℕ) (list text : List ℕ) (ok : Bool) (old new : World) : Type 0 where
  pub keeps : (D : Copying) → IsCopying D → (recs : List Rec) (finish : ℕ) (past before all : List Event) → old.events ≡ Some (past ++ before) → new.events ≡ Some (past ++ all) →
      ReadyToSeal D d before recs finish list text → Keeps D d all × (ToldOf D d all ≡ ToldOf D d before)
  pub done : ok ≡ true → (D : Copying) → IsCopying D → (recs : List Rec) (finish : ℕ) (past before all : List Event) → old.events ≡ Some (past ++ before) → new.events ≡ Some (past ++ all) →
      ReadyToSeal D d before recs finish list text → In D d all (Settled (Sealed recs finish))
