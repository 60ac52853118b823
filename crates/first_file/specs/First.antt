-- What the first file of an offload leaves on its drive.
use Rattle.std.specs.Prelude.{◌≡◌, ℕ, ◌<◌, Bool, true, List, [], ◌∷◌, ◌++◌, Some, None}
use Rattle.std.specs.FinMap.{get}
use Rattle.bay_core.specs.declared.event.Event.{Event}
use Rattle.bay_core.specs.declared.event.Event.TheVariants.{AttachDrive}
use Rattle.bay_core.specs.Map.{Map}
use Rattle.bay_core.specs.Paths.{journal_path}
use Rattle.bay_core.specs.World.{World, Honest, Steady}
use Rattle.bay_core.specs.Went.{AllOn}
use Rattle.copy_plan.specs.Plan.{PlanValue, list_of}
use Rattle.offload_law.specs.Stages.{Fresh}
use Rattle.recording.specs.Drives.{Copying, LeavesPrefix}
use Rattle.first_file.specs.Steps.{OfFile, HasFirst}

-- the offload of a card by a plan onto a drive with this map, on which nothing of it is done
abbrev pub fresh_offload : PlanValue → Map → Map → Copying
fresh_offload p card m = record { work = record { plan = p; card = card }; start = m; stage = Fresh }

-- the drive has no journal, and no file under the name of the plan's list
pub record IsFreshFor (p : PlanValue) (m : Map) : Type 0 where
  pub no_journal : get m journal_path ≡ None
  pub no_list : get m (list_of p) ≡ None

-- All calls are those of before, the attach of the drive, and others, on what a file that is copied to it comes from. Wherever those stop, the
-- drive is left with a prefix of the offload's steps that holds every announced one; after Ok the first file is recorded and announced.
pub record LeavesFirst (D : Copying) (place : List ℕ) (s d : ℕ) (ok : Bool) (old : World) (all : List Event) : Type 0 where
  pub before : List Event
  pub since : List Event
  pub was : old.events ≡ Some before
  pub is : all ≡ (before ++ AttachDrive d place ∷ []) ++ since
  pub on : AllOn (OfFile s d) since
  pub prefix : LeavesPrefix D d D.start (before ++ AttachDrive d place ∷ []) since
  pub done : ok ≡ true → HasFirst D d since

-- so it is of a drive that was attached, is honest and was fresh, and of a steady card
abbrev pub OffloadsFirst : List ℕ → ℕ → PlanValue → Bool → World → World → Type 0
OffloadsFirst place s p ok old new = (m card : Map) (all : List Event) → old.attached.drives < new.attached.drives → Honest new old.attached.drives m all → Steady new s card →
    IsFreshFor p m → LeavesFirst (fresh_offload p card m) place s old.attached.drives ok old all
