-- What is known of the offload of one drive by where the drive stands in a run.
use Rattle.std.specs.Prelude.{◌≡◌, ℕ, ◌≤◌, List, ◌++◌, Some, None}
use Rattle.std.specs.FinMap.{get}
use Rattle.bay_core.specs.declared.event.Event.{Event}
use Rattle.bay_core.specs.Replay.{reads}
use Rattle.bay_core.specs.World.{World}
use Rattle.crash_law.specs.Protocol.{Settled}
use Rattle.copy_plan.specs.Plan.{list_of}
use Rattle.drive_journal.specs.declared.record.Rec.{Rec}
use Rattle.offload_law.specs.Stages.{Fresh as FreshStage, Begun as BegunStage, Sealed as SealedStage, progress}
use Rattle.recording.specs.Drives.{Copying, In, Keeps, ToldOf, UnderWay}
use Rattle.run_state.specs.declared.phase.Phase.{Phase}
use Rattle.run_state.specs.declared.phase.Phase.TheVariants.{Begins}
use Rattle.run_state.specs.State.{DriveAt, Gone, Fresh, Begun, Found, Sealed}

-- where a world tells its calls, they are these of before, and then such ones
pub record Since (past : List Event) (P : List Event → Type 0) (w : World) : Type 0 where
  pub calls : (all : List Event) → w.events ≡ Some all → (L : List Event) × (all ≡ past ++ L) × P L

-- nothing of the offload is on the drive, nor a file under the name of its list
pub record IsFresh (D : Copying) (d : ℕ) (L : List Event) : Type 0 where
  pub now : In D d L (Settled FreshStage)
  pub no_list : get (reads D.start L d) (list_of D.work.plan) ≡ None

-- the drive has these records, each of them was announced, and of the next file some bytes may be pending
pub record HasSaid (D : Copying) (d : ℕ) (recs : List Rec) (L : List Event) : Type 0 where
  pub under_way : UnderWay D d L recs
  pub told : progress D.work.plan (BegunStage recs) ≤ ToldOf D d L

-- the drive is sealed with these records, and nothing is pending
pub record IsSealed (D : Copying) (d : ℕ) (recs : List Rec) (L : List Event) : Type 0 where
  pub finish : ℕ
  pub now : In D d L (Settled (SealedStage recs finish))

-- the drive is sealed with some records, and each step was announced
pub record HasSaidAll (D : Copying) (d : ℕ) (L : List Event) : Type 0 where
  pub recs : List Rec
  pub sealed : IsSealed D d recs L
  pub told : progress D.work.plan (SealedStage recs sealed.finish) ≤ ToldOf D d L

-- what is known of the offload D of a drive that stands so: of one that was dropped, that it keeps to the steps
abbrev pub Stands : Copying → ℕ → DriveAt → List Event → Type 0
Stands D d Gone L = Keeps D d L
Stands D d Fresh L = IsFresh D d L
Stands D d (Begun recs gate kept) L = HasSaid D d recs L
Stands D d (Found recs) L = IsSealed D d recs L
Stands D d Sealed L = HasSaidAll D d L

-- drive d is still to be begun where this is done next
abbrev pub IsToBegin : ℕ → Phase → Type 0
IsToBegin d (Begins e) = e ≤ d
IsToBegin d _ = ⊥

-- nothing is pending on a drive that has a journal
abbrev pub Rests : Copying → ℕ → DriveAt → List Event → Type 0
Rests D d (Begun recs gate kept) L = In D d L (Settled (BegunStage recs))
Rests D d _ L = Unit {0}

-- what is known of a drive before turns, of which the first does this: how it stands, and that nothing is pending on it if it is still to be begun
pub record Awaits (D : Copying) (d : ℕ) (phase : Phase) (x : DriveAt) (L : List Event) : Type 0 where
  pub stands : Stands D d x L
  pub rests : IsToBegin d phase → Rests D d x L
