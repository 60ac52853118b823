-- An offload onto one drive, in the calls of a run.
use Rattle.std.specs.Prelude.{◌≡◌, ℕ, suc, ◌≤◌, List, ◌++◌}
use Rattle.bay_core.specs.declared.event.Event.{Event}
use Rattle.bay_core.specs.Left.{Left, IsSettled}
use Rattle.bay_core.specs.Map.{Map}
use Rattle.bay_core.specs.Replay.{reads}
use Rattle.crash_law.specs.Protocol.{State, reached, MayPrepare, IsIn, Announced}
use Rattle.copy_plan.specs.Plan.{IsPlan}
use Rattle.drive_journal.specs.declared.record.Rec.{Rec}
use Rattle.offload_law.specs.Stages.{Offload, Stage, Begun, IsAt, IsAfter, KeepsRest, progress}
use Rattle.offload_law.specs.Steps.{offload}

-- an offload, the map with which the run found its drive, and its stage then
pub record Copying : Type 0 where
  pub work : Offload
  pub start : Map
  pub stage : Stage

-- the plan is one, and the drive was found at that stage
pub record IsCopying (D : Copying) : Type 0 where
  pub plan : IsPlan D.work.plan
  pub at : IsAt D.work D.start D.stage

-- the calls of a run have led drive d to this state
abbrev pub In : (D : Copying) (d : ℕ) → List Event → State (offload d D.work D.start) → Type 0
In D d L x = IsIn (offload d D.work D.start) d D.start D.stage L x

-- the run keeps to the steps on drive d
pub record Keeps (D : Copying) (d : ℕ) (L : List Event) : Type 0 where
  pub state : State (offload d D.work D.start)
  pub is_in : In D d L state

-- the number of steps that are announced for drive d
abbrev pub ToldOf : Copying → ℕ → List Event → ℕ
ToldOf D d L = Announced (offload d D.work D.start) (progress D.work.plan D.stage) L

-- a map with a prefix of the steps that holds every announced one, and at most one more
pub record HoldsPrefix (D : Copying) (d : ℕ) (L : List Event) (I : Map) : Type 0 where
  pub steps : ℕ
  pub after : IsAfter D.work I steps
  pub rest : KeepsRest D.work.plan I D.start steps
  pub announced : ToldOf D d L ≤ steps
  pub at_most_one : steps ≤ suc (ToldOf D d L)

-- Before the run these calls were made, over a drive that was attached with this map; they left it at rest, with the map with which the
-- run found it.
pub record IsFound (D : Copying) (d : ℕ) (attached : Map) (past : List Event) : Type 0 where
  pub settled : IsSettled attached past d
  pub start : reads attached past d ≡ D.start

-- wherever a run stops behind those calls, drive d is left with a prefix of the steps
abbrev pub LeavesPrefix : Copying → ℕ → Map → List Event → List Event → Type 0
LeavesPrefix D d attached past all = (L more : List Event) → all ≡ L ++ more → (I : Map) → Left attached (past ++ L) d I → HoldsPrefix D d L I

-- these records are on the drive, and of the next file some bytes may be pending
pub record UnderWay (D : Copying) (d : ℕ) (L : List Event) (recs : List Rec) : Type 0 where
  pub state : State (offload d D.work D.start)
  pub is_in : In D d L state
  pub free : MayPrepare state
  pub at : reached state ≡ Begun recs
