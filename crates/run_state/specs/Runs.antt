-- Any number of turns of a run, and what others do between them.
use Rattle.std.specs.Prelude.{◌≡◌, ◌≢◌, ◌||◌, ℕ, Bool, true, false, nat_eq, List, [], ◌∷◌, codes, decimal}
use Rattle.std.specs.List.{starts_with, Contains}
use Rattle.bay_core.specs.declared.event.Event.{Event}
use Rattle.bay_core.specs.declared.event.Event.TheVariants.{SourceRead, Say}
use Rattle.bay_core.specs.Replay.{Device, Drive}
use Rattle.bay_core.specs.World.{World}
use Rattle.bay_core.specs.Went.{Went}
use Rattle.block_pool.specs.Lent.{PoolState}
use Rattle.copy_plan.specs.declared.file.PlannedFile.{PlannedFile}
use Rattle.copy_plan.specs.Plan.{PlanValue}
use Rattle.fan_copier.specs.Keeping.{KeepsBlocks}
use Rattle.report_text.specs.Fields.{fields}
use Rattle.run_state.specs.Rules.{slots_in}
use Rattle.run_state.specs.State.{Ordered, Drives, At, is_of_run}
use Rattle.run_state.specs.Turn.{Turned}

-- a run, its pool and the outside between two turns
pub record Point : Type 0 where
  pub at : At
  pub pool : PoolState
  pub world : World

-- a line that begins with this word and the number of drive k
abbrev pub begins_with : List ℕ → ℕ → List ℕ → Bool
begins_with word k line = starts_with nat_eq line (fields word (decimal k ∷ [] ∷ []))

-- a line about drive k
abbrev pub is_about : ℕ → List ℕ → Bool
is_about k line = begins_with (codes "begun") k line || (begins_with (codes "done") k line || (begins_with (codes "sealed") k line || begins_with (codes "dropped") k line))

-- a line about none of the run's drives
abbrev pub IsAboutNone : Drives → List ℕ → Type 0
IsAboutNone drives line = (k : ℕ) → is_of_run drives k ≡ true → is_about k line ≡ false

-- the path of a planned file
abbrev pub IsPlanned : PlanValue → List ℕ → Type 0
IsPlanned p path = (file : PlannedFile) × Contains p.files file × (path ≡ file.path)

-- a call that reads no planned file of the run's card, and says no line about its drives
abbrev pub IsBeside : Ordered → Drives → Event → Type 0
IsBeside o drives (SourceRead s path at want got) = s ≡ o.source → IsPlanned o.plan path → ⊥
IsBeside o drives (Say line ok) = IsAboutNone drives line
IsBeside o drives _ = Unit {0}

-- such calls alone
unfoldable pub AreBeside : Ordered → Drives → List Event → Type 0
AreBeside o drives [] = Unit {0}
AreBeside o drives (e ∷ L) = IsBeside o drives e × AreBeside o drives L

-- none of the run's drives
abbrev pub IsElsewhere : Drives → Device → Type 0
IsElsewhere drives x = (k : ℕ) → is_of_run drives k ≡ true → x ≢ Drive k

-- What others did between two turns: they made no call on a drive of the run, read no planned file of its card, said no line about its drives,
-- and left the blocks of its copy as they were.
pub record Beside (o : Ordered) (b c : Point) : Type 0 where
  pub same : c.at ≡ b.at
  pub went : Went (IsElsewhere b.at.drives) (AreBeside o b.at.drives) b.world c.world
  pub blocks : KeepsBlocks (slots_in b.at.phase) b.pool c.pool

-- turns lead from one point to another, one after another, and nothing was done between them
pub data Alone (o : Ordered) (a : Point) : Point → Type 0 where
  still : Alone o a a
  turned : {b c : Point} → Alone o a b → Turned o b.at c.at b.pool c.pool b.world c.world → Alone o a c

-- any number of turns lead from one point to another, with what others did between them
pub data Runs (o : Ordered) (a : Point) : Point → Type 0 where
  starts : Runs o a a
  turns : {b c : Point} → Runs o a b → Turned o b.at c.at b.pool c.pool b.world c.world → Runs o a c
  beside : {b c : Point} → Runs o a b → Beside o b c → Runs o a c
