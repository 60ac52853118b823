-- A run in which nothing fails.
use Rattle.std.specs.Prelude.{◌≡◌, ℕ, suc, true, false, if◌then◌else◌, List, [], ◌∷◌, length, Some, None}
use Rattle.std.specs.List.{slice_get}
use Rattle.bay_core.specs.Map.{Map, content}
use Rattle.bay_core.specs.Replay.{Device}
use Rattle.bay_core.specs.World.{World, Rose, Steady}
use Rattle.digest_set.specs.Triple.{triple}
use Rattle.copy_plan.specs.declared.file.PlannedFile.{PlannedFile}
use Rattle.fan_core.specs.Flags.{has}
use Rattle.run_state.specs.declared.outcome.Outcome.TheVariants.{Finished}
use Rattle.run_state.specs.declared.phase.Phase.TheVariants.{Ended}
use Rattle.run_state.specs.Acts.{other_listed}
use Rattle.run_state.specs.Runs.{Point}
use Rattle.run_state.specs.State.{Ordered, DriveAt, drive_at, is_gone, is_of_run, count_sealed}
use Rattle.run_ends.specs.Known.{IsHonest}

-- no count rose
abbrev pub NoneRose : World → World → Type 0
NoneRose old new = (x : Device) → Rose (old.faults x) (new.faults x) → ⊥

-- Nothing is wrong with what a run has: its card is steady, and has each planned file with its size; a source list, if there is one, has no other
-- digests of it; and each drive of the run is honest, of which there is one at least.
pub record AreSound (o : Ordered) (a : Point) (card : Map) : Type 0 where
  pub steady : Steady a.world o.source card
  pub sizes : (i : ℕ) (file : PlannedFile) → slice_get o.plan.files i ≡ Some file → length (content card file.path) ≡ file.size
  pub agree : (i : ℕ) (file : PlannedFile) → slice_get o.plan.files i ≡ Some file → other_listed o.listed i (triple (content card file.path)) ≡ None
  pub honest : (d : ℕ) → is_gone (drive_at a.at.drives.each d) ≡ false → IsHonest a.world d
  pub some : (d : ℕ) × (is_gone (drive_at a.at.drives.each d) ≡ false)

-- how many drives are of the run
abbrev pub count_there : List DriveAt → ℕ
count_there [] = 0
count_there (x ∷ each) = if is_gone x then count_there each else suc (count_there each)

-- the run has finished, each drive that was of it is sealed, and so many are sealed as were of it
pub record IsAllSealed (a b : Point) : Type 0 where
  pub finished : b.at.outcome ≡ Finished
  pub each : (d : ℕ) → is_of_run a.at.drives d ≡ true → has b.at.drives.sealed d ≡ true
  pub count : count_sealed b.at.drives.each ≡ count_there a.at.drives.each

-- no drive was dropped; and once the run has ended, all are sealed
pub record IsComplete (a b : Point) : Type 0 where
  pub none : (d : ℕ) → has b.at.drives.dropped d ≡ false
  pub ends : b.at.phase ≡ Ended → IsAllSealed a b
