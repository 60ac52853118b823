-- What any number of turns leave of the offload of one drive.
use Rattle.std.specs.Prelude.{◌≡◌, ◌≢◌, ℕ, ◌≤◌, true, false, List, length, Some}
use Rattle.std.specs.List.{slice_get}
use Rattle.bay_core.specs.declared.event.Event.{Event}
use Rattle.bay_core.specs.Map.{Map, content}
use Rattle.bay_core.specs.World.{Steady}
use Rattle.copy_plan.specs.declared.file.PlannedFile.{PlannedFile}
use Rattle.copy_plan.specs.Plan.{PlanValue}
use Rattle.offload_law.specs.Stages.{card_bytes}
use Rattle.recording.specs.Drives.{Copying, IsCopying, Keeps, IsFound, LeavesPrefix}
use Rattle.run_state.specs.declared.outcome.Outcome.TheVariants.{OutFailed}
use Rattle.run_state.specs.Acts.{records_at}
use Rattle.run_state.specs.Runs.{Point}
use Rattle.run_state.specs.State.{Ordered, DriveAt, drive_at, is_gone}
use Rattle.run_steps.specs.Stands.{Since, Stands, Awaits}

-- the card has D's bytes of each planned file that a drive that stands so has no record of
abbrev pub HasTheRest : PlanValue → Map → Copying → DriveAt → Type 0
HasTheRest p card D x = (j : ℕ) (file : PlannedFile) → slice_get p.files j ≡ Some file → length (records_at x) ≤ j → content card file.path ≡ card_bytes D.work.card file

-- Drive d is one of the run, and honest, and D is the offload that the run goes on with there: by the run's plan, from the map that the drive had
-- behind those calls, and from a steady card with D's bytes of the files that are not recorded yet. What the run has of the drive is so.
pub record IsFor (o : Ordered) (d : ℕ) (D : Copying) (attached card : Map) (past : List Event) (a : Point) : Type 0 where
  pub of_run : is_gone (drive_at a.at.drives.each d) ≡ false
  pub honest : a.world.attached.honest d ≡ true
  pub start : a.world.attached.start d ≡ Some attached
  pub offload : IsCopying D
  pub plan : D.work.plan ≡ o.plan
  pub found : IsFound D d attached past
  pub steady : Steady a.world o.source card
  pub rest : HasTheRest o.plan card D (drive_at a.at.drives.each d)
  pub awaits : Since past (Awaits D d a.at.phase (drive_at a.at.drives.each d)) a.world

-- The drive keeps to the steps, so that each stop leaves a prefix of them that holds what was announced; and unless a line was not said, what the
-- run has of the drive is so.
pub record KeepsToTheSteps (d : ℕ) (D : Copying) (attached : Map) (past : List Event) (b : Point) : Type 0 where
  pub keeps : Since past (Keeps D d) b.world
  pub leaves : Since past (LeavesPrefix D d attached past) b.world
  pub stands : b.at.outcome ≢ OutFailed → Since past (Stands D d (drive_at b.at.drives.each d)) b.world
