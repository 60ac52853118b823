-- How a run of a job goes, part by part: its attaches, its opening, its memory, its turns, its last lines: docs/MODEL.md, "A run of a job".
use Rattle.std.specs.Prelude.{◌≡◌, ◌≢◌, ◌⊎◌, ℕ, length, Some, Result, Ok, Err, IfOk}
use Rattle.std.specs.List.{slice_get}
use Rattle.bay_core.specs.declared.failed.Failed.{Failed as DeviceFailed}
use Rattle.bay_core.specs.Attach.{CardAttaches}
use Rattle.bay_core.specs.Looks.{IsUntouched}
use Rattle.bay_core.specs.Map.{Map, AllDated}
use Rattle.bay_core.specs.Went.{Went}
use Rattle.bay_core.specs.World.{World, Steady}
use Rattle.block_pool.specs.Lent.{PoolState}
use Rattle.copy_plan.specs.declared.file.PlannedFile.{PlannedFile}
use Rattle.copy_plan.specs.Plan.{PlanValue}
use Rattle.drive_journal.specs.declared.order.Order.{Order}
use Rattle.fan_core.specs.Flags.{count}
use Rattle.fresh_opening.specs.declared.error.FreshError.{FreshError}
use Rattle.fresh_opening.specs.Openings.{Asked, FreshOpens, OfFresh, GivesOfCard, AreGoneBySaying}
use Rattle.fresh_opening.specs.Orders.{AreSettled, IsTrueOrder}
use Rattle.run_state.specs.declared.outcome.Outcome.{Outcome}
use Rattle.run_state.specs.declared.outcome.Outcome.TheVariants.{Going, Finished, NoDrive, SourceFailed, Changed, Altered, OutFailed as LineFailed}
use Rattle.run_state.specs.declared.phase.Phase.TheVariants.{Ended as IsEnded}
use Rattle.run_state.specs.Rules.{IsRun, IsStart}
use Rattle.run_state.specs.Runs.{Alone}
use Rattle.run_state.specs.State.{At}
use Rattle.offload_run.specs.declared.offload.Offload.{Offload}
use Rattle.offload_run.specs.Offload.{ordered_of, stands_at, IsRunOf}
use Rattle.last_lines.specs.Ends.{Ended}
use Rattle.command_words.specs.Jobs.{Task, Offloads, Job}
use Rattle.job_story.specs.Attaching.{AttachesAll, LacksDrive}
use Rattle.job_story.specs.Ends.{JobEnd, Sealed, Dropped, CardUnattached, DriveUnattached, CardFailed, CardChanged, OutFailed, NoMemory, last_of, opening_end}

-- ---- the opening

-- what a task asks of the plan
abbrev pub asked_by : Task → Asked
asked_by (Offloads name user host kinds) = record { name = name; user = user; host = host; kinds = kinds }

-- the opening of an offload of the card to all drives, and what it answered
pub record Opens (job : Job) (came : Result Order FreshError) (old new : World) : Type 0 where
  pub opens : FreshOpens 0 (length job.drives) job.copies (asked_by job.task) came old new
  pub true_order : IfOk came (λ order. AreSettled 0 (length job.drives) old → IsTrueOrder order new)
  pub of_card : (m : Map) → Steady old 0 m → AllDated m (old.attached.card_dates 0) → GivesOfCard m (old.attached.card_dates 0) came
  pub untouched : Went (OfFresh 0 (length job.drives)) IsUntouched old new
  pub gone : IfOk came (λ order. AreGoneBySaying 0 (length job.drives) order.drives.items old new)

-- ---- the turns

-- how a run of this plan to so many drives ends that has come to its end so
abbrev pub EndsAs : ℕ → PlanValue → At → Outcome → JobEnd → Type 0
EndsAs drives p at Finished end = ((count at.drives.sealed ≡ drives) × (end ≡ Sealed)) ⊎ ((count at.drives.sealed ≢ drives) × (end ≡ Dropped))
EndsAs drives p at NoDrive end = end ≡ Dropped
EndsAs drives p at SourceFailed end = end ≡ CardFailed
EndsAs drives p at (Changed index listed read) end = (file : PlannedFile) × (slice_get p.files index ≡ Some file) × (end ≡ CardChanged listed read file.path)
EndsAs drives p at LineFailed end = end ≡ OutFailed
EndsAs drives p at (Altered index listed read) end = ⊥
EndsAs drives p at Going end = ⊥

-- The run of an order, turned to its end, with nothing between its turns, and how it ended.
pub record Turns (job : Job) (order : Order) (end : JobEnd) (old new : World) : Type 0 where
  pub run : Offload
  pub of : IsRunOf order run
  pub starts : IsStart (ordered_of run) (stands_at run)
  pub then_run : Offload
  pub same : ordered_of then_run ≡ ordered_of run
  pub keeps : IsRun (ordered_of then_run) (stands_at then_run)
  pub pool : PoolState
  pub then_pool : PoolState
  pub alone : Alone (ordered_of run) (record { at = stands_at run; pool = pool; world = old }) (record { at = stands_at then_run; pool = then_pool; world = new })
  pub ended : (stands_at then_run).phase ≡ IsEnded
  pub ends : EndsAs (length job.drives) (ordered_of run).plan (stands_at then_run) (stands_at then_run).outcome end

-- ---- the whole

-- A run of a job that ended so: the card, or a drive, could not be attached; the opening gave no order; memory was wanting for the run; or it was turned to its end. Each
-- has the last lines and the status of its end.
pub data Story (job : Job) (end : JobEnd) (result : ℕ) (old new : World) : Type 0 where
  card_unattached : (error : DeviceFailed) (mid : World) → end ≡ CardUnattached → CardAttaches job.card (Err error) old mid → Ended (last_of end) result mid new → Story job end result old new
  drive_unattached : (d : ℕ) (mid : World) → end ≡ DriveUnattached d → LacksDrive job d old mid → Ended (last_of end) result mid new → Story job end result old new
  unopened : (e : FreshError) (mid late : World) → end ≡ opening_end e → AttachesAll job old mid → Opens job (Err e) mid late → Ended (last_of end) result late new → Story job end result old new
  unstocked : (order : Order) (mid late : World) → end ≡ NoMemory → AttachesAll job old mid → Opens job (Ok order) mid late → Ended (last_of end) result late new → Story job end result old new
  turned : (order : Order) (mid late done : World) → AttachesAll job old mid → Opens job (Ok order) mid late → Turns job order end late done → Ended (last_of end) result done new → Story job end result old new

-- a run of a job, however it ended
abbrev pub RanJob : Job → ℕ → World → World → Type 0
RanJob job result old new = (end : JobEnd) × Story job end result old new
