-- Which paths of its drives a run of a job changes: docs/MODEL.md, "Laws of a run of a job".
use Rattle.std.specs.Prelude.{◌≡◌, ◌⊎◌, ℕ, true, List, Contains}
use Rattle.bay_core.specs.declared.event.Event.{Event}
use Rattle.bay_core.specs.declared.event.Event.TheVariants.{Write, Rename, Remove}
use Rattle.bay_core.specs.Looks.{is_effect}
use Rattle.bay_core.specs.Paths.{journal_path, new_path, part_path, IsScratch}
use Rattle.copy_plan.specs.Plan.{PlanValue, list_of}
use Rattle.run_state.specs.Runs.{IsPlanned}
use Rattle.job_story.specs.Plans.{IsRunPlan}
use Rattle.job_story.specs.Run.{Run}

-- bytes are written to a scratch file or to the journal
abbrev pub IsWritten : List ℕ → Type 0
IsWritten path = IsScratch path ⊎ (path ≡ journal_path)

-- the file that was written whole gets the name of the journal or of the plan's list, and the part that of a file of the plan
abbrev pub IsNamed : PlanValue → List ℕ → List ℕ → Type 0
IsNamed p from to = ((from ≡ new_path) × ((to ≡ journal_path) ⊎ (to ≡ list_of p))) ⊎ ((from ≡ part_path) × IsPlanned p to)

-- The call changes no path but the plan's own, done or not: it writes to a scratch file or to the journal, gives a scratch file one of the plan's names, or removes a
-- scratch file; or it changes nothing.
abbrev pub IsOwnChange : PlanValue → Event → Type 0
IsOwnChange p (Write d path at bytes ok) = IsWritten path
IsOwnChange p (Rename d from to ok) = IsNamed p from to
IsOwnChange p (Remove d path ok) = IsScratch path
IsOwnChange p _ = Unit {0}

-- Each call of a run that may change or settle a drive, done or not, is such by the run's plan. So a run that has no plan makes none.
abbrev pub ChangesItsOwn : Run → Type 0
ChangesItsOwn run = (e : Event) → Contains run.events e → is_effect e ≡ true → (p : PlanValue) × IsRunPlan run p × IsOwnChange p e
