-- How a run ends by its parts.
use Rattle.std.specs.Prelude.{ℕ}
use Rattle.copy_plan.specs.Plan.{PlanValue}
use Rattle.run_state.specs.declared.outcome.Outcome.{Outcome}
use Rattle.run_state.specs.State.{At}
use Rattle.job_story.specs.Ends.{JobEnd, CardUnattached, DriveUnattached}
use Rattle.job_story.specs.Story.{EndsAs}
use Rattle.job_run.specs.declared.attaching.Unattached.{Unattached}
use Rattle.job_run.specs.declared.attaching.Unattached.TheVariants.{Card, Drive}

-- the end of a run of which this was not attached
abbrev pub unattached_end : Unattached → JobEnd
unattached_end Card = CardUnattached
unattached_end (Drive d) = DriveUnattached d

-- a run has an end that came to this outcome
abbrev pub HasEnd : ℕ → PlanValue → At → Outcome → Type 0
HasEnd drives p at outcome = (end : JobEnd) × EndsAs drives p at outcome end
