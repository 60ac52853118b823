-- A run of a job that told its calls: docs/MODEL.md, "The calls of a run of a job".
use Rattle.std.specs.Prelude.{◌≡◌, ℕ, ◌≤◌, List, ◌++◌, length, Some}
use Rattle.bay_core.specs.declared.event.Event.{Event}
use Rattle.bay_core.specs.World.{World}
use Rattle.command_words.specs.Jobs.{Job}
use Rattle.job_story.specs.Ends.{JobEnd}
use Rattle.job_story.specs.Story.{Story}

-- A run of a job to at most eight drives, which ended so, over a bay that tells its calls. Nothing was attached before it; `past` are the calls before it, and
-- `since` its own.
pub record RanTold (job : Job) (end : JobEnd) (result : ℕ) (old new : World) (past since : List Event) : Type 0 where
  pub story : Story job end result old new
  pub few : length job.drives ≤ 8
  pub no_card : old.attached.sources ≡ 0
  pub no_drive : old.attached.drives ≡ 0
  pub was : old.events ≡ Some past
  pub now : new.events ≡ Some (past ++ since)
