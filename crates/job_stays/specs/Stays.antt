-- Runs and stops, one after another: docs/MODEL.md, "The headline".
use Rattle.std.specs.Prelude.{ℕ, ◌≤◌, List}
use Rattle.bay_core.specs.declared.event.Event.{Event}
use Rattle.bay_core.specs.Left.{Left, IsPrefix}
use Rattle.bay_core.specs.Map.{Map, Dates}
use Rattle.offload_law.specs.Stages.{IsAfterOn, IsOurs}
use Rattle.true_start.specs.Stops.{IsAnnounced}
use Rattle.job_story.specs.Run.{Run, IsHonest, IsSteady}
use Rattle.job_steps.specs.Prefix.{CrashPrefix}

-- Whatever a stop after some calls of the run leaves of a drive that was ours is ours again, and is after at least the announced steps.
abbrev pub StaysOurs : Run → Type 0
StaysOurs run = (card : Map) (dates : Dates) → IsSteady run card dates → (d : ℕ) (start : Map) → IsHonest run d start → IsOurs card dates start
    → (L : List Event) → IsPrefix L run.events → (I : Map) → Left start L d I
    → IsOurs card dates I × ((told steps : ℕ) → IsAnnounced card dates start d L told → IsAfterOn card dates I steps → told ≤ steps)

-- A map that any number of runs on one steady card, each stopped at some moment, may leave of a drive that had this one. Each begins with what the last one left; the
-- drive is honest in each, under any number.
pub data LeftByRuns (card : Map) (dates : Dates) (base : Map) : Map → Type 0 where
  untouched : LeftByRuns card dates base base
  stopped : (start I : Map) → LeftByRuns card dates base start → (run : Run) → CrashPrefix run → IsSteady run card dates → (d : ℕ) → IsHonest run d start
      → (L : List Event) → IsPrefix L run.events → Left start L d I → LeftByRuns card dates base I

-- A drive that was ours stays ours over any number of such runs, and no step of it is taken back.
abbrev pub AfterRuns : Type 0
AfterRuns = (card : Map) (dates : Dates) (base I : Map) → IsOurs card dates base → LeftByRuns card dates base I
    → IsOurs card dates I × ((had steps : ℕ) → IsAfterOn card dates base had → IsAfterOn card dates I steps → had ≤ steps)
