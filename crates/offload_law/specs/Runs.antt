-- Runs and stops, one after another.
use Rattle.std.specs.Prelude.{ℕ, List, ◌++◌}
use Rattle.bay_core.specs.declared.event.Event.{Event}
use Rattle.bay_core.specs.Map.{Map, Dates}
use Rattle.bay_core.specs.Left.{Left}
use Rattle.copy_plan.specs.Plan.{PlanValue, IsPlan}
use Rattle.crash_law.specs.Protocol.{State, IsIn}
use Rattle.offload_law.specs.Stages.{Offload, Stage, IsAt, IsOfCard}
use Rattle.offload_law.specs.Steps.{offload}

-- a map that any number of runs, each stopped at some moment, may leave
pub data LeftByRuns (o : Offload) (base : Map) : Map → Type 0 where
  untouched : LeftByRuns o base base
  stopped : {start m : Map} → LeftByRuns o base start → (s : Stage) → IsAt o start s → (d : ℕ) (L more : List Event) (x : State (offload d o start)) →
      IsIn (offload d o start) d start s (L ++ more) x → Left start L d m → LeftByRuns o base m

-- A map that any number of runs on one card, each stopped at some moment, may leave. Each run has a plan of its own, at a stage of which
-- it found the drive.
pub data LeftByRunsOn (card : Map) (dates : Dates) (base : Map) : Map → Type 0 where
  untouched : LeftByRunsOn card dates base base
  stopped : {start m : Map} → LeftByRunsOn card dates base start → (p : PlanValue) → IsOfCard card dates p → IsPlan p → (s : Stage) → IsAt (record { plan = p; card = card }) start s →
      (d : ℕ) (L more : List Event) (x : State (offload d (record { plan = p; card = card }) start)) → IsIn (offload d (record { plan = p; card = card }) start) d start s (L ++ more) x →
      Left start L d m → LeftByRunsOn card dates base m
