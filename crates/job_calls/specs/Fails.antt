-- That a run of a job makes no call that must fail: docs/MODEL.md, "The calls of a run of a job".
use Rattle.std.specs.Prelude.{◌≡◌, ℕ, Bool, true, List, ◌∷◌, ◌++◌, Contains, Option, is_some}
use Rattle.std.specs.FinMap.{get}
use Rattle.bay_core.specs.declared.event.Event.{Event}
use Rattle.bay_core.specs.declared.event.Event.TheVariants.{SourceRead, Rename}
use Rattle.bay_core.specs.Map.{Map, Dates}
use Rattle.bay_core.specs.Replay.{reads}
use Rattle.job_story.specs.Run.{Run, IsHonest, IsSteady}

-- No count rises by the run itself: each read of a steady card, whatever its answer, names a file that the card has; and each rename on an honest drive, made or
-- not, one that the drive has then.
pub record FailsNone (run : Run) : Type 0 where
  pub card : (card : Map) (dates : Dates) → IsSteady run card dates → (path : List ℕ) (at want : ℕ) (got : Option (List ℕ)) → Contains run.events (SourceRead 0 path at want got) → is_some (get card path) ≡ true
  pub drive : (d : ℕ) (start : Map) → IsHonest run d start → (before after : List Event) (from to : List ℕ) (ok : Bool) → run.events ≡ before ++ Rename d from to ok ∷ after
      → is_some (get (reads start before d) from) ≡ true
