-- A run of a job, as its promises see it: docs/MODEL.md, "A run of a job".
use Rattle.std.specs.Prelude.{◌≡◌, ℕ, ◌<◌, true, List, ◌∷◌, ◌++◌, Some}
use Rattle.std.specs.List.{AllByRecursion}
use Rattle.bay_core.specs.declared.event.Event.{Event}
use Rattle.bay_core.specs.Map.{Map, Dates}
use Rattle.bay_core.specs.World.{World}
use Rattle.command_words.specs.Jobs.{Job}

-- One run: its job, its calls from the moment at which the station was called, and the outside before and after. No device was attached before.
pub record Run : Type 0 where
  pub job : Job
  pub events : List Event
  pub before : World
  pub after : World

-- the run of a job with these calls
abbrev pub run_with : Job → World → World → List Event → Run
run_with job old new since = record { job = job; events = since; before = old; after = new }

-- drive d was attached, is honest, and had this map then
pub record IsHonest (run : Run) (d : ℕ) (start : Map) : Type 0 where
  pub there : d < run.after.attached.drives
  pub honest : run.after.attached.honest d ≡ true
  pub had : run.after.attached.start d ≡ Some start

-- the card was attached, is steady, and has this map and these dates
pub record IsSteady (run : Run) (card : Map) (dates : Dates) : Type 0 where
  pub there : 0 < run.after.attached.sources
  pub steady : run.after.attached.steady 0 ≡ true
  pub has : run.after.attached.card 0 ≡ Some card
  pub dated : run.after.attached.card_dates 0 ≡ dates

-- this is the first of these calls that is such
pub record IsFirstCall (Such : Event → Type 0) (L : List Event) (e : Event) : Type 0 where
  pub before : List Event
  pub after : List Event
  pub is : L ≡ before ++ e ∷ after
  pub such : Such e
  pub none : AllByRecursion (λ x. Such x → ⊥) before
