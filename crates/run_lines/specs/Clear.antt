-- When a run calls its card clear, and over which drives.
use Rattle.std.specs.Prelude.{◌≡◌, ◌↔◌, ℕ, ◌≤◌, Bool, true, nat_eq, List, [], ◌∷◌, ◌++◌, length, Some, Contains}
use Rattle.std.specs.List.{IsDistinct}
use Rattle.bay_core.specs.declared.event.Event.{Event}
use Rattle.bay_core.specs.declared.event.Event.TheVariants.{Say}
use Rattle.offload_law.specs.Clear.{IsCalledSealed}
use Rattle.report_text.specs.Run.{clear_text}
use Rattle.run_state.specs.Runs.{Point, Runs}
use Rattle.run_state.specs.State.{Ordered, Drives, is_of_run}
use Rattle.run_state.specs.Turn.{Turned}
use Rattle.run_lines.specs.Lines.{IsEnd}

-- these are the drives of the run whose line `sealed` is among these calls, each once
pub record AreSealedOf (run : Drives) (drives : List ℕ) (L : List Event) : Type 0 where
  pub once : IsDistinct nat_eq drives
  pub each : (d : ℕ) → Contains drives d ↔ (is_of_run run d ≡ true) × IsCalledSealed d L

-- The card is rightly called clear behind these calls, with these two numbers: the drives that are called sealed among the calls number the first;
-- the second is the number of sealed drives that is required, which is one at least, and no more than there are.
pub record IsClear (AreSealed : List ℕ → List Event → Type 0) (o : Ordered) (before : List Event) (count required : ℕ) : Type 0 where
  pub drives : List ℕ
  pub sealed : AreSealed drives before
  pub counted : length drives ≡ count
  pub ordered : required ≡ o.copies
  pub some : 1 ≤ required
  pub enough : required ≤ count

-- The call was made by a turn of the run on the way from a to b, as the turn's only call, behind these calls since the run was made.
pub record IsTurnsCall (o : Ordered) (a b : Point) (past before : List Event) (e : Event) : Type 0 where
  pub mid : Point
  pub next : Point
  pub front : Runs o a mid
  pub turn : Turned o mid.at next.at mid.pool next.pool mid.world next.world
  pub back : Runs o next b
  pub was : mid.world.events ≡ Some (past ++ before)
  pub now : next.world.events ≡ Some (past ++ (before ++ e ∷ []))

-- the call stands among these, behind the first ones
abbrev pub StandsBehind : List Event → List Event → Event → Type 0
StandsBehind L before e = (after : List Event) × (L ≡ before ++ e ∷ after)

-- Each line `clear` of a run, the calls of which are such, calls the card rightly so. At the end of the run it was said, if a number of sealed
-- drives is required and no fewer are.
pub record ClearsRightly (o : Ordered) (b : Point) (L : List Event) (AreSealed : List ℕ → List Event → Type 0) (IsOwn : List Event → Event → Type 0) : Type 0 where
  pub rightly : (before : List Event) (count required : ℕ) (ok : Bool) → IsOwn before (Say (clear_text count required) ok) → IsClear AreSealed o before count required
  pub due : IsEnd b.at.outcome → (drives : List ℕ) → AreSealed drives L → 1 ≤ o.copies → o.copies ≤ length drives → (before : List Event) × IsOwn before (Say (clear_text (length drives) o.copies) true)
