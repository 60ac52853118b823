-- Which drives are called sealed, and when a card is called clear: docs/FORMATS.md, "Lines".
use Rattle.std.specs.Prelude.{◌↔◌, ℕ, nat_eq, Bool, List, Contains}
use Rattle.std.specs.List.{IsDistinct}
use Rattle.bay_core.specs.declared.event.Event.{Event}
use Rattle.bay_core.specs.declared.event.Event.TheVariants.{Say}
use Rattle.report_text.specs.Run.{sealed_text}
use Rattle.offload_law.specs.Lines.{IsShort, Announces}

-- a line is among these calls, whatever its answer
abbrev pub IsSaid : List Event → List ℕ → Type 0
IsSaid L line = (ok : Bool) × Contains L (Say line ok)

-- a line among these calls announces so many steps of drive d, where an offload has n files
abbrev pub IsTold : ℕ → ℕ → List Event → ℕ → Type 0
IsTold d n L steps = (line : List ℕ) × IsSaid L line × Announces d n line steps

-- a line `sealed` of drive d is among these calls, whatever else stands in it
abbrev pub IsCalledSealed : ℕ → List Event → Type 0
IsCalledSealed d L = (m : ℕ) × (list : List ℕ) × IsShort m × IsSaid L (sealed_text d m list)

-- these are the drives whose line `sealed` is among these calls, each once
pub record AreCalledSealed (drives : List ℕ) (L : List Event) : Type 0 where
  pub once : IsDistinct nat_eq drives
  pub each : (d : ℕ) → Contains drives d ↔ IsCalledSealed d L
