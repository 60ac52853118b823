-- What a stop leaves of a drive of a run, and what was announced for it: docs/MODEL.md, "A run from a true order".
use Rattle.std.specs.Prelude.{◌≡◌, ◌⊎◌, ℕ, suc, ◌≤◌, List, length}
use Rattle.std.specs.FinMap.{keys}
use Rattle.bay_core.specs.declared.event.Event.{Event}
use Rattle.bay_core.specs.Map.{Map, Dates}
use Rattle.copy_plan.specs.Plan.{PlanValue}
use Rattle.offload_law.specs.Clear.{IsTold}
use Rattle.offload_law.specs.Lines.{announces}
use Rattle.offload_law.specs.Stages.{IsAfterOn, StandsAfter, HoldsPlan}

-- so many steps are announced: the drive had them at the start, or a line announces them
abbrev pub IsAnnounced : Map → Dates → Map → ℕ → List Event → ℕ → Type 0
IsAnnounced card dates start d L steps = IsAfterOn card dates start steps ⊎ IsTold d (length (keys card)) L steps

-- Drive d, which had a map at the start, is left so after these calls: with a prefix of the steps by such a plan. It has every announced one, and at most one more.
pub record IsLeftWell (Such : PlanValue → Type 0) (card : Map) (dates : Dates) (d : ℕ) (start : Map) (L : List Event) (I : Map) : Type 0 where
  pub steps : ℕ
  pub stands : StandsAfter Such card dates start I steps
  pub announced : (told : ℕ) → IsAnnounced card dates start d L told → told ≤ steps
  pub at_most_one : (told : ℕ) × IsAnnounced card dates start d L told × (steps ≤ suc told)

-- this plan, or that of the journal which the drive had
abbrev pub IsPlanOf : PlanValue → Map → PlanValue → Type 0
IsPlanOf p start q = (q ≡ p) ⊎ HoldsPlan start q

-- a line that announces no step of drive d, where an offload has n files
abbrev pub AnnouncesNone : ℕ → ℕ → List ℕ → Type 0
AnnouncesNone d n line = announces d n line ≡ 0
