-- The first refusal of an opening, by what was found on its drives: docs/FORMATS.md, "The opening of an offload".
use Rattle.std.specs.Prelude.{◌≡◌, ℕ, ◌+◌, ◌≤◌, List, Option, Some, None, slice_get}
use Rattle.std.specs.List.{AllByRecursion}
use Rattle.copy_plan.specs.Plan.{PlanValue, list_of}
use Rattle.copy_plan.specs.Made.{IsInTheWay}
use Rattle.drive_journal.specs.declared.record.Rec.{Rec}
use Rattle.drive_journal.specs.Found.{JournalFound, Journal}
use Rattle.drive_journal.specs.Journal.{HoldsJournal}
use Rattle.drive_journal.specs.Look.{FoundFault}
use Rattle.occupied_paths.specs.Occupied.{IsFirstOccupied}
use Rattle.fresh_opening.specs.declared.error.FreshError.{FreshError}
use Rattle.fresh_opening.specs.declared.error.FreshError.TheVariants.{Inventory, NotAJournal, AlreadyBegun, NoDrive, Clash, Occupied, OutFailed, Memory}
use Rattle.fresh_opening.specs.Sights.{Sight, Dropped, Found}

-- What an opening saw: what the looks at its drives came to, one for each that was looked at, in turn from the first drive on; and the plan, once it is to be made.
pub record Scene : Type 0 where
  pub first : ℕ
  pub sights : List Sight
  pub plan : Option PlanValue

-- drive d was found so
pub record IsSeen (s : Scene) (d : ℕ) (size : List ℕ → Option ℕ) (found : JournalFound) : Type 0 where
  pub place : ℕ
  pub number : d ≡ s.first + place
  pub is : slice_get s.sights place ≡ Some (Found size found)

-- A refusal applies, by itself: the bytes of a drive's journal hold none; a drive has a journal; every drive was dropped; the name of the list clashes with a
-- path of the plan, the first; or something on a drive stands in the way of a path of the plan, the first.
abbrev pub Applies : Scene → FreshError → Type 0
Applies s (NotAJournal d at) = (size : List ℕ → Option ℕ) × (found : JournalFound) × IsSeen s d size found × FoundFault found at
Applies s (AlreadyBegun d) = (size : List ℕ → Option ℕ) × (bytes : List ℕ) × (p : PlanValue) × (recs : List Rec) × IsSeen s d size (Journal bytes) × HoldsJournal bytes p recs
Applies s NoDrive = AllByRecursion (λ x. x ≡ Dropped) s.sights
Applies s (Clash list path) = (p : PlanValue) × (s.plan ≡ Some p) × (list ≡ list_of p) × IsInTheWay (list_of p) p.files path
Applies s (Occupied d path) = (p : PlanValue) × (s.plan ≡ Some p) × (size : List ℕ → Option ℕ) × (found : JournalFound) × IsSeen s d size found × IsFirstOccupied size None p path
Applies s (Inventory e) = ⊥
Applies s OutFailed = ⊥
Applies s Memory = ⊥

-- The place of a refusal in the order of an opening to at most eight drives: its drives as they are looked at, by number; that none is left; the plan; its drives
-- once more, for what stands in the way.
abbrev pub rank : FreshError → ℕ
rank (NotAJournal d at) = d
rank (AlreadyBegun d) = d
rank NoDrive = 8
rank (Clash list path) = 9
rank (Occupied d path) = 10 + d
rank (Inventory e) = 0
rank OutFailed = 0
rank Memory = 0

-- the first refusal that applies
pub record IsFirst (s : Scene) (e : FreshError) : Type 0 where
  pub applies : Applies s e
  pub first : (other : FreshError) → Applies s other → rank e ≤ rank other

-- no refusal applies whose place is before this one
abbrev pub NoneBefore : ℕ → Scene → Type 0
NoneBefore place s = (e : FreshError) → Applies s e → place ≤ rank e

-- none applies at all
abbrev pub NoneApplies : Scene → Type 0
NoneApplies s = (e : FreshError) → Applies s e → ⊥
