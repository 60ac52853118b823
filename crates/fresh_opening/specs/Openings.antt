-- What an opening does, and what it answers: docs/MODEL.md, "The opening of an offload".
use Rattle.std.specs.Prelude.{◌≡◌, ◌≢◌, ◌⊎◌, ◌↔◌, ℕ, ◌+◌, ◌<◌, ◌≤◌, true, List, ◌∷◌, ◌++◌, length, map, replicate, Contains, Option, Some, None, Vec, Result, Ok, Err}
use Rattle.std.specs.Global.{Global}
use Rattle.std.specs.List.{AllByRecursion}
use Rattle.bay_core.specs.declared.event.Event.{Event}
use Rattle.bay_core.specs.declared.event.Event.TheVariants.{Moment, Say}
use Rattle.bay_core.specs.Map.{Map, Dates}
use Rattle.bay_core.specs.Replay.{Device, Source, Drive, Attaching, Output, Clock, Picker}
use Rattle.bay_core.specs.Went.{Went, Called, Then, NoCall, IsCall}
use Rattle.bay_core.specs.World.{World, Rose}
use Rattle.path_text.specs.declared.kinds.Kinds.{Kinds}
use Rattle.copy_plan.specs.declared.file.PlannedFile.{PlannedFile}
use Rattle.copy_plan.specs.Made.{IsInTheWay}
use Rattle.copy_plan.specs.Plan.{PlanValue, IsPlan, list_of}
use Rattle.card_inventory.specs.declared.error.InventoryError.TheVariants.{Memory as CardMemory}
use Rattle.card_inventory.specs.Card.{CardGives, IsInventoryOfCard, SteadyGives}
use Rattle.drive_journal.specs.declared.order.DriveStart.{DriveStart}
use Rattle.drive_journal.specs.declared.order.DriveStart.TheVariants.{Gone, Fresh}
use Rattle.drive_journal.specs.declared.order.Listed.{Listed}
use Rattle.drive_journal.specs.declared.order.Order.{Order}
use Rattle.occupied_paths.specs.Occupied.{IsFirstOccupied, IsFree}
use Rattle.report_text.specs.Losses.{dropped_fault_text}
use Rattle.fresh_opening.specs.declared.error.FreshError.{FreshError}
use Rattle.fresh_opening.specs.declared.error.FreshError.TheVariants.{Inventory, NotAJournal, AlreadyBegun, NoDrive, Clash, Occupied, OutFailed, Memory}
use Rattle.fresh_opening.specs.Sights.{Sight, Dropped, Found, SightsCalls}
use Rattle.fresh_opening.specs.Refusals.{Scene, NoneBefore, NoneApplies}
use Rattle.fresh_opening.specs.Looks.{EndCalls, IsUnsaid, AreSights, OfLooks, Reaches, Refuses}
use Rattle.fresh_opening.specs.Orders.{start_at}

-- ---- the drives of an order

-- where a drive begins of which the look came to this: one that was dropped is gone
abbrev pub start_of : Sight → DriveStart
start_of Dropped = Gone
start_of (Found size found) = Fresh

-- the drives of an order: those before the first are not of the run
abbrev pub starts_of : ℕ → List Sight → List DriveStart
starts_of first sights = replicate first Gone ++ map start_of sights

-- nothing stands in the way of the plan on a drive of which the look came to this
abbrev pub IsUnoccupied : PlanValue → Sight → Type 0
IsUnoccupied p Dropped = Unit {0}
IsUnoccupied p (Found size found) = IsFree size None p

-- this is the first path of the plan that something on such a drive stands in the way of
abbrev pub IsOccupiedAt : PlanValue → List ℕ → Sight → Type 0
IsOccupiedAt p path Dropped = ⊥
IsOccupiedAt p path (Found size found) = IsFirstOccupied size None p path

-- the answer for drive d, by its look
abbrev pub StartGives : ℕ → PlanValue → Sight → Result DriveStart FreshError → Type 0
StartGives d p x (Ok start) = (start ≡ start_of x) × IsUnoccupied p x
StartGives d p x (Err (Occupied drive path)) = (drive ≡ d) × IsOccupiedAt p path x
StartGives d p x (Err Memory) = Unit {0}
StartGives d p x (Err (Inventory e)) = ⊥
StartGives d p x (Err (NotAJournal drive at)) = ⊥
StartGives d p x (Err (AlreadyBegun drive)) = ⊥
StartGives d p x (Err NoDrive) = ⊥
StartGives d p x (Err (Clash list path)) = ⊥
StartGives d p x (Err OutFailed) = ⊥

-- drive d is the first of these, numbered from the first on, on which something stands in the way, and this is the path
pub record IsFirstDrive (first : ℕ) (p : PlanValue) (sights : List Sight) (d : ℕ) (path : List ℕ) : Type 0 where
  pub before : List Sight
  pub x : Sight
  pub after : List Sight
  pub is : sights ≡ before ++ x ∷ after
  pub number : d ≡ first + length before
  pub unoccupied : AllByRecursion (IsUnoccupied p) before
  pub occupied : IsOccupiedAt p path x

-- where all drives begin, the first of which has this number: nothing stands in the way on any
pub record StartsAre (first : ℕ) (p : PlanValue) (sights : List Sight) (starts : List DriveStart) : Type 0 where
  pub are : starts ≡ starts_of first sights
  pub unoccupied : AllByRecursion (IsUnoccupied p) sights

-- why they may not begin
abbrev pub StartsFail : ℕ → PlanValue → List Sight → FreshError → Type 0
StartsFail first p sights (Occupied d path) = IsFirstDrive first p sights d path
StartsFail first p sights Memory = Unit {0}
StartsFail first p sights (Inventory e) = ⊥
StartsFail first p sights (NotAJournal d at) = ⊥
StartsFail first p sights (AlreadyBegun d) = ⊥
StartsFail first p sights NoDrive = ⊥
StartsFail first p sights (Clash list path) = ⊥
StartsFail first p sights OutFailed = ⊥

-- ---- the plan

-- what an offload is asked for: by the labels of its card, its user and its host, and with these kinds of digest in its lists
pub record Asked : Type 0 where
  pub name : List ℕ
  pub user : List ℕ
  pub host : List ℕ
  pub kinds : Kinds

-- the parts of its plan: it has no source list
abbrev pub draft_of : Asked → ℕ → List PlannedFile → PlanValue
draft_of a started files = record { name = a.name; user = a.user; host = a.host; started = started; kinds = a.kinds; source_list = None; files = files }

-- the answer for a plan of these parts
abbrev pub DraftGives : PlanValue → Result PlanValue FreshError → Type 0
DraftGives p (Ok plan) = (plan ≡ p) × IsPlan p
DraftGives p (Err (Clash list path)) = (list ≡ list_of p) × IsInTheWay (list_of p) p.files path
DraftGives p (Err Memory) = Unit {0}
DraftGives p (Err (Inventory e)) = ⊥
DraftGives p (Err (NotAJournal d at)) = ⊥
DraftGives p (Err (AlreadyBegun d)) = ⊥
DraftGives p (Err NoDrive) = ⊥
DraftGives p (Err (Occupied d path)) = ⊥
DraftGives p (Err OutFailed) = ⊥

-- the moment was asked, and the plan begins then
pub record PlanGives (a : Asked) (files : List PlannedFile) (result : Result PlanValue FreshError) (old new : World) : Type 0 where
  pub started : ℕ
  pub called : Called Clock (IsCall (Moment started)) true old new
  pub gives : DraftGives (draft_of a started files) result

-- ---- an opening on its drives

-- the order of what an opening saw, with 16 blocks at once
pub record IsOrderOf (source copies : ℕ) (listed : Option (Vec Listed Global)) (s : Scene) (order : Order) : Type 0 where
  pub source_is : order.source ≡ source
  pub copies_is : order.copies ≡ copies
  pub slots_is : order.slots ≡ 16
  pub plan_is : s.plan ≡ Some order.plan
  pub listed_is : order.listed ≡ listed
  pub drives_are : order.drives.items ≡ starts_of s.first s.sights

-- the answer by what an opening to so many drives saw: an order just where no refusal applies
abbrev pub Answers : ℕ → ℕ → ℕ → Option (Vec Listed Global) → Scene → Result Order FreshError → Type 0
Answers source count copies listed s (Ok order) = (length s.sights ≡ count) × NoneApplies s × IsOrderOf source copies listed s order
Answers source count copies listed s (Err e) = Reaches count s e × Refuses s e

-- the calls behind the looks, where the moment is not asked
abbrev pub EndsWith : ℕ → Result Order FreshError → List Event → Type 0
EndsWith d (Ok order) L = NoCall L
EndsWith d (Err e) L = EndCalls d e L

-- the moment of the plan was asked, if it is made here and it came to that
abbrev pub AsksMoment : Option PlanValue → List Event → Type 0
AsksMoment None L = NoCall L
AsksMoment (Some p) L = IsCall (Moment p.started) L

-- what is known of the counts where an opening ended so at drive d: where its line was not said, that of the drive and that of the output rose
abbrev pub IsUnsaidBy : ℕ → Result Order FreshError → World → World → Type 0
IsUnsaidBy d (Ok order) old new = Unit {0}
IsUnsaidBy d (Err e) old new = IsUnsaid d e old new

-- An opening with a plan: the drives were looked at one after another, up to an end, and nothing else was called.
pub record PlanOpens (source first count copies : ℕ) (p : PlanValue) (listed : Option (Vec Listed Global)) (result : Result Order FreshError) (old new : World) : Type 0 where
  pub scene : Scene
  pub from : scene.first ≡ first
  pub planned : scene.plan ≡ Some p
  pub few : length scene.sights ≤ count
  pub went : Went (OfLooks first count) (Then (SightsCalls scene.first scene.sights) (EndsWith (scene.first + length scene.sights) result)) old new
  pub sights : AreSights scene.first scene.sights old new
  pub answer : Answers source count copies listed scene result
  pub unsaid : IsUnsaidBy (scene.first + length scene.sights) result old new

-- the devices that an opening to so many drives may call behind its card: those drives, the output and the clock
abbrev pub OfDrives : ℕ → Device → Type 0
OfDrives count (Drive d) = d < count
OfDrives count Output = Unit {0}
OfDrives count Clock = Unit {0}
OfDrives count (Source s) = ⊥
OfDrives count Attaching = ⊥
OfDrives count Picker = ⊥

-- The plan is that of the card's files, from the moment on that was asked; and that was not asked before every drive was looked at, none was refused, and one was left.
pub record IsDrafted (a : Asked) (files : List PlannedFile) (count : ℕ) (s : Scene) (p : PlanValue) : Type 0 where
  pub is : p ≡ draft_of a p.started files
  pub whole : length s.sights ≡ count
  pub none_before : NoneBefore 9 s

-- An opening that makes its plan: the card was listed and has an inventory; then the drives were looked at one after another; then the moment was asked; and nothing else
-- was called.
pub record FreshLooks (source count copies : ℕ) (a : Asked) (result : Result Order FreshError) (old new : World) : Type 0 where
  pub listed : World
  pub files : List PlannedFile
  pub card : CardGives source (Ok files) old listed
  pub scene : Scene
  pub from : scene.first ≡ 0
  pub drafted : (p : PlanValue) → scene.plan ≡ Some p → IsDrafted a files count scene p
  pub few : length scene.sights ≤ count
  pub went : Went (OfDrives count) (Then (SightsCalls scene.first scene.sights) (Then (AsksMoment scene.plan) (EndsWith (scene.first + length scene.sights) result))) listed new
  pub sights : AreSights scene.first scene.sights listed new
  pub answer : Answers source count copies None scene result
  pub unsaid : IsUnsaidBy (scene.first + length scene.sights) result listed new

-- such an opening, or one that ended with its card, which has no inventory
abbrev pub FreshOpens : ℕ → ℕ → ℕ → Asked → Result Order FreshError → World → World → Type 0
FreshOpens source count copies a (Err (Inventory e)) old new = (e ≢ CardMemory) × CardGives source (Err e) old new
FreshOpens source count copies a (Err Memory) old new = CardGives source (Err CardMemory) old new ⊎ FreshLooks source count copies a (Err Memory) old new
FreshOpens source count copies a (Ok order) old new = FreshLooks source count copies a (Ok order) old new
FreshOpens source count copies a (Err (NotAJournal d at)) old new = FreshLooks source count copies a (Err (NotAJournal d at)) old new
FreshOpens source count copies a (Err (AlreadyBegun d)) old new = FreshLooks source count copies a (Err (AlreadyBegun d)) old new
FreshOpens source count copies a (Err NoDrive) old new = FreshLooks source count copies a (Err NoDrive) old new
FreshOpens source count copies a (Err (Clash list path)) old new = FreshLooks source count copies a (Err (Clash list path)) old new
FreshOpens source count copies a (Err (Occupied d path)) old new = FreshLooks source count copies a (Err (Occupied d path)) old new
FreshOpens source count copies a (Err OutFailed) old new = FreshLooks source count copies a (Err OutFailed) old new

-- the devices that it may call
abbrev pub OfFresh : ℕ → ℕ → Device → Type 0
OfFresh source count (Source s) = s ≡ source
OfFresh source count (Drive d) = d < count
OfFresh source count Output = Unit {0}
OfFresh source count Clock = Unit {0}
OfFresh source count Attaching = ⊥
OfFresh source count Picker = ⊥

-- the answer over a card with these files and dates: a plan of just its files; and its inventory is refused only where it has none
abbrev pub GivesOfCard : Map → Dates → Result Order FreshError → Type 0
GivesOfCard m dates (Ok order) = IsInventoryOfCard m dates order.plan.files
GivesOfCard m dates (Err (Inventory e)) = SteadyGives m dates (Err e)
GivesOfCard m dates (Err NoDrive) = Unit {0}
GivesOfCard m dates (Err (NotAJournal d at)) = Unit {0}
GivesOfCard m dates (Err (AlreadyBegun d)) = Unit {0}
GivesOfCard m dates (Err (Clash list path)) = Unit {0}
GivesOfCard m dates (Err (Occupied d path)) = Unit {0}
GivesOfCard m dates (Err OutFailed) = Unit {0}
GivesOfCard m dates (Err Memory) = Unit {0}

-- a drive of the order is gone just where its line `dropped` was said in the call, and then its count rose in it
pub record AreGoneBySaying (first count : ℕ) (drives : List DriveStart) (old new : World) : Type 0 where
  pub said : (before since : List Event) → old.events ≡ Some before → new.events ≡ Some (before ++ since) → (d : ℕ) → first ≤ d → d < first + count → (start_at drives d ≡ Gone) ↔ Contains since (Say (dropped_fault_text d) true)
  pub rose : (d : ℕ) → first ≤ d → d < first + count → start_at drives d ≡ Gone → Rose (old.faults (Drive d)) (new.faults (Drive d))
