-- What looking at the drives of an opening gives, one after another.
use Rattle.std.specs.Prelude.{◌≡◌, ℕ, suc, false, ◌+◌, ◌<◌, ◌≤◌, List, length, map, Option, Some, None, slice_get, Result, Ok, Err}
use Rattle.std.specs.FinMap.{get}
use Rattle.std.specs.List.{AllByRecursion}
use Rattle.bay_core.specs.declared.event.Event.{Event}
use Rattle.bay_core.specs.declared.event.Event.TheVariants.{Say}
use Rattle.bay_core.specs.Looks.{Here, IsUntouched}
use Rattle.bay_core.specs.Replay.{Device, Source, Drive, Attaching, Output, Clock, Picker}
use Rattle.bay_core.specs.Went.{Went, Then, NoCall, MaySee}
use Rattle.bay_core.specs.World.{World, Rose}
use Rattle.folder_listing.specs.Listing.{listing}
use Rattle.copy_plan.specs.Plan.{PlanValue}
use Rattle.drive_journal.specs.declared.record.Rec.{Rec}
use Rattle.drive_journal.specs.Found.{JournalFound, NoJournal, Journal}
use Rattle.drive_journal.specs.Journal.{HoldsJournal}
use Rattle.drive_journal.specs.Look.{FoundFault}
use Rattle.report_text.specs.Losses.{dropped_fault_text}
use Rattle.fresh_opening.specs.declared.error.FreshError.{FreshError}
use Rattle.fresh_opening.specs.declared.error.FreshError.TheVariants.{Inventory, NotAJournal, AlreadyBegun, NoDrive, Clash, Occupied, OutFailed, Memory}
use Rattle.fresh_opening.specs.declared.looking.DriveSeen.{DriveSeen}
use Rattle.fresh_opening.specs.declared.looking.DriveSeen.TheVariants.{Dropped as DroppedDrive, Bare}
use Rattle.fresh_opening.specs.Sights.{Sight, Dropped, Found, HaltCalls, SightCalls, SightsCalls, SightIs}
use Rattle.fresh_opening.specs.Refusals.{Scene, IsFirst, NoneBefore}

-- what the look came to of which this is kept
abbrev pub sight_by : DriveSeen → Sight
sight_by DroppedDrive = Dropped
sight_by (Bare files) = Found (get (listing files.items)) NoJournal

-- a look at drive d came to this, by its calls of the drive and the output alone, of which none changes or settles a drive
pub record CameTo (d : ℕ) (x : Sight) (old new : World) : Type 0 where
  pub went : Went (Here d) (SightCalls d x) old new
  pub untouched : Went (Here d) IsUntouched old new
  pub is : SightIs d x old new

-- The calls at drive d with which an opening ends that answers this: its look failed, and the line of that was not said; memory was wanting in its look, if it was
-- called at all; or none.
abbrev pub EndCalls : ℕ → FreshError → List Event → Type 0
EndCalls d OutFailed L = Then (HaltCalls d (Some (Drive d))) (MaySee (Say (dropped_fault_text d) false)) L
EndCalls d Memory L = HaltCalls d None L
EndCalls d (Inventory e) L = NoCall L
EndCalls d (NotAJournal drive at) L = NoCall L
EndCalls d (AlreadyBegun drive) L = NoCall L
EndCalls d NoDrive L = NoCall L
EndCalls d (Clash list path) L = NoCall L
EndCalls d (Occupied drive path) L = NoCall L

-- where the line of drive d was not said, the count of the drive rose, and that of the output
abbrev pub IsUnsaid : ℕ → FreshError → World → World → Type 0
IsUnsaid d e old new = e ≡ OutFailed → Rose (old.faults (Drive d)) (new.faults (Drive d)) × Rose (old.faults Output) (new.faults Output)

-- such an end, of drive d and the output alone
pub record EndsAt (d : ℕ) (e : FreshError) (old new : World) : Type 0 where
  pub went : Went (Here d) (EndCalls d e) old new
  pub untouched : Went (Here d) IsUntouched old new
  pub unsaid : IsUnsaid d e old new

-- drive d has a journal with a fault there
pub record IsFaulty (d at : ℕ) (old new : World) : Type 0 where
  pub size : List ℕ → Option ℕ
  pub found : JournalFound
  pub came : CameTo d (Found size found) old new
  pub fault : FoundFault found at

-- drive d has a journal
pub record IsBegun (d : ℕ) (old new : World) : Type 0 where
  pub size : List ℕ → Option ℕ
  pub bytes : List ℕ
  pub came : CameTo d (Found size (Journal bytes)) old new
  pub plan : PlanValue
  pub recs : List Rec
  pub holds : HoldsJournal bytes plan recs

-- what a look at drive d gives that ends in its line where the drive is dropped
abbrev pub LookGives : ℕ → Result DriveSeen FreshError → World → World → Type 0
LookGives d (Ok seen) old new = CameTo d (sight_by seen) old new
LookGives d (Err (NotAJournal drive at)) old new = (drive ≡ d) × IsFaulty d at old new
LookGives d (Err (AlreadyBegun drive)) old new = (drive ≡ d) × IsBegun d old new
LookGives d (Err OutFailed) old new = EndsAt d OutFailed old new
LookGives d (Err Memory) old new = EndsAt d Memory old new
LookGives d (Err (Inventory e)) old new = ⊥
LookGives d (Err NoDrive) old new = ⊥
LookGives d (Err (Clash list path)) old new = ⊥
LookGives d (Err (Occupied drive path)) old new = ⊥

-- the devices that looks at so many drives from the first on may call: those drives, and the output
abbrev pub OfLooks : ℕ → ℕ → Device → Type 0
OfLooks first count (Drive d) = (first ≤ d) × (d < first + count)
OfLooks first count Output = Unit {0}
OfLooks first count (Source s) = ⊥
OfLooks first count Attaching = ⊥
OfLooks first count Clock = ⊥
OfLooks first count Picker = ⊥

-- what is known of the drives from the first on behind the looks that came to these
abbrev pub AreSights : ℕ → List Sight → World → World → Type 0
AreSights first sights old new = (place : ℕ) (x : Sight) → slice_get sights place ≡ Some x → SightIs (first + place) x old new

-- each of these is that of a drive which was dropped
abbrev pub AreDropped : List Sight → Type 0
AreDropped sights = AllByRecursion (λ x. x ≡ Dropped) sights

-- the drives from the first on were looked at, each of them has no journal or was dropped, and not all were
pub record LooksDone (first : ℕ) (count : ℕ) (seen : List DriveSeen) (old new : World) : Type 0 where
  pub whole : length seen ≡ count
  pub went : Went (OfLooks first count) (SightsCalls first (map sight_by seen)) old new
  pub untouched : Went (OfLooks first count) IsUntouched old new
  pub are : AreSights first (map sight_by seen) old new
  pub left : AreDropped (map sight_by seen) → ⊥

-- How many drives were looked at, of so many, where this is the answer: those up to the one that is refused; those before the one whose line was not said; all of
-- them, where the refusal comes behind the looks; or any number, where memory was wanting.
abbrev pub Reaches : ℕ → Scene → FreshError → Type 0
Reaches count s (NotAJournal d at) = s.first + length s.sights ≡ suc d
Reaches count s (AlreadyBegun d) = s.first + length s.sights ≡ suc d
Reaches count s NoDrive = length s.sights ≡ count
Reaches count s (Clash list path) = length s.sights ≡ count
Reaches count s (Occupied d path) = length s.sights ≡ count
Reaches count s OutFailed = length s.sights < count
Reaches count s Memory = Unit {0}
Reaches count s (Inventory e) = ⊥

-- an answer that is no order: the first refusal; or a line that was not said, or want of memory, which come where none of the looks before was refused
abbrev pub Refuses : Scene → FreshError → Type 0
Refuses s (NotAJournal d at) = IsFirst s (NotAJournal d at)
Refuses s (AlreadyBegun d) = IsFirst s (AlreadyBegun d)
Refuses s NoDrive = IsFirst s NoDrive
Refuses s (Clash list path) = IsFirst s (Clash list path)
Refuses s (Occupied d path) = IsFirst s (Occupied d path)
Refuses s OutFailed = NoneBefore 8 s
Refuses s Memory = NoneBefore 8 s
Refuses s (Inventory e) = ⊥

-- what an opening saw of these drives, with this plan
abbrev pub scene_of : ℕ → List Sight → Option PlanValue → Scene
scene_of first sights plan = record { first = first; sights = sights; plan = plan }

-- the looks at the drives from the first on ended with this answer, whatever the plan is
pub record LooksEnd (first count : ℕ) (e : FreshError) (old new : World) : Type 0 where
  pub sights : List Sight
  pub few : length sights ≤ count
  pub went : Went (OfLooks first count) (Then (SightsCalls first sights) (EndCalls (first + length sights) e)) old new
  pub untouched : Went (OfLooks first count) IsUntouched old new
  pub are : AreSights first sights old new
  pub reaches : (plan : Option PlanValue) → Reaches count (scene_of first sights plan) e
  pub refuses : (plan : Option PlanValue) → Refuses (scene_of first sights plan) e
  pub unsaid : IsUnsaid (first + length sights) e old new
