-- What looking at a drive finds: docs/FORMATS.md, "The journal".
use Rattle.std.specs.Prelude.{◌≡◌, ◌⊎◌, ℕ, ◌+◌, ◌*◌, ◌<◌, ◌≤◌, List, length, Option, Some, None, is_some, true}
use Rattle.std.specs.FinMap.{get}
use Rattle.bay_core.specs.declared.event.Event.{Event}
use Rattle.bay_core.specs.declared.event.FileInfo.{FileInfo}
use Rattle.bay_core.specs.Map.{Map}
use Rattle.bay_core.specs.Paths.{journal_path}
use Rattle.bay_core.specs.Left.{IsSettled}
use Rattle.bay_core.specs.Replay.{Drive, reads}
use Rattle.bay_core.specs.World.{World, Honest}
use Rattle.folder_listing.specs.Listing.{listing}
use Rattle.file_reading.specs.Reads.{Halted}
use Rattle.copy_plan.specs.Plan.{PlanValue, list_of}
use Rattle.copy_plan.specs.Fields.{plan_code}
use Rattle.drive_journal.specs.declared.record.Rec.{Rec}
use Rattle.drive_journal.specs.declared.record.Gate.{Gate}
use Rattle.drive_journal.specs.declared.state.State.{State}
use Rattle.drive_journal.specs.declared.state.State.TheVariants.{Fresh, Begun, Sealed}
use Rattle.drive_journal.specs.declared.journal.JournalError.{JournalError}
use Rattle.drive_journal.specs.declared.journal.JournalError.TheVariants.{NotAJournal as HoldsNone, Memory as Wanting}
use Rattle.drive_journal.specs.declared.looking.LookError.{LookError}
use Rattle.drive_journal.specs.declared.looking.LookError.TheVariants.{DriveFailed, NotAJournal, Memory}
use Rattle.drive_journal.specs.Journal.{HoldsJournal, JournalFault}
use Rattle.drive_journal.specs.Found.{largest_journal, JournalFound, NoJournal, Journal, Vanished, TooLong, Seen}

-- the most bytes of a journal that an offload writes, its closed gate with it: a plan, and 65 bytes for each file
abbrev pub longest_journal : ℕ
longest_journal = 55_313_627

-- the gate of the next record, in a journal of this plan with so many records
abbrev pub next_gate : PlanValue → ℕ → Gate
next_gate p k = record { at = length (plan_code p) + 65 * k; index = k }

-- each file has its record
abbrev pub IsFull : PlanValue → List Rec → Type 0
IsFull p recs = length recs ≡ length p.files

-- The state of a drive with this journal, if it has one. `listed` says whether a path stands in its listing. Sealed is a full journal with the list of its plan beside it.
abbrev pub StateIs : (listed : List ℕ → Type 0) → Option (List ℕ) → State → Type 0
StateIs listed journal Fresh = journal ≡ None
StateIs listed journal (Begun p entries gate) = (bytes : List ℕ) × (journal ≡ Some bytes) × HoldsJournal bytes p entries.items × (gate ≡ next_gate p (length entries.items)) × (IsFull p entries.items × listed (list_of p) → ⊥)
StateIs listed journal (Sealed p entries) = (bytes : List ℕ) × (journal ≡ Some bytes) × HoldsJournal bytes p entries.items × IsFull p entries.items × listed (list_of p)

-- a path that stands in a listing
abbrev pub IsListed : List FileInfo → List ℕ → Type 0
IsListed files q = is_some (get (listing files) q) ≡ true

-- a path that a map has
abbrev pub IsThereIn : Map → List ℕ → Type 0
IsThereIn m q = is_some (get m q) ≡ true

-- The state by what was found of the journal: none is listed, or its bytes were read.
abbrev pub FoundState : List FileInfo → JournalFound → State → Type 0
FoundState files NoJournal state = StateIs (IsListed files) None state
FoundState files (Journal bytes) state = StateIs (IsListed files) (Some bytes) state
FoundState files Vanished state = ⊥
FoundState files TooLong state = ⊥

-- The place that is answered for what holds no journal: that of the fault of its bytes, 0 where a read of it answered that there is none,
-- and the limit where it is too long.
abbrev pub FoundFault : JournalFound → ℕ → Type 0
FoundFault NoJournal at = ⊥
FoundFault (Journal bytes) at = JournalFault bytes at
FoundFault Vanished at = at ≡ 0
FoundFault TooLong at = at ≡ largest_journal

-- why no state was found: the place of what holds no journal, or want of memory
abbrev pub FoundFails : JournalFound → JournalError → Type 0
FoundFails found (HoldsNone at) = FoundFault found at
FoundFails found Wanting = Unit {0}

-- a look at drive d that found this state: the listing that is answered, the journal, and the state by both
pub record Looked (d : ℕ) (files : List FileInfo) (state : State) (old new : World) : Type 0 where
  pub found : JournalFound
  pub seen : Seen d files found old new
  pub state_is : FoundState files found state

-- a look at drive d that found no journal where one is listed
pub record NotLooked (d at : ℕ) (old new : World) : Type 0 where
  pub files : List FileInfo
  pub found : JournalFound
  pub seen : Seen d files found old new
  pub fault : FoundFault found at

-- a look at drive d that found no state: no journal where one is listed, a call on the drive that failed, or want of memory
abbrev pub LookFails : ℕ → LookError → World → World → Type 0
LookFails d (NotAJournal at) old new = NotLooked d at old new
LookFails d DriveFailed old new = Halted d (Some (Drive d)) old new
LookFails d Memory old new = Halted d None old new

-- what an honest drive holds where it is answered that there is no journal at this place: a journal that is too long, or bytes that hold none
abbrev pub HasNoJournal : Map → ℕ → Type 0
HasNoJournal m at = (bytes : List ℕ) × (get m journal_path ≡ Some bytes) × (((largest_journal < length bytes) × (at ≡ largest_journal)) ⊎ ((length bytes ≤ largest_journal) × JournalFault bytes at))

-- what an honest drive holds where a look found no state: nothing is said of it where the drive failed or memory was wanting
abbrev pub HonestFails : Map → LookError → Type 0
HonestFails m (NotAJournal at) = HasNoJournal m at
HonestFails m DriveFailed = Unit {0}
HonestFails m Memory = Unit {0}

-- what is read of drive d is as before, and it is settled if it was
pub record StaysSettled (d : ℕ) (old new : World) : Type 0 where
  pub same : (m : Map) (before all : List Event) → Honest old d m before → new.events ≡ Some all → reads m all d ≡ reads m before d
  pub settled : (m : Map) (before all : List Event) → Honest old d m before → new.events ≡ Some all → IsSettled m before d → IsSettled m all d
