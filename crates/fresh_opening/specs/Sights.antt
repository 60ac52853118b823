-- What an opening finds on its drives, and the calls by which it does: docs/MODEL.md, "The opening of an offload".
use Rattle.std.specs.Prelude.{◌≡◌, ℕ, suc, true, List, [], ◌∷◌, length, Option, Some, None, option_map, nat_lt, if◌then◌else◌}
use Rattle.std.specs.FinMap.{get}
use Rattle.bay_core.specs.declared.event.Event.{Event}
use Rattle.bay_core.specs.declared.event.Event.TheVariants.{Say}
use Rattle.bay_core.specs.declared.event.FileInfo.{FileInfo}
use Rattle.bay_core.specs.Looks.{Stops}
use Rattle.bay_core.specs.Map.{Map}
use Rattle.bay_core.specs.Paths.{journal_path}
use Rattle.bay_core.specs.Replay.{Device, Drive, reads}
use Rattle.bay_core.specs.Went.{AllOn, Only, Then, IsCall}
use Rattle.bay_core.specs.World.{World, Honest, Rose}
use Rattle.folder_listing.specs.Listing.{listing}
use Rattle.drive_journal.specs.Found.{largest_journal, JournalFound, NoJournal, Journal, TooLong, LookCalls}
use Rattle.report_text.specs.Losses.{dropped_fault_text}

-- What a look at a drive came to: a call on it failed, and it was dropped; or these sizes by path are listed, and the journal is found to be this.
pub data Sight : Type 0 where
  Dropped : Sight
  Found : (List ℕ → Option ℕ) → JournalFound → Sight

-- the sizes by path of the files of a map
abbrev pub sizes_of : Map → List ℕ → Option ℕ
sizes_of m q = option_map length (get m q)

-- what the journal is found to be where the drive has this file there
abbrev pub journal_in : Option (List ℕ) → JournalFound
journal_in None = NoJournal
journal_in (Some bytes) = if nat_lt largest_journal (length bytes) then TooLong else Journal bytes

-- what a look at an honest drive with this map comes to, where no call fails
abbrev pub sight_of : Map → Sight
sight_of m = Found (sizes_of m) (journal_in (get m journal_path))

-- answered looks at drive d alone, and behind them at most the one that failed, on this device; none failed where no device is given
pub record HaltCalls (d : ℕ) (at : Option Device) (L : List Event) : Type 0 where
  pub on : AllOn (Only (Drive d)) L
  pub stops : Stops at L

-- the listing of drive d, which gives these sizes, and then just the reads of its journal
pub record FoundCalls (d : ℕ) (size : List ℕ → Option ℕ) (found : JournalFound) (L : List Event) : Type 0 where
  pub files : List FileInfo
  pub sizes : size ≡ get (listing files)
  pub calls : LookCalls d files found L

-- the calls of a look at drive d that came to this: where the drive was dropped they end with its line
abbrev pub SightCalls : ℕ → Sight → List Event → Type 0
SightCalls d Dropped L = Then (HaltCalls d (Some (Drive d))) (IsCall (Say (dropped_fault_text d) true)) L
SightCalls d (Found size found) L = FoundCalls d size found L

-- the calls of looks at the drives from d on, one drive after another, that came to these
unfoldable pub SightsCalls : ℕ → List Sight → List Event → Type 0
SightsCalls d [] L = L ≡ []
SightsCalls d (x ∷ xs) L = Then (SightCalls d x) (SightsCalls (suc d) xs) L

-- what is known of drive d behind a look that came to this: the count of one that was dropped rose; an honest one was found as its map has it
abbrev pub SightIs : ℕ → Sight → World → World → Type 0
SightIs d Dropped old new = Rose (old.faults (Drive d)) (new.faults (Drive d))
SightIs d (Found size found) old new = (m : Map) (L : List Event) → Honest new d m L → Found size found ≡ sight_of (reads m L d)
