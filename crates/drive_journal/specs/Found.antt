-- What a look at a drive sees of its journal, call by call: docs/FORMATS.md, "The journal".
use Rattle.std.specs.Prelude.{◌≡◌, ◌⊎◌, ℕ, ◌<◌, ◌≤◌, List, [], ◌∷◌, ◌++◌, length, Option, Some, None}
use Rattle.std.specs.FinMap.{get}
use Rattle.bay_core.specs.declared.event.Event.{Event}
use Rattle.bay_core.specs.declared.event.Event.TheVariants.{DriveList}
use Rattle.bay_core.specs.declared.event.FileInfo.{FileInfo}
use Rattle.bay_core.specs.Map.{Map, Lists}
use Rattle.bay_core.specs.Paths.{journal_path}
use Rattle.bay_core.specs.Replay.{Drive, calls_on, reads, dated}
use Rattle.bay_core.specs.World.{World, Honest}
use Rattle.bay_core.specs.Went.{Went, Only}
use Rattle.folder_listing.specs.Listing.{listing}
use Rattle.file_reading.specs.declared.listed.Content.{Content}
use Rattle.file_reading.specs.declared.listed.Content.TheVariants.{Bytes, Unlisted, Absent, TooLarge}
use Rattle.file_reading.specs.Listed.{IsWithin}
use Rattle.file_reading.specs.Whole.{ReadsWhole, ReadsAbsent, ReadsPast}

-- the most bytes of a journal that is read
abbrev pub largest_journal : ℕ
largest_journal = 67_108_864

-- what a drive's journal is found to be: not listed; these bytes; listed and then absent; or too long
pub data JournalFound : Type 0 where
  NoJournal : JournalFound
  Journal : List ℕ → JournalFound
  Vanished : JournalFound
  TooLong : JournalFound

-- what the journal is found to be, where its content is
abbrev pub found_of : Content → JournalFound
found_of (Bytes bytes) = Journal bytes.items
found_of Unlisted = NoJournal
found_of Absent = Vanished
found_of (TooLarge len) = TooLong

-- the reads of a journal with this size in the listing, by what it is found to be
abbrev pub JournalReads : ℕ → Option ℕ → JournalFound → List Event → Type 0
JournalReads d size NoJournal calls = (size ≡ None) × (calls ≡ [])
JournalReads d size (Journal bytes) calls = IsWithin largest_journal size × ReadsWhole largest_journal d journal_path bytes calls
JournalReads d size Vanished calls = IsWithin largest_journal size × ReadsAbsent largest_journal d journal_path calls
JournalReads d size TooLong calls = ((n : ℕ) × (size ≡ Some n) × (largest_journal < n) × (calls ≡ [])) ⊎ (IsWithin largest_journal size × ReadsPast largest_journal d journal_path calls)

-- the listing of drive d, and then just the reads of its journal
pub record LookCalls (d : ℕ) (files : List FileInfo) (found : JournalFound) (L : List Event) : Type 0 where
  pub reads : List Event
  pub is : L ≡ DriveList d (Some files) ∷ reads
  pub such : JournalReads d (get (listing files) journal_path) found reads

-- what an honest drive has as its journal, by what it is found to be
abbrev pub JournalIs : JournalFound → Option (List ℕ) → Type 0
JournalIs NoJournal file = file ≡ None
JournalIs (Journal bytes) file = file ≡ Some bytes
JournalIs Vanished file = file ≡ None
JournalIs TooLong file = (bytes : List ℕ) × (file ≡ Some bytes) × (largest_journal < length bytes)

-- the bytes that were found are within the limit
abbrev pub IsShort : JournalFound → Type 0
IsShort (Journal bytes) = length bytes ≤ largest_journal
IsShort found = Unit {0}

-- drive d was listed and its journal read; of an honest drive these are its files, and this is its journal
pub record Seen (d : ℕ) (files : List FileInfo) (found : JournalFound) (old new : World) : Type 0 where
  pub went : Went (Only (Drive d)) (LookCalls d files found) old new
  pub short : IsShort found
  pub lists : (m : Map) (L : List Event) → Honest new d m L → Lists (reads m L d) (dated (new.attached.dates d) L d) files
  pub journal : (m : Map) (L : List Event) → Honest new d m L → JournalIs found (get (reads m L d) journal_path)

-- Drive d was listed and its journal read, without a failed call: the first of its calls among these.
pub record IsLookedAt (d : ℕ) (L : List Event) (files : List FileInfo) (found : JournalFound) : Type 0 where
  pub reads : List Event
  pub rest : List Event
  pub is : calls_on d L ≡ DriveList d (Some files) ∷ (reads ++ rest)
  pub such : JournalReads d (get (listing files) journal_path) found reads
