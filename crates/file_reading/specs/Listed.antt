-- What listing a drive and then reading a file of it whole saw, up to a limit of bytes.
use Rattle.std.specs.Prelude.{◌≡◌, ◌⊎◌, ℕ, ◌+◌, ◌<◌, ◌≤◌, List, [], ◌∷◌, length, Option, Some, None, option_map}
use Rattle.std.specs.FinMap.{get}
use Rattle.bay_core.specs.declared.event.Event.{Event}
use Rattle.bay_core.specs.declared.event.Event.TheVariants.{DriveList}
use Rattle.bay_core.specs.declared.event.FileInfo.{FileInfo}
use Rattle.bay_core.specs.Map.{Map, Lists}
use Rattle.bay_core.specs.Replay.{Device, Drive, reads, dated}
use Rattle.bay_core.specs.World.{World, Honest}
use Rattle.bay_core.specs.Went.{Went, Only}
use Rattle.folder_listing.specs.Listing.{listing}
use Rattle.file_reading.specs.declared.listed.Content.{Content}
use Rattle.file_reading.specs.declared.listed.Content.TheVariants.{Bytes, Unlisted, Absent, TooLarge}
use Rattle.file_reading.specs.declared.listed.ListReadError.{ListReadError}
use Rattle.file_reading.specs.declared.listed.ListReadError.TheVariants.{DriveFailed, Memory}
use Rattle.file_reading.specs.Whole.{ReadsWhole, ReadsAbsent, ReadsPast, IsWhole, IsAbsent}

-- bytes are within the limit, and what is too large is not
abbrev pub Fits : ℕ → Content → Type 0
Fits limit (Bytes bytes) = length bytes.items ≤ limit
Fits limit (TooLarge len) = limit < len
Fits limit _ = Unit {0}

-- a size within the limit
abbrev pub IsWithin : ℕ → Option ℕ → Type 0
IsWithin limit size = (n : ℕ) × (size ≡ Some n) × (n ≤ limit)

-- the listing has the file within the limit, and its reads gave these bytes and then none
abbrev pub WholeCalls : ℕ → ℕ → List ℕ → Option ℕ → List ℕ → List Event → Type 0
WholeCalls limit d path size bytes calls = IsWithin limit size × ReadsWhole limit d path bytes calls

-- the listing has no such file, and nothing was read
abbrev pub UnlistedCalls : Option ℕ → List Event → Type 0
UnlistedCalls size calls = (size ≡ None) × (calls ≡ [])

-- the listing has the file within the limit, and a read answered that there is none
abbrev pub AbsentCalls : ℕ → ℕ → List ℕ → Option ℕ → List Event → Type 0
AbsentCalls limit d path size calls = IsWithin limit size × ReadsAbsent limit d path calls

-- the listing gives the file this size, over the limit, and nothing was read; or it gives a size within, and the reads went on to this length, one byte past the limit
abbrev pub LargeCalls : ℕ → ℕ → List ℕ → Option ℕ → ℕ → List Event → Type 0
LargeCalls limit d path size len calls = ((size ≡ Some len) × (limit < len) × (calls ≡ [])) ⊎ (IsWithin limit size × (len ≡ limit + 1) × ReadsPast limit d path calls)

-- the reads after a listing that gives the file this size, by what was found
abbrev pub ContentCalls : ℕ → ℕ → List ℕ → Option ℕ → Content → List Event → Type 0
ContentCalls limit d path size (Bytes bytes) calls = WholeCalls limit d path size bytes.items calls
ContentCalls limit d path size Unlisted calls = UnlistedCalls size calls
ContentCalls limit d path size Absent calls = AbsentCalls limit d path size calls
ContentCalls limit d path size (TooLarge len) calls = LargeCalls limit d path size len calls

-- the file has this length, over the limit
abbrev pub IsLarge : ℕ → ℕ → Option (List ℕ) → Type 0
IsLarge limit len file = (bytes : List ℕ) × (file ≡ Some bytes) × (len ≡ length bytes) × (limit < len)

-- what a file is, by what was found
abbrev pub ContentIs : ℕ → Content → Option (List ℕ) → Type 0
ContentIs limit (Bytes bytes) file = IsWhole limit bytes.items file
ContentIs limit Unlisted file = IsAbsent file
ContentIs limit Absent file = IsAbsent file
ContentIs limit (TooLarge len) file = IsLarge limit len file

-- the reads of a file with this size in the listing; on an honest drive that is its length, and then what was found is what the drive has
pub record ContentRead (limit d : ℕ) (path : List ℕ) (size : Option ℕ) (content : Content) (old new : World) : Type 0 where
  pub went : Went (Only (Drive d)) (ContentCalls limit d path size content) old new
  pub honest : (m : Map) (L : List Event) → Honest new d m L → size ≡ option_map length (get (reads m L d) path) → ContentIs limit content (get (reads m L d) path)

-- the listing of drive d, and then such calls, by the size that it gives the path
pub record ListedThen (d : ℕ) (path : List ℕ) (files : List FileInfo) (P : Option ℕ → List Event → Type 0) (L : List Event) : Type 0 where
  pub calls : List Event
  pub is : L ≡ DriveList d (Some files) ∷ calls
  pub such : P (get (listing files) path) calls

-- A drive that was listed, and then a file of it read: the calls; on an honest drive what it has at the path, and that the listing is that of
-- the drive.
pub record FileListed (limit d : ℕ) (path : List ℕ) (files : List FileInfo) (content : Content) (old new : World) : Type 0 where
  pub went : Went (Only (Drive d)) (ListedThen d path files (λ size calls. ContentCalls limit d path size content calls)) old new
  pub honest : (m : Map) (L : List Event) → Honest new d m L → ContentIs limit content (get (reads m L d) path)
  pub lists : (m : Map) (L : List Event) → Honest new d m L → Lists (reads m L d) (dated (new.attached.dates d) L d) files

-- the device whose call failed; none where memory was wanting
abbrev pub halted_at_device : ℕ → ListReadError → Option Device
halted_at_device d DriveFailed = Some (Drive d)
halted_at_device d Memory = None
