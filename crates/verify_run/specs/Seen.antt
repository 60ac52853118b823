-- What the calls of a verification saw of a folder, and the report on it.
use Rattle.std.specs.Prelude.{◌≡◌, ℕ, Bool, true, false, List, [], ◌∷◌, map, length, Option, Some, option_map, bytes_eq}
use Rattle.std.specs.List.{filter, AllByRecursion}
use Rattle.std.specs.FinMap.{get, keys}
use Rattle.bay_core.specs.declared.event.Event.{Event}
use Rattle.bay_core.specs.declared.event.Event.TheVariants.{DriveList, DriveRead}
use Rattle.bay_core.specs.Map.{Map}
use Rattle.bay_core.specs.declared.event.FileInfo.{FileInfo}
use Rattle.bay_core.specs.Looks.{given, Tiles, said}
use Rattle.folder_listing.specs.Listing.{listing, names}
use Rattle.mhl_writer.specs.declared.values.HashEntry.{HashEntry}
use Rattle.verify_run.specs.declared.verdict.Verdict.{Verdict}
use Rattle.verify_run.specs.Report.{Found, found_in, lines, verdict, unlisted}
use Rattle.file_reading.specs.Reads.{AskedUpTo}
use Rattle.verify_run.specs.Results.{limit_of, Ended}

-- the listing with which the calls begin
abbrev pub files_in : List Event → List FileInfo
files_in (DriveList d (Some files) ∷ L) = files
files_in _ = []

-- a listing of a drive, whatever its answer
abbrev pub is_listing : Event → Bool
is_listing (DriveList d got) = true
is_listing _ = false

-- the calls begin with a listing of drive d that was answered, and no other listing is among them
pub record ListedOnce (d : ℕ) (L : List Event) : Type 0 where
  pub files : List FileInfo
  pub rest : List Event
  pub is : L ≡ DriveList d (Some files) ∷ rest
  pub once : filter is_listing rest ≡ []

-- a read of this path
abbrev pub is_read_of : List ℕ → Event → Bool
is_read_of q (DriveRead d path at want got) = bytes_eq path q
is_read_of q _ = false

-- the reads of a path
abbrev pub reads_of : List ℕ → List Event → List Event
reads_of q L = filter (is_read_of q) L

-- a file that was listed, by its reads
abbrev pub seen : List Event → List ℕ → Option (List ℕ)
seen L q = option_map (λ n. given (reads_of q L)) (get (listing (files_in L)) q)

-- the entries, each with what is seen of its path
abbrev pub found_by : (List ℕ → Option (List ℕ)) → List HashEntry → List Found
found_by sees entries = map (λ e. (e, sees e.path)) entries

-- where it is listed, its reads went to one byte past its listed size, or to one that gave nothing, and asked for no byte past that
abbrev pub ReadToEnd : List Event → List ℕ → Type 0
ReadToEnd L q = (size : ℕ) → get (listing (files_in L)) q ≡ Some size → AskedUpTo (limit_of size) (reads_of q L) × Ended (limit_of size) (reads_of q L)

-- the drive was listed once, at first; the lines said and the numbers are those of what was seen, where the reads of each path tile it
-- from its start
pub record Reports (d : ℕ) (entries : List HashEntry) (own : List ℕ) (v : Verdict) (L : List Event) : Type 0 where
  pub listed : ListedOnce d L
  pub said : said L ≡ lines (found_by (seen L) entries) (unlisted entries (names (files_in L)) own)
  pub numbers : v ≡ verdict (found_by (seen L) entries) (length (unlisted entries (names (files_in L)) own))
  pub tile : (q : List ℕ) → Tiles d q 0 (reads_of q L)
  pub whole : AllByRecursion (λ e. ReadToEnd L e.path) entries

-- what was seen is what the map has
pub record Sees (entries : List HashEntry) (m : Map) (L : List Event) : Type 0 where
  pub founds : found_by (seen L) entries ≡ found_in m entries
  pub names : names (files_in L) ≡ keys m
