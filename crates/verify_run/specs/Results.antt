-- What each step of a verification found.
use Rattle.std.specs.Prelude.{◌≡◌, ◌⊎◌, ℕ, ◌+◌, ◌-◌, ◌^◌, ◌<◌, min, List, [], ◌∷◌, ◌++◌, map, length, Option, Some, None, option_map, unwrap_or}
use Rattle.std.specs.List.{flat_map}
use Rattle.std.specs.FinMap.{get, keys}
use Rattle.md5.specs.Md5.{md5}
use Rattle.sha1.specs.Sha1.{sha1}
use Rattle.digest_set.specs.Xxh.{xxh}
use Rattle.report_text.specs.declared.line.Line.{Line}
use Rattle.report_text.specs.Line.{line_text}
use Rattle.bay_core.specs.declared.event.Event.{Event}
use Rattle.bay_core.specs.declared.event.Event.TheVariants.{DriveList}
use Rattle.bay_core.specs.declared.event.FileInfo.{FileInfo}
use Rattle.bay_core.specs.Map.{Map}
use Rattle.bay_core.specs.Replay.{Drive, reads}
use Rattle.bay_core.specs.World.{World, Honest}
use Rattle.bay_core.specs.Went.{Went, Only}
use Rattle.bay_core.specs.Looks.{Here, Exactly, says, piece, given, Tiles, Stopped}
use Rattle.folder_listing.specs.Listing.{Sizes, listing, names}
use Rattle.file_reading.specs.Reads.{asked_end, AskedUpTo}
use Rattle.mhl_writer.specs.declared.values.HashEntry.{HashEntry}
use Rattle.verify_run.specs.declared.reading.FileRead.{FileRead}
use Rattle.verify_run.specs.declared.verdict.Standing.{Standing}
use Rattle.verify_run.specs.declared.verdict.Verdict.{Verdict}
use Rattle.verify_run.specs.declared.verdict.VerifyError.{VerifyError}
use Rattle.verify_run.specs.declared.verdict.VerifyError.TheVariants.{Memory}
use Rattle.verify_run.specs.Calls.{stopped_at_device, Begun, ListedAlone}
use Rattle.verify_run.specs.Report.{Found, standing, entry_lines, unlisted, unlisted_lines, verdict, verdict_line, found_in, report_first_lines}

-- the sizes of a folder are those of a map
abbrev pub SizesOf : Map → Sizes → Type 0
SizesOf m folder = (q : List ℕ) → get folder q ≡ option_map length (get m q)

-- the bytes that are asked for at most: one past the listed size
abbrev pub limit_of : ℕ → ℕ
limit_of size = min (size + 1) (2 ^ 64 - 1)

-- the reads went to the limit, or the last of them asked for more than they gave and gave nothing
abbrev pub Ended : ℕ → List Event → Type 0
Ended limit calls = (length (given calls) ≡ limit) ⊎ ((first : List Event) × (last : Event) × (calls ≡ first ++ last ∷ []) × (piece last ≡ []) × (length (given calls) < asked_end last))

-- the digests of these bytes that an entry records, and no others
pub record DigestsOf (e : HashEntry) (file : FileRead) (bytes : List ℕ) : Type 0 where
  pub md5 : file.md5 ≡ option_map (λ _. md5 bytes) e.md5
  pub sha1 : file.sha1 ≡ option_map (λ _. sha1 bytes) e.sha1
  pub xxh : file.xxh ≡ option_map (λ _. xxh bytes) e.xxh

-- the text of a line, where there is one
abbrev pub texts : Option Line → List (List ℕ)
texts None = []
texts (Some line) = line_text line ∷ []

-- the reads of one file, their length, and what holds of the bytes that they gave
pub record FileTaken (d : ℕ) (path : List ℕ) (size len : ℕ) (Such : List ℕ → Type 0) (old new : World) : Type 0 where
  pub calls : List Event
  pub went : Went (Only (Drive d)) (Exactly calls) old new
  pub tiles : Tiles d path 0 calls
  pub asked : AskedUpTo (limit_of size) calls
  pub ended : Ended (limit_of size) calls
  pub long : len ≡ length (given calls)
  pub such : Such (given calls)
  pub honest : (m : Map) (L : List Event) → Honest new d m L → (c : List ℕ) → get (reads m L d) path ≡ Some c → length c ≡ size → given calls ≡ c

-- the bytes of a file, by the reads that were made of it
abbrev pub bytes_read : Option (List Event) → Option (List ℕ)
bytes_read calls = option_map given calls

-- no read where the listing lacks the path, and else reads that tile the file, to the limit or to a read that gave nothing, and ask for nothing past the limit
abbrev pub Follows : ℕ → Sizes → HashEntry → Option (List Event) → Type 0
Follows d folder e None = get folder e.path ≡ None
Follows d folder e (Some calls) = (size : ℕ) × (get folder e.path ≡ Some size) × Tiles d e.path 0 calls × AskedUpTo (limit_of size) calls × Ended (limit_of size) calls

-- the reads of an entry's file and then its lines
abbrev pub entry_calls : HashEntry → Option (List Event) → List Event
entry_calls e calls = unwrap_or calls [] ++ says (entry_lines e (bytes_read calls))

-- the check of one entry: the calls and how the entry counts; on an honest drive the bytes read are those that it has
pub record EntryChecked (d : ℕ) (folder : Sizes) (e : HashEntry) (s : Standing) (old new : World) : Type 0 where
  pub calls : Option (List Event)
  pub follows : Follows d folder e calls
  pub went : Went (Here d) (Exactly (entry_calls e calls)) old new
  pub standing : s ≡ standing e (bytes_read calls)
  pub honest : (m : Map) (L : List Event) → Honest new d m L → SizesOf (reads m L d) folder → bytes_read calls ≡ get (reads m L d) e.path

-- an entry with the reads that were made of its file
abbrev pub Look : Type 0
Look = HashEntry × Option (List Event)

-- what was found of each entry
abbrev pub founds : List Look → List Found
founds looks = map (λ k. (k.0, bytes_read k.1)) looks

-- the calls of all entries in their order
abbrev pub looked : List Look → List Event
looked looks = flat_map (λ k. entry_calls k.0 k.1) looks

-- the reads of each entry are those that the listing asks for
unfoldable pub AllFollow : ℕ → Sizes → List Look → Type 0
AllFollow d folder [] = Unit {0}
AllFollow d folder (k ∷ looks) = Follows d folder k.0 k.1 × AllFollow d folder looks

-- the check of all entries: the calls and the numbers
pub record EntriesChecked (d : ℕ) (folder : Sizes) (entries : List HashEntry) (v : Verdict) (old new : World) : Type 0 where
  pub looks : List Look
  pub each : map (λ k. k.0) looks ≡ entries
  pub follow : AllFollow d folder looks
  pub went : Went (Here d) (Exactly (looked looks)) old new
  pub numbers : v ≡ verdict (founds looks) 0
  pub honest : (m : Map) (L : List Event) → Honest new d m L → SizesOf (reads m L d) folder → founds looks ≡ found_in (reads m L d) entries

-- the lines after those of the entries
abbrev pub last_lines : List (List ℕ) → Verdict → List (List ℕ)
last_lines others v = unlisted_lines others ++ verdict_line v ∷ []

-- the calls of a verification after the listing, and the numbers
pub record FolderChecked (d : ℕ) (folder : Sizes) (others : List (List ℕ)) (entries : List HashEntry) (v : Verdict) (old new : World) : Type 0 where
  pub looks : List Look
  pub each : map (λ k. k.0) looks ≡ entries
  pub follow : AllFollow d folder looks
  pub went : Went (Here d) (Exactly (looked looks ++ says (last_lines others v))) old new
  pub numbers : v ≡ verdict (founds looks) (length others)
  pub honest : (m : Map) (L : List Event) → Honest new d m L → SizesOf (reads m L d) folder → founds looks ≡ found_in (reads m L d) entries

-- A whole verification: the listing, for each entry the reads of its file and its lines, the names that no entry has, the verdict.
-- On an honest drive what was found is what the drive has.
pub record Verified (d : ℕ) (entries : List HashEntry) (own : List ℕ) (v : Verdict) (old new : World) : Type 0 where
  pub files : List FileInfo
  pub looks : List Look
  pub each : map (λ k. k.0) looks ≡ entries
  pub follow : AllFollow d (listing files) looks
  pub went : Went (Here d) (Exactly (DriveList d (Some files) ∷ (looked looks ++ says (last_lines (unlisted entries (names files) own) v)))) old new
  pub numbers : v ≡ verdict (founds looks) (length (unlisted entries (names files) own))
  pub honest_names : (m : Map) (L : List Event) → Honest new d m L → names files ≡ keys (reads m L d)
  pub honest_founds : (m : Map) (L : List Event) → Honest new d m L → founds looks ≡ found_in (reads m L d) entries

-- A verification that stopped: on an honest drive it had said the first lines of the report, and no verdict.
-- Where memory was wanting, it had read nothing and said nothing.
pub record VerifyStopped (d : ℕ) (entries : List HashEntry) (own : List ℕ) (e : VerifyError) (old new : World) : Type 0 where
  pub stopped : Stopped d (stopped_at_device d e) old new
  pub begun : (m : Map) (L : List Event) → Honest new d m L → Went (Here d) (Begun (report_first_lines entries (reads m L d) own)) old new
  pub memory : e ≡ Memory → Went (Only (Drive d)) (ListedAlone d) old new
