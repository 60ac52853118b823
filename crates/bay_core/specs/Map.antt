-- What a drive holds: bytes and dates by path.
use Rattle.std.specs.Prelude.{◌≡◌, ◌⊎◌, ℕ, ◌+◌, ◌-◌, ◌≤◌, List, [], ◌++◌, length, take, drop, replicate, Option, Some, None, unwrap_or, map, bytes_eq, option_map}
use Rattle.std.specs.List.{IsDistinct}
use Rattle.std.specs.Map.{lookup}
use Rattle.std.specs.FinMap.{FinMap, get, insert, remove}
use Rattle.std.specs.Ordering.{nat_cmp}
use Rattle.std.specs.Cmp.Lexicographic.{slice_cmp}
use Rattle.bay_core.specs.declared.event.FileInfo.{FileInfo}

-- the bytes of each file, by its path
abbrev pub Map : Type 0
Map = FinMap (slice_cmp nat_cmp) (List ℕ)

-- the seconds since 1970 at which files were changed last, by their paths
abbrev pub Dates : Type 0
Dates = FinMap (slice_cmp nat_cmp) ℕ

-- the paths of a listing
abbrev pub paths : List FileInfo → List (List ℕ)
paths files = map (λ f. f.path) files

-- the sizes of a listing, each with its path
abbrev pub sizes : List FileInfo → List (List ℕ × ℕ)
sizes files = map (λ f. (f.path, f.size)) files

-- the dates of a listing, each with its path
abbrev pub listed_dates : List FileInfo → List (List ℕ × ℕ)
listed_dates files = map (λ f. (f.path, f.modified)) files

-- the bytes at a path, none where it is absent
abbrev pub content : Map → List ℕ → List ℕ
content m path = unwrap_or (get m path) []

-- these bytes, with zeros behind them up to this place
abbrev pub padded : ℕ → List ℕ → List ℕ
padded at old = old ++ replicate (at - length old) 0

-- a file after these bytes were written at this place
abbrev pub overwritten : List ℕ → ℕ → List ℕ → List ℕ
overwritten old at bytes = take at (padded at old) ++ bytes ++ drop (at + length bytes) old

-- the map after a rename, the same where the file is absent
unfoldable pub moved : Map → List ℕ → List ℕ → Map
moved m from to = elim (get m from) [ None ↦ m | Some c ↦ insert (remove m from) to c ]

-- the map after a rename that left the file under both names, each a content of its own
unfoldable pub copied : Map → List ℕ → List ℕ → Map
copied m from to = elim (get m from) [ None ↦ m | Some c ↦ insert m to c ]

-- a read at this place gave these first n bytes, and gave none only at the end or where none were asked
pub record ReadsSome (map : Map) (path : List ℕ) (at : ℕ) (into : List ℕ) (n : ℕ) : Type 0 where
  pub file : get map path ≡ Some (content map path)
  pub within : n ≤ length into
  pub bytes : take n into ≡ take n (drop at (content map path))
  pub some : n ≡ 0 → (length into ≡ 0) ⊎ (length (content map path) ≤ at)

-- a read gave what the map has: nothing where there is no such file
abbrev pub ReadsAs : Map → List ℕ → ℕ → List ℕ → Option ℕ → Type 0
ReadsAs map path at into None = get map path ≡ None
ReadsAs map path at into (Some n) = ReadsSome map path at into n

-- a listing of each file once, with its size, and with its date where that is known
pub record Lists (map : Map) (dates : Dates) (files : List FileInfo) : Type 0 where
  pub once : IsDistinct bytes_eq (paths files)
  pub same : (q : List ℕ) → lookup (bytes_eq q) (sizes files) ≡ option_map length (get map q)
  pub dated : (q : List ℕ) (t : ℕ) → get dates q ≡ Some t → lookup (bytes_eq q) (listed_dates files) ≡ Some t

-- a date is known of each file
abbrev pub AllDated : Map → Dates → Type 0
AllDated map dates = (q bytes : List ℕ) → get map q ≡ Some bytes → (t : ℕ) × (get dates q ≡ Some t)
