-- The files of a listing by path, and the marks on them.
use Rattle.std.specs.Prelude.{◌≡◌, ◌⊎◌, ℕ, Bool, true, false, ◌&&◌, ◌||◌, List, Option, refl, is_some, unwrap_or, bytes_eq}
use Rattle.std.specs.List.{list_any}
use Rattle.std.specs.FinMap.{FinMap, get, keys, from_entries, code}
use Rattle.std.specs.Coded.{Coded, code_by, coded×, coded_ℕ, coded_bool, coded_list}
use Rattle.std.specs.Ordering.{nat_cmp}
use Rattle.std.specs.Cmp.Lexicographic.{slice_cmp}
use Rattle.bay_core.specs.declared.event.FileInfo.{FileInfo}
use Rattle.bay_core.specs.Map.{sizes}
use Rattle.path_text.specs.Path.{is_ancestor}

-- sizes by path
abbrev pub Sizes : Type 0
Sizes = FinMap (slice_cmp nat_cmp) ℕ

-- a listing as a map: of a path that is listed twice, the first size
abbrev pub listing : List FileInfo → Sizes
listing files = from_entries (sizes files)

-- the names of a listing in byte order, each once
abbrev pub names : List FileInfo → List (List ℕ)
names files = keys (listing files)

-- files by path: the size of each, and whether it is marked
pub record Contents : Type 0 where
  pub sizes : Sizes
  pub marks : FinMap (slice_cmp nat_cmp) Bool

-- contents are stored as the pair of their maps
abbrev pub contents_code : Coded Contents
contents_code =
    code_by (Sizes × FinMap (slice_cmp nat_cmp) Bool) (coded× (code (coded_list coded_ℕ) coded_ℕ) (code (coded_list coded_ℕ) coded_bool)) (λ c. (c.sizes, c.marks)) (λ p. record { sizes = p.0; marks = p.1 }) (λ _. refl)

-- the size of each file
abbrev pub sizes_in : Contents → Sizes
sizes_in c = c.sizes

-- whether there is a file at a path
abbrev pub is_there : Contents → List ℕ → Bool
is_there c q = is_some (get (sizes_in c) q)

-- whether the file at a path is marked
abbrev pub is_marked : Contents → List ℕ → Bool
is_marked c q = unwrap_or (get c.marks q) false

-- a mark on a path: the sizes stay, and the file at the path, if there is one, is marked as well
pub record Marks (path : List ℕ) (old new : Contents) : Type 0 where
  pub sizes : sizes_in new ≡ sizes_in old
  pub marked : (q : List ℕ) → is_marked new q ≡ (is_marked old q || (bytes_eq path q && is_there old q))

-- files of these sizes, of which those at the paths of a list are marked
pub record IsMarkedAt (sizes : Sizes) (paths : List (List ℕ)) (c : Contents) : Type 0 where
  pub sizes_are : sizes_in c ≡ sizes
  pub marked : (q : List ℕ) → is_marked c q ≡ (list_any (bytes_eq q) paths && is_some (get sizes q))

-- a listed name lies above the path or below it
abbrev pub IsCrossed : (List ℕ → Option ℕ) → List ℕ → Type 0
IsCrossed size path = (name : List ℕ) × (is_some (size name) ≡ true) × ((is_ancestor name path ≡ true) ⊎ (is_ancestor path name ≡ true))

-- a listed name is the path, lies above it or lies below it
abbrev pub IsTaken : (List ℕ → Option ℕ) → List ℕ → Type 0
IsTaken size path = (name : List ℕ) × (is_some (size name) ≡ true) × ((name ≡ path) ⊎ ((is_ancestor name path ≡ true) ⊎ (is_ancestor path name ≡ true)))
