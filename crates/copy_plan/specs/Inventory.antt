-- Which files a plan may name: docs/FORMATS.md, "Inventories".
use Rattle.std.specs.Prelude.{◌≡◌, ℕ, ◌<◌, ◌≤◌, true, false, List, [], ◌∷◌, length}
use Rattle.std.specs.List.{AllByRecursion, sum_by}
use Rattle.std.specs.Ordering.{nat_cmp}
use Rattle.std.specs.Cmp.Lexicographic.{slice_cmp}
use Rattle.std.specs.declared.cmp.Ordering.TheVariants.{Less}
use Rattle.path_text.specs.Path.{is_path, is_control_path, is_ancestor}
use Rattle.path_text.specs.Moment.{last_moment}
use Rattle.copy_plan.specs.declared.file.PlannedFile.{PlannedFile}

-- the most files of an inventory
abbrev pub most_files : ℕ
most_files = 262_144

-- the most bytes of all its paths
abbrev pub most_path_bytes : ℕ
most_path_bytes = 33_554_432

-- the bytes that no file has: 2 ^ 48
abbrev pub size_limit : ℕ
size_limit = 281_474_976_710_656

-- the bytes of the paths of files
unfoldable pub path_bytes : List PlannedFile → ℕ
path_bytes files = sum_by (λ f. length f.path) files

-- a file that an inventory may hold: its path is valid and no control path, its size is below the limit, its date is a moment
pub record IsPlannable (f : PlannedFile) : Type 0 where
  pub path : is_path f.path ≡ true
  pub own : is_control_path f.path ≡ false
  pub small : f.size < size_limit
  pub dated : f.modified ≤ last_moment

-- the path of f comes before that of g in byte order, and is no ancestor of it
pub record Precedes (f g : PlannedFile) : Type 0 where
  pub less : slice_cmp nat_cmp f.path g.path ≡ Less
  pub apart : is_ancestor f.path g.path ≡ false

-- each with each behind it
unfoldable pub EachPair : {A : Type 0} → (A → A → Type 0) → List A → Type 0
EachPair R [] = Unit {0}
EachPair R (x ∷ xs) = AllByRecursion (R x) xs × EachPair R xs

-- an inventory: some files, not too many, in strictly increasing byte order of their paths, none of which is an ancestor of another
pub record IsInventory (files : List PlannedFile) : Type 0 where
  pub some : 1 ≤ length files
  pub few : length files ≤ most_files
  pub short : path_bytes files ≤ most_path_bytes
  pub each : AllByRecursion IsPlannable files
  pub pairs : EachPair Precedes files
