-- What building an inventory from files gives: docs/FORMATS.md, "Inventories".
use Rattle.std.specs.Prelude.{◌≡◌, ◌⊎◌, ℕ, ◌<◌, ◌≤◌, true, false, List, [], ◌∷◌, ◌++◌, length, Result, Ok, Err}
use Rattle.std.specs.List.{AllByRecursion}
use Rattle.std.specs.List.Sorted.{IsPermutation, IsSortedBy}
use Rattle.std.specs.Ordering.{nat_cmp, is_lt}
use Rattle.std.specs.Cmp.Lexicographic.{slice_cmp}
use Rattle.path_text.specs.Path.{is_control_path, is_ancestor}
use Rattle.copy_plan.specs.declared.file.PlannedFile.{PlannedFile}
use Rattle.copy_plan.specs.declared.inventory.BuildError.{BuildError}
use Rattle.copy_plan.specs.declared.inventory.BuildError.TheVariants.{Empty, TooManyFiles, TooManyBytes, Control, TooBig, Clash}
use Rattle.copy_plan.specs.Inventory.{most_files, most_path_bytes, size_limit, path_bytes, EachPair, IsInventory}

-- the files in byte order of their paths
pub record IsArranged (files arranged : List PlannedFile) : Type 0 where
  pub same : IsPermutation files arranged
  pub sorted : IsSortedBy (λ f g. is_lt (slice_cmp nat_cmp f.path g.path)) arranged

-- some files, not too many, whose paths have not too many bytes
pub record IsInBounds (files : List PlannedFile) : Type 0 where
  pub some : 1 ≤ length files
  pub few : length files ≤ most_files
  pub short : path_bytes files ≤ most_path_bytes

-- a file with a control path
abbrev pub IsControl : PlannedFile → Type 0
IsControl f = is_control_path f.path ≡ true

-- a file that is too big, and has no control path
pub record IsTooBig (f : PlannedFile) : Type 0 where
  pub own : is_control_path f.path ≡ false
  pub big : size_limit ≤ f.size

-- a file that is neither
pub record IsFit (f : PlannedFile) : Type 0 where
  pub own : is_control_path f.path ≡ false
  pub small : f.size < size_limit

-- the first file that is not fit has this path, and this is its fault
pub record IsFirstUnfit (fault : PlannedFile → Type 0) (files : List PlannedFile) (path : List ℕ) : Type 0 where
  pub before : List PlannedFile
  pub file : PlannedFile
  pub after : List PlannedFile
  pub is : files ≡ before ++ file ∷ after
  pub fit : AllByRecursion IsFit before
  pub faulty : fault file
  pub named : file.path ≡ path

-- f and g have one path, or that of f is an ancestor of that of g
abbrev pub Clashes : PlannedFile → PlannedFile → Type 0
Clashes f g = (f.path ≡ g.path) ⊎ (is_ancestor f.path g.path ≡ true)

-- they do not clash
abbrev pub IsApart : PlannedFile → PlannedFile → Type 0
IsApart f g = Clashes f g → ⊥

-- the first file with which an earlier one clashes is below, and the first that clashes with it is above
pub record IsClash (files front : List PlannedFile) (above : PlannedFile) (between : List PlannedFile) (below : PlannedFile) (after : List PlannedFile) : Type 0 where
  pub is : files ≡ (front ++ above ∷ between) ++ below ∷ after
  pub clash : Clashes above below
  pub before : EachPair IsApart (front ++ above ∷ between)
  pub least : AllByRecursion (λ f. IsApart f below) front

-- the paths of these two
pub record IsFirstClash (files : List PlannedFile) (first second : List ℕ) : Type 0 where
  pub front : List PlannedFile
  pub above : PlannedFile
  pub between : List PlannedFile
  pub below : PlannedFile
  pub after : List PlannedFile
  pub found : IsClash files front above between below after
  pub first_is : above.path ≡ first
  pub second_is : below.path ≡ second

-- the places of these two
pub record IsClashAt (files : List PlannedFile) (first second : ℕ) : Type 0 where
  pub front : List PlannedFile
  pub above : PlannedFile
  pub between : List PlannedFile
  pub below : PlannedFile
  pub after : List PlannedFile
  pub found : IsClash files front above between below after
  pub first_at : length front ≡ first
  pub second_at : length (front ++ above ∷ between) ≡ second

-- the first of these files that clashes with a file behind them stands at this place
pub record IsFirstClashing (before : List PlannedFile) (file : PlannedFile) (at : ℕ) : Type 0 where
  pub front : List PlannedFile
  pub above : PlannedFile
  pub between : List PlannedFile
  pub is : before ≡ front ++ above ∷ between
  pub place : length front ≡ at
  pub clash : Clashes above file
  pub least : AllByRecursion (λ f. IsApart f file) front

-- the first element that does not pass stands at this place
pub record IsFirstNot {A : Type 0} (Passes : A → Type 0) (xs : List A) (at : ℕ) : Type 0 where
  pub before : List A
  pub item : A
  pub after : List A
  pub is : xs ≡ before ++ item ∷ after
  pub place : length before ≡ at
  pub pass : AllByRecursion Passes before
  pub fails : Passes item → ⊥

-- the answer for files that are arranged
abbrev pub BuildGives : List PlannedFile → Result (List PlannedFile) BuildError → Type 0
BuildGives arranged (Ok inventory) = (inventory ≡ arranged) × IsInventory arranged
BuildGives arranged (Err Empty) = arranged ≡ []
BuildGives arranged (Err (TooManyFiles count)) = (count ≡ length arranged) × (most_files < count)
BuildGives arranged (Err (TooManyBytes sum)) = (1 ≤ length arranged) × (length arranged ≤ most_files) × (sum ≡ path_bytes arranged) × (most_path_bytes < sum)
BuildGives arranged (Err (Control path)) = IsInBounds arranged × IsFirstUnfit IsControl arranged path
BuildGives arranged (Err (TooBig path)) = IsInBounds arranged × IsFirstUnfit IsTooBig arranged path
BuildGives arranged (Err (Clash first second)) = IsInBounds arranged × AllByRecursion IsFit arranged × IsFirstClash arranged first second
