-- The first of some files that lies above a path.
use Rattle.std.specs.Prelude.{◌≡◌, ℕ, true, false, List, ◌∷◌, ◌++◌, length}
use Rattle.std.specs.List.{AllByRecursion}
use Rattle.path_text.specs.Path.{is_ancestor}
use Rattle.copy_plan.specs.declared.file.PlannedFile.{PlannedFile}

-- the first of the files whose path is an ancestor of this one stands at this place
pub record FirstAncestor (path : List ℕ) (files : List PlannedFile) (at : ℕ) : Type 0 where
  pub before : List PlannedFile
  pub file : PlannedFile
  pub after : List PlannedFile
  pub is : files ≡ before ++ file ∷ after
  pub place : length before ≡ at
  pub above : is_ancestor file.path path ≡ true
  pub first : AllByRecursion (λ g. is_ancestor g.path path ≡ false) before

-- a file with this path stands at this place
pub record HasPath (path : List ℕ) (files : List PlannedFile) (at : ℕ) : Type 0 where
  pub before : List PlannedFile
  pub file : PlannedFile
  pub after : List PlannedFile
  pub is : files ≡ before ++ file ∷ after
  pub place : length before ≡ at
  pub same : file.path ≡ path
