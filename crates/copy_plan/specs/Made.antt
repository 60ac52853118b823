-- What making a plan gives: docs/FORMATS.md, "Plans".
use Rattle.std.specs.Prelude.{◌≡◌, ◌⊎◌, ℕ, true, List, ◌∷◌, ◌++◌, length, Result, Ok, Err}
use Rattle.std.specs.List.{AllByRecursion}
use Rattle.path_text.specs.Path.{is_ancestor}
use Rattle.copy_plan.specs.declared.file.PlannedFile.{PlannedFile}
use Rattle.copy_plan.specs.declared.plan.PlanMakeError.{PlanMakeError}
use Rattle.copy_plan.specs.declared.plan.PlanMakeError.TheVariants.{Clash, Memory}
use Rattle.copy_plan.specs.Plan.{PlanValue, IsPlan, Clears, list_of}

-- a file whose path is the name of a list, or lies below it
abbrev pub ClashesWith : List ℕ → PlannedFile → Type 0
ClashesWith list f = (f.path ≡ list) ⊎ (is_ancestor list f.path ≡ true)

-- the first file that clashes with a list of this name stands at this place
pub record IsFirstInTheWay (list : List ℕ) (files : List PlannedFile) (at : ℕ) : Type 0 where
  pub before : List PlannedFile
  pub file : PlannedFile
  pub after : List PlannedFile
  pub is : files ≡ before ++ file ∷ after
  pub place : length before ≡ at
  pub clear : AllByRecursion (Clears list) before
  pub clash : ClashesWith list file

-- the first file that clashes with a list of this name has this path
pub record IsInTheWay (list : List ℕ) (files : List PlannedFile) (path : List ℕ) : Type 0 where
  pub before : List PlannedFile
  pub file : PlannedFile
  pub after : List PlannedFile
  pub is : files ≡ before ++ file ∷ after
  pub clear : AllByRecursion (Clears list) before
  pub clash : ClashesWith list file
  pub named : file.path ≡ path

-- the answer for a plan of these parts
abbrev pub MakeGives : PlanValue → Result PlanValue PlanMakeError → Type 0
MakeGives p (Ok plan) = (plan ≡ p) × IsPlan p
MakeGives p (Err (Clash list path)) = (list ≡ list_of p) × IsInTheWay (list_of p) p.files path
MakeGives p (Err Memory) = Unit {0}
