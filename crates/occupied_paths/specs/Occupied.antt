-- What a drive lists that stands in the way of an offload by a plan, by the number of records of a drive that was begun, None of a fresh one:
-- docs/MODEL.md, "A listing".
use Rattle.std.specs.Prelude.{◌≡◌, ◌⊎◌, ℕ, ◌<◌, true, List, Option, Some, None, is_some, slice_get}
use Rattle.path_text.specs.Path.{is_ancestor}
use Rattle.folder_listing.specs.Listing.{IsCrossed, IsTaken}
use Rattle.copy_plan.specs.declared.file.PlannedFile.{PlannedFile}
use Rattle.copy_plan.specs.Plan.{PlanValue, list_of}

-- the path of the file with this number is occupied: on a fresh drive where it is taken; on one with records where it is the next file's and crossed, or a later file's and taken
abbrev pub IsOccupied : (List ℕ → Option ℕ) → Option ℕ → ℕ → List ℕ → Type 0
IsOccupied size None number path = IsTaken size path
IsOccupied size (Some records) number path = ((number ≡ records) × IsCrossed size path) ⊎ ((records < number) × IsTaken size path)

-- the name of the list is occupied: a listed name is that name, or lies below it
abbrev pub IsListOccupied : (List ℕ → Option ℕ) → List ℕ → Type 0
IsListOccupied size list = (name : List ℕ) × (is_some (size name) ≡ true) × ((name ≡ list) ⊎ (is_ancestor list name ≡ true))

-- there is a file with this number, and its path is occupied
pub record IsFileOccupied (size : List ℕ → Option ℕ) (records : Option ℕ) (files : List PlannedFile) (number : ℕ) : Type 0 where
  pub file : PlannedFile
  pub is : slice_get files number ≡ Some file
  pub occupied : IsOccupied size records number file.path

-- no file's path is occupied
abbrev pub AreFilesFree : (List ℕ → Option ℕ) → Option ℕ → List PlannedFile → Type 0
AreFilesFree size records files = (number : ℕ) → ¬ IsFileOccupied size records files number

-- the first file whose path is occupied has this one
pub record IsFirstFile (size : List ℕ → Option ℕ) (records : Option ℕ) (files : List PlannedFile) (path : List ℕ) : Type 0 where
  pub number : ℕ
  pub occupied : IsFileOccupied size records files number
  pub first : (earlier : ℕ) → earlier < number → ¬ IsFileOccupied size records files earlier
  pub named : path ≡ occupied.file.path

-- no file's path is occupied, the name of the list is, and this is that name
pub record IsListAlone (size : List ℕ → Option ℕ) (records : Option ℕ) (plan : PlanValue) (path : List ℕ) : Type 0 where
  pub files : AreFilesFree size records plan.files
  pub list : IsListOccupied size (list_of plan)
  pub named : path ≡ list_of plan

-- the first path of a plan that is occupied: the files in their order, the name of the list last
abbrev pub IsFirstOccupied : (List ℕ → Option ℕ) → Option ℕ → PlanValue → List ℕ → Type 0
IsFirstOccupied size records plan path = IsFirstFile size records plan.files path ⊎ IsListAlone size records plan path

-- no path of a plan is occupied
pub record IsFree (size : List ℕ → Option ℕ) (records : Option ℕ) (plan : PlanValue) : Type 0 where
  pub files : AreFilesFree size records plan.files
  pub list : ¬ IsListOccupied size (list_of plan)
