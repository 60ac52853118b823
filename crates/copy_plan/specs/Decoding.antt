-- What reading a plan found, part by part: docs/FORMATS.md, "Plans".
use Rattle.std.specs.Prelude.{◌≡◌, ◌≢◌, ℕ, ◌+◌, ◌-◌, ◌<◌, ◌≤◌, Bool, false, List, ◌++◌, length, Option, IfSome}
use Rattle.std.specs.List.{AllByRecursion, flat_map}
use Rattle.path_text.specs.Path.{is_control_path}
use Rattle.path_text.specs.Moment.{last_moment}
use Rattle.path_text.specs.declared.kinds.Kinds.{Kinds}
use Rattle.copy_plan.specs.declared.file.PlannedFile.{PlannedFile}
use Rattle.copy_plan.specs.declared.fields.FieldError.{FieldError}
use Rattle.copy_plan.specs.declared.fields.FieldError.TheVariants.{Broken, Memory as Wanting}
use Rattle.copy_plan.specs.declared.decoding.PlanError.{PlanError}
use Rattle.copy_plan.specs.declared.decoding.PlanError.TheVariants.{NotAPlan, Memory}
use Rattle.copy_plan.specs.declared.decoding.Head.{Head}
use Rattle.copy_plan.specs.Inventory.{IsPlannable, Precedes, EachPair, path_bytes, most_path_bytes, size_limit}
use Rattle.copy_plan.specs.Plan.{PlanValue, IsPlan, IsSourceList, Clears}
use Rattle.copy_plan.specs.Fields.{mark_code, moment_code, label_code, choice_code, file_code, plan_code, is_plain, IsLabel, IsChosen}

-- the refusal of a plan where a field at this place could not be taken
abbrev pub wrong : FieldError → ℕ → PlanError
wrong Broken at = NotAPlan at
wrong Wanting at = Memory

-- a refusal with a place where something goes wrong, or want of memory
abbrev pub Faults : (ℕ → Type 0) → PlanError → Type 0
Faults Wrong (NotAPlan at) = Wrong at
Faults Wrong Memory = Unit {0}

-- the place of a fault of what is left of the bytes
pub record Behind (bytes rest : List ℕ) (Fault : List ℕ → ℕ → Type 0) (at : ℕ) : Type 0 where
  pub later : ℕ
  pub at_is : at ≡ length bytes - length rest + later
  pub fault : Fault rest later

-- the mark, the start and the labels stand at the front of the bytes
pub record HeadStands (bytes : List ℕ) (head : Head) (rest : List ℕ) : Type 0 where
  pub started : head.started ≤ last_moment
  pub name : IsLabel head.name
  pub user : IsLabel head.user
  pub host : IsLabel head.host
  pub is : bytes ≡ mark_code head.plain ++ (moment_code head.started ++ (label_code head.name ++ (label_code head.user ++ (label_code head.host ++ rest))))

-- kinds and a source list, of a plan with this mark
pub record ChoiceStands (plain : Bool) (bytes : List ℕ) (kinds : Kinds) (source : Option (List ℕ)) (rest : List ℕ) : Type 0 where
  pub chosen : IsChosen kinds
  pub source_list : IfSome source IsSourceList
  pub mark : is_plain kinds source ≡ plain
  pub is : bytes ≡ choice_code kinds source ++ rest

-- files that keep all their rules together, in a plan with this list name
pub record Keeps (list : List ℕ) (files : List PlannedFile) : Type 0 where
  pub short : path_bytes files ≤ most_path_bytes
  pub each : AllByRecursion IsPlannable files
  pub pairs : EachPair Precedes files
  pub clear : AllByRecursion (Clears list) files

-- so many files stand at the front of the bytes
pub record FilesTaken (list : List ℕ) (count : ℕ) (bytes : List ℕ) (files : List PlannedFile) (rest : List ℕ) : Type 0 where
  pub counted : length files ≡ count
  pub kept : Keeps list files
  pub is : bytes ≡ flat_map file_code files ++ rest

-- a file that keeps the rules that do not speak of the files before it, but for the bytes of their paths
pub record StandsAlone (list : List ℕ) (total : ℕ) (f : PlannedFile) : Type 0 where
  pub own : is_control_path f.path ≡ false
  pub small : f.size < size_limit
  pub short : total + length f.path ≤ most_path_bytes
  pub clear : Clears list f

-- the bytes begin with the code of this plan, which has so many bytes
pub record PlanStands (bytes : List ℕ) (p : PlanValue) (used : ℕ) : Type 0 where
  pub plan : IsPlan p
  pub rest : List ℕ
  pub is : bytes ≡ plan_code p ++ rest
  pub used_is : used ≡ length (plan_code p)

-- the bytes begin with the code of no plan
abbrev pub IsNoPlan : List ℕ → Type 0
IsNoPlan bytes = (p : PlanValue) (rest : List ℕ) → IsPlan p → bytes ≢ plan_code p ++ rest
