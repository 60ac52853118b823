-- Plans as values: docs/FORMATS.md, "Plans".
use Rattle.std.specs.Prelude.{◌≡◌, ◌≢◌, ℕ, ◌≤◌, true, false, List, Option, IfSome}
use Rattle.std.specs.List.{AllByRecursion}
use Rattle.path_text.specs.Path.{is_path, is_control_path, is_ancestor, is_one_part}
use Rattle.path_text.specs.Label.{is_label}
use Rattle.path_text.specs.Moment.{last_moment}
use Rattle.path_text.specs.ListName.{list_name_text}
use Rattle.path_text.specs.Kinds.{has_kind}
use Rattle.path_text.specs.declared.kinds.Kinds.{Kinds}
use Rattle.copy_plan.specs.declared.file.PlannedFile.{PlannedFile}
use Rattle.copy_plan.specs.Inventory.{IsInventory}

-- a plan: who offloads what, since when, which digests its list shows, which list its files were taken from, and the files
pub record PlanValue : Type 0 where
  pub name : List ℕ
  pub user : List ℕ
  pub host : List ℕ
  pub started : ℕ
  pub kinds : Kinds
  pub source_list : Option (List ℕ)
  pub files : List PlannedFile

-- the name of its list
abbrev pub list_of : PlanValue → List ℕ
list_of p = list_name_text p.name p.started

-- a source list is a path of one part and no control path
pub record IsSourceList (text : List ℕ) : Type 0 where
  pub path : is_path text ≡ true
  pub part : is_one_part text ≡ true
  pub own : is_control_path text ≡ false

-- a file that does not clash with a list of this name: the name is neither its path nor an ancestor of it
pub record Clears (list : List ℕ) (f : PlannedFile) : Type 0 where
  pub differs : f.path ≢ list
  pub apart : is_ancestor list f.path ≡ false

-- a plan: its labels, start, kinds, source list and inventory keep their rules, and no file clashes with its list name
pub record IsPlan (p : PlanValue) : Type 0 where
  pub name : is_label p.name ≡ true
  pub user : is_label p.user ≡ true
  pub host : is_label p.host ≡ true
  pub started : p.started ≤ last_moment
  pub kinds : has_kind p.kinds ≡ true
  pub source_list : IfSome p.source_list IsSourceList
  pub inventory : IsInventory p.files
  pub clear : AllByRecursion (Clears (list_of p)) p.files
