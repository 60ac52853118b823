-- How many bytes the code of a plan has at most.
use Rattle.std.proofs.Common.{◌≡◌, Bool, true, false, cond, ℕ, ◌+◌, ◌*◌, ◌≤◌, List, [], ◌∷◌, ◌++◌, length, arith, length-append}
use Rattle.std.specs.Prelude.{Option, Some, None, IfSome}
use Rattle.std.specs.List.{flat_map}
use Rattle.std.specs.Int.{w16, to_be_bytes}
use Rattle.path_text.specs.Label.{is_label}
use Rattle.path_text.specs.declared.kinds.Kinds.{Kinds}
use Rattle.copy_plan.specs.declared.file.PlannedFile.{PlannedFile}
use Rattle.copy_plan.specs.Inventory.{path_bytes}
use Rattle.copy_plan.specs.Plan.{PlanValue, IsPlan, IsSourceList}
use Rattle.copy_plan.specs.Fields.{label_code, kinds_code, path_code, source_code, choice_code, file_code, plan_code, is_plain, largest_code}
use Rattle.copy_plan.proofs.Files.{path_bytes-append, path_bytes-one}
use Rattle.copy_plan.proofs.Lengths.{file_length, plan_length}
use Rattle.copy_plan.proofs.Texts.{path_bounds, label_bounds}

label_most : (label : List ℕ) → is_label label ≡ true → length (label_code label) ≤ 65
unfolding label_code
label_most label is = let b = label_bounds label is in omega (arith, b.1)

source_most : (source : Option (List ℕ)) → IfSome source IsSourceList → length (source_code source) ≤ 1026
unfolding source_code path_code
source_most None is = omega arith
source_most (Some path) is = let short = path_bounds path is.path in omega (arith, short.1, length-append (to_be_bytes w16 (length path)) path)

choice_most : (kinds : Kinds) (source : Option (List ℕ)) → IfSome source IsSourceList → length (choice_code kinds source) ≤ 1027
unfolding kinds_code
choice_most kinds source is =
    let long = source_most source is in
    let both = length-append (kinds_code kinds) (source_code source) in
    elim (is_plain kinds source) as (λ (plain : Bool). length (cond plain [] (kinds_code kinds ++ source_code source)) ≤ 1027) [
      | true ↦ omega arith
      | false ↦ omega (arith, long, both)
    ]

-- 18 bytes for each file beside its path
files_length : (files : List PlannedFile) → length (flat_map file_code files) ≡ 18 * length files + path_bytes files
unfolding path_bytes
files_length [] = omega arith
files_length (f ∷ files) =
    omega (arith, files_length files, length-append (file_code f) (flat_map file_code files), file_length f, path_bytes-append (f ∷ []) files, path_bytes-one f)

pub code_most : (p : PlanValue) → IsPlan p → length (plan_code p) ≤ largest_code
code_most p is =
    omega (arith, plan_length p, label_most p.name is.name, label_most p.user is.user, label_most p.host is.host, choice_most p.kinds p.source_list is.source_list, files_length p.files, is.inventory.few, is.inventory.short)
