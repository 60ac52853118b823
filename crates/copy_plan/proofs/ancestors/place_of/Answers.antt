-- The search answers by the order of the paths with the one that is sought.
use Rattle.std.proofs.Common.{rules}
use Rattle.std.specs.Ordering.{nat_cmp}
use Rattle.std.specs.Cmp.Lexicographic.{slice_cmp}
use Rattle.std.proofs.lemmas.Fn.{always_returns_same}
use Rattle.copy_plan.specs.declared.file.PlannedFile.{PlannedFile}
use Rattle.copy_plan.proofs.Above.{found_path, no_path}
use Rattle.copy_plan.proofs.ancestors.place_of.Goals as goal

pub returns-in-Ok-clause-found : goal.returns-in-Ok-clause-found
returns-in-Ok-clause-found c =
    found_path c.args.path.now c.args.files.now c.in-Ok.at c.in-Ok.ensures.bound
    (c.in-Ok.ensures.position (λ (f : PlannedFile). slice_cmp nat_cmp f.path c.args.path.now) (always_returns_same _ _ _ (λ a r f' k. search rules)))

pub returns-in-Err-clause-none : goal.returns-in-Err-clause-none
returns-in-Err-clause-none c =
    no_path c.args.path.now c.args.files.now c.in-Err.field-0 c.requires
    (c.in-Err.ensures.position (λ (f : PlannedFile). slice_cmp nat_cmp f.path c.args.path.now) (always_returns_same _ _ _ (λ a r f' k. search rules)))
