-- The files shorter than the bytes tried so far lie not above the path.
use Rattle.std.proofs.Common.{◌≡◌, false, List, ℕ, ◌∙◌, subst}
use Rattle.std.specs.List.{AllByRecursion}
use Rattle.path_text.specs.Path.{is_ancestor}
use Rattle.copy_plan.specs.declared.file.PlannedFile.{PlannedFile}
use Rattle.copy_plan.specs.Ancestors.{FirstAncestor}
use Rattle.copy_plan.proofs.Above.{no_slash, no_file, none_above, first_found}
use Rattle.copy_plan.proofs.ancestors.first_ancestor.Goals as goal

pub loop-at-preserved-then-text-at-ne47 : goal.loop-at-preserved-then-text-at-ne47
loop-at-preserved-then-text-at-ne47 c = no_slash c.as_bytes-text.result.now c.loop-at.at c.args.files.now c.if-text-at-ne47.true c.loop-at.invariant

pub returns-in-Some-clause-found : goal.returns-in-Some-clause-found
returns-in-Some-clause-found c =
    let same : c.as_bytes-text.result.now ≡ c.args.path.now = c.as_bytes-text.ensures.value ∙ c.as_str.ensures.same in
    subst (λ (l : List ℕ). FirstAncestor l c.args.files.now c.in-Some.place) same
    (first_found c.as_bytes-text.result.now c.loop-at.at c.args.files.now c.in-Some.place c.requires c.loop-at-test.true c.if-text-at-ne47.false c.loop-at.invariant c.in-Some.ensures.found)

pub loop-at-preserved : goal.loop-at-preserved
loop-at-preserved c = no_file c.as_bytes-text.result.now c.loop-at.at c.args.files.now c.in_default.ensures.none c.loop-at.invariant

pub returns-clause-none : goal.returns-clause-none
returns-clause-none c =
    let same : c.as_bytes-text.result.now ≡ c.args.path.now = c.as_bytes-text.ensures.value ∙ c.as_str.ensures.same in
    subst (λ (l : List ℕ). AllByRecursion (λ (f : PlannedFile). is_ancestor f.path l ≡ false) c.args.files.now) same
    (none_above c.as_bytes-text.result.now c.loop-at.at c.args.files.now c.loop-at-test.false c.loop-at.invariant)
