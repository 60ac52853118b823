use Rattle.std.proofs.Common.{◌≡◌, List, ℕ, [], ◌∷◌, None, sym, ap, subst, ◌∙◌}
use Rattle.std.proofs.lemmas.List.{nil_from_length}
use Rattle.markup.specs.Taking.{strip}
use Rattle.markup.specs.Taking.{behind_first}
use Rattle.markup.proofs.Names.{behind_found, behind_nothing, behind_next}
use Rattle.markup.proofs.scan.behind.Goals as goal

pub returns-in-Some : goal.returns-in-Some
returns-in-Some c = sym c.loop-after.invariant ∙ behind_found c.args.mark.now c.loop-after.rest.now c.in-Some.after.now c.in-Some.ensures

pub returns-in_default-split_first : goal.returns-in_default-split_first
returns-in_default-split_first c =
    let none : c.loop-after.rest.now ≡ [] = nil_from_length c.loop-after.rest.now c.in_default-split_first.ensures.cases in
    sym c.loop-after.invariant ∙ ap (behind_first c.args.mark.now) none ∙ behind_nothing c.args.mark.now (subst (λ (r : List ℕ). strip c.args.mark.now r ≡ None) none c.in_default.ensures)

pub loop-after-preserved : goal.loop-after-preserved
loop-after-preserved c =
    let b = c.in-Some-split_first.field-0-0.now in
    let bs = c.in-Some-split_first.others.now in
    let here : c.loop-after.rest.now ≡ b ∷ bs = c.in-Some-split_first.ensures.cases.0 in
    sym (behind_next c.args.mark.now b bs (subst (λ (r : List ℕ). strip c.args.mark.now r ≡ None) here c.in_default.ensures)) ∙ sym (ap (behind_first c.args.mark.now) here) ∙ c.loop-after.invariant
