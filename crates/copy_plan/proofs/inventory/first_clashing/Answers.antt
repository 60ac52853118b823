use Rattle.std.proofs.Common.{◌∙◌, sym}
use Rattle.std.specs.Cmp.Lexicographic.{same_text, other_text}
use Rattle.copy_plan.proofs.Arranged.{clash_last, clash_found, clash_lacks}
use Rattle.copy_plan.proofs.inventory.first_clashing.Goals as goal

pub returns-then-eq-clause-found : goal.returns-then-eq-clause-found
returns-then-eq-clause-found c =
    clash_last c.args.before.now c.in-Some.front.now c.in-Some.last.now c.args.file.now c.in-Some.ensures.cases c.requires.pairs (same_text _ _ (sym c.if-eq.true ∙ c.eq.ensures))

pub returns-clause-found : goal.returns-clause-found
returns-clause-found c = clash_found c.args.before.now c.args.file.now c.first_ancestor.result c.requires.pairs c.requires.order c.first_ancestor.ensures.found

pub returns-clause-none : goal.returns-clause-none
returns-clause-none c =
    clash_lacks c.args.before.now c.in-Some.front.now c.in-Some.last.now c.args.file.now c.first_ancestor.result c.in-Some.ensures.cases c.requires.pairs c.requires.order (other_text _ _ (sym c.if-eq.false ∙ c.eq.ensures)) c.first_ancestor.ensures.none
