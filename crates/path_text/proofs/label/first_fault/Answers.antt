use Rattle.std.proofs.Common.{sym, ◌∙◌, refl, arith}
use Rattle.path_text.specs.Places.{first_below}
use Rattle.path_text.proofs.PlaceLemmas.{first_below-next, first_below-at}
use Rattle.path_text.proofs.Labels.{label_fault-true, label_fault-false}
use Rattle.path_text.proofs.label.first_fault.Goals as goal

pub loop-at-init : goal.loop-at-init
unfolding first_below
loop-at-init c = refl

pub returns-then-breaks_label_at : goal.returns-then-breaks_label_at
returns-then-breaks_label_at c = sym (first_below-at _ c.loop-at.at _ _ (omega arith) c.loop-at.invariant (label_fault-true c.args.text.now _ (sym c.breaks_label_at.ensures ∙ c.if-breaks_label_at.true)))

pub loop-at-preserved : goal.loop-at-preserved
loop-at-preserved c = first_below-next _ c.loop-at.at c.loop-at.invariant ∙ label_fault-false c.args.text.now _ (sym c.breaks_label_at.ensures ∙ c.if-breaks_label_at.false)
