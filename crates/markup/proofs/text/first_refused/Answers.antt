use Rattle.std.proofs.Common.{sym, ◌∙◌, refl, arith}
use Rattle.path_text.specs.Places.{first_below}
use Rattle.path_text.proofs.PlaceLemmas.{first_below-next, first_below-at}
use Rattle.markup.proofs.CheckedTexts.{refused_at-true, refused_at-false}
use Rattle.markup.proofs.text.first_refused.Goals as goal

pub loop-at-init : goal.loop-at-init
unfolding first_below
loop-at-init c = refl

pub returns-then-is_refused_at : goal.returns-then-is_refused_at
returns-then-is_refused_at c = sym (first_below-at _ c.loop-at.at _ _ (omega arith) c.loop-at.invariant (refused_at-true c.args.text.now _ (omega arith) (sym c.is_refused_at.ensures ∙ c.if-is_refused_at.true)))

pub loop-at-preserved : goal.loop-at-preserved
loop-at-preserved c = first_below-next _ c.loop-at.at c.loop-at.invariant ∙ refused_at-false c.args.text.now _ (omega arith) (sym c.is_refused_at.ensures ∙ c.if-is_refused_at.false)
