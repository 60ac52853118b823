use Rattle.std.proofs.Common.{sym, ◌∙◌, refl, arith}
use Rattle.path_text.specs.Places.{first_below}
use Rattle.path_text.proofs.PlaceLemmas.{first_below-next, first_below-at}
use Rattle.path_text.proofs.path.first_offence.Goals as goal

pub loop-at-init : goal.loop-at-init
unfolding first_below
loop-at-init c = refl

pub returns-in-Some : goal.returns-in-Some
returns-in-Some c = sym (first_below-at _ c.loop-at.at _ _ (omega arith) c.loop-at.invariant (sym c.in-Some.ensures))

pub loop-at-preserved : goal.loop-at-preserved
loop-at-preserved c = first_below-next _ c.loop-at.at c.loop-at.invariant ∙ sym c.in_default.ensures
