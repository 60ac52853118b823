use Rattle.run_ends.proofs.Losing.{losses}
use Rattle.run_ends.proofs.laws.losses_have_causes.Goals as goal

pub returns : goal.returns
returns c = λ o a b. losses o a b (λ x. c.turns_keep_the_rules.ensures o a x)
