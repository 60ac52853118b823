use Rattle.run_ends.proofs.Ending.{ends}
use Rattle.run_ends.proofs.laws.ends_have_causes.Goals as goal

pub returns : goal.returns
returns c = λ o a b. ends o a b (λ x. c.turns_keep_the_rules.ensures o a x)
