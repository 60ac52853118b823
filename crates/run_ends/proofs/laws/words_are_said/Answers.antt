use Rattle.run_ends.proofs.Hearing.{words}
use Rattle.run_ends.proofs.laws.words_are_said.Goals as goal

pub returns : goal.returns
returns c = λ o a b. words o a b (λ x. c.turns_keep_the_rules.ensures o a x)
