use Rattle.run_ends.proofs.Lengths.{lengths}
use Rattle.run_ends.proofs.laws.other_lengths_were_read.Goals as goal

pub returns : goal.returns
returns c = λ o a b. lengths o a b (λ x. c.turns_keep_the_rules.ensures o a x)
