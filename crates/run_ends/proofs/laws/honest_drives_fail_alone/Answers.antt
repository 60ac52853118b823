use Rattle.run_ends.proofs.Failing.{alone}
use Rattle.run_ends.proofs.laws.honest_drives_fail_alone.Goals as goal

pub returns : goal.returns
returns c = λ o a b. alone o a b (λ x. c.turns_keep_the_rules.ensures o a x)
