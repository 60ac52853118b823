use Rattle.run_ends.proofs.Soundness.{completes}
use Rattle.run_ends.proofs.laws.sound_runs_are_complete.Goals as goal

pub returns : goal.returns
returns c = λ o a b card. completes o a b card (λ x. c.turns_keep_the_rules.ensures o a x)
