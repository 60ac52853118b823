use Rattle.run_steps.proofs.Ready.{runs_ready}
use Rattle.run_steps.proofs.parts_stay_ready.Goals as goal

pub returns : goal.returns
returns c = λ o a b. runs_ready o (c.turns_keep_the_rules.ensures o) a b
