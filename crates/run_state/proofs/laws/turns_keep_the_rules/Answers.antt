use Rattle.run_state.proofs.Turns.{runs_run}
use Rattle.run_state.proofs.laws.turns_keep_the_rules.Goals as goal

pub returns : goal.returns
returns c = runs_run
