use Rattle.run_state.proofs.Turns.{alone_runs}
use Rattle.run_state.proofs.laws.turns_alone.Goals as goal

pub returns : goal.returns
returns c = alone_runs
