use Rattle.run_state.proofs.Turns.{start_bound}
use Rattle.run_state.proofs.laws.starts_within_the_bound.Goals as goal

pub returns : goal.returns
returns c = start_bound
