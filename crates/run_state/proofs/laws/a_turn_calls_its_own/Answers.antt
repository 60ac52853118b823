use Rattle.run_state.proofs.Calls.{turn_calls}
use Rattle.run_state.proofs.laws.a_turn_calls_its_own.Goals as goal

pub returns : goal.returns
returns c = turn_calls
