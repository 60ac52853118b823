use Rattle.run_state.proofs.Turns.{left_some}
use Rattle.run_state.proofs.laws.a_turn_is_left_until_the_end.Goals as goal

pub returns : goal.returns
returns c = left_some
