use Rattle.bay_core.proofs.Crash.{left_any}
use Rattle.bay_core.proofs.Rest.{left_two}
use Rattle.bay_core.proofs.laws.left_in_turn.Goals as goal

pub returns-clause-then : goal.returns-clause-then
returns-clause-then c = left_any

pub returns-clause-back : goal.returns-clause-back
returns-clause-back c = left_two
