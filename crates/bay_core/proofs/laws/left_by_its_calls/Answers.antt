use Rattle.bay_core.proofs.Rest.{left_same}
use Rattle.bay_core.proofs.Replays.{reads_by_calls}
use Rattle.bay_core.proofs.laws.left_by_its_calls.Goals as goal

pub returns-clause-left : goal.returns-clause-left
returns-clause-left c = left_same

pub returns-clause-reads : goal.returns-clause-reads
returns-clause-reads c = reads_by_calls
