use Rattle.file_reading.proofs.Stops.{halted_none}
use Rattle.file_reading.proofs.whole.read_whole.Goals as goal

pub returns-in-Err-clause-read : goal.returns-in-Err-clause-read
returns-in-Err-clause-read g c = halted_none _ _

pub returns-in-Err-with_capacity-clause-read : goal.returns-in-Err-with_capacity-clause-read
returns-in-Err-with_capacity-clause-read g c = halted_none _ _
