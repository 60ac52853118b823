use Rattle.run_reads.proofs.Standing.{stand}
use Rattle.run_reads.proofs.laws.parts_stand.Goals as goal

pub returns : goal.returns
returns c = stand
