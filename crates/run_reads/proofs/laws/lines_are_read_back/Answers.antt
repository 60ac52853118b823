use Rattle.run_reads.proofs.Backing.{read_back}
use Rattle.run_reads.proofs.laws.lines_are_read_back.Goals as goal

pub returns : goal.returns
returns c = read_back
