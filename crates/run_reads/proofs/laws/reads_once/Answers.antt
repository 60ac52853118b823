use Rattle.run_reads.proofs.Naming.{once}
use Rattle.run_reads.proofs.laws.reads_once.Goals as goal

pub returns : goal.returns
returns c = once
