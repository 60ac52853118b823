use Rattle.run_reads.proofs.Once.{its_files}
use Rattle.run_reads.proofs.laws.reads_its_files.Goals as goal

pub returns : goal.returns
returns c = its_files
