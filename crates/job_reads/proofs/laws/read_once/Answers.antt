use Rattle.job_reads.proofs.Once.{reads_once}
use Rattle.job_reads.proofs.laws.read_once.Goals as goal

pub returns : goal.returns
returns c = λ job end result old new past since r.
    reads_once
    (record { own = c.calls_are_its_own.ensures; alone = c.turns_alone.ensures; once = c.reads_once.ensures; files = c.reads_its_files.ensures })
    job end result old new past since r
