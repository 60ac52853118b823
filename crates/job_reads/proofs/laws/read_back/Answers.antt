use Rattle.job_reads.proofs.Backing.{reads_back}
use Rattle.job_reads.proofs.laws.read_back.Goals as goal

pub returns : goal.returns
returns c = λ job end result old new past since r.
    reads_back
    (record { own = c.calls_are_its_own.ensures; alone = c.turns_alone.ensures; rules = c.turns_keep_the_rules.ensures; dated = c.dones_are_dated.ensures; over = c.turns_pass_over_drives.ensures.lines })
    job end result old new past since r
