use Rattle.job_calls.proofs.Parts.{parts_of}
use Rattle.job_calls.proofs.Stopping.{none_follows}
use Rattle.job_ends.proofs.Whole.{told_five}
use Rattle.job_ends.proofs.laws.lines_not_said_are_five.Goals as goal

pub returns : goal.returns
returns c = λ job end result old new past since r.
    told_five job end result old new since
    (none_follows c.none_after_failure.ensures.alone c.runs_that_keep_no_part_are_ready.ensures job end result past since old new r.few (parts_of c.calls_are_its_own.ensures job end result old new past since r))
