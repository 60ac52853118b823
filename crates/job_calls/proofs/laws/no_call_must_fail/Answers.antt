use Rattle.job_calls.proofs.Failing.{fails_none_of}
use Rattle.job_calls.proofs.Given.{places_of}
use Rattle.job_calls.proofs.Owning.{stands_of}
use Rattle.job_calls.proofs.Parts.{parts_of}
use Rattle.job_calls.proofs.laws.no_call_must_fail.Goals as goal

pub returns : goal.returns
returns c = λ job end result old new past since r.
    let parts = parts_of c.calls_are_its_own.ensures job end result old new past since r in
    fails_none_of c.reads_its_files.ensures c.renames_find_their_files.ensures c.turns_alone.ensures c.runs_that_keep_no_part_are_ready.ensures job end result past since old new r.was r.no_drive parts
    (places_of job past since old new r.was r.no_card r.no_drive (stands_of job end result past since old new parts)).dated
