use Rattle.copy_plan.proofs.Taking.{takes_none}
use Rattle.drive_journal.proofs.Records.{record_begins, no_index, no_size, no_digests, no_moment}
use Rattle.drive_journal.proofs.journal.take_record.Goals as goal

pub returns-in_err-index : goal.returns-in_err-index
returns-in_err-index c = takes_none _ _ _ _ _ c.from_residual.ensures (no_index c.args.bytes.now c.in_err-index.ensures)

pub returns-in_err-size : goal.returns-in_err-size
returns-in_err-size c = takes_none _ _ _ _ _ c.from_residual-in_err-size.ensures (no_size c.args.bytes.now c.in_ok-index.rest.now c.in_ok-index.index c.in_ok-index.ensures c.in_err-size.ensures)

pub returns-in-None : goal.returns-in-None
returns-in-None c = no_digests c.args.bytes.now c.in_ok-index.rest.now c.in_ok-size.rest.now c.in_ok-index.index c.in_ok-size.size c.in_ok-index.ensures c.in_ok-size.ensures c.in-None.ensures

pub returns-in-None-moment : goal.returns-in-None-moment
returns-in-None-moment c =
    no_moment c.args.bytes.now c.in_ok-index.rest.now c.in_ok-size.rest.now c.in-Some.taken.1.now c.in_ok-index.index c.in_ok-size.size c.in-Some.taken.0 c.in_ok-index.ensures c.in_ok-size.ensures c.in-Some.ensures c.in-None-moment.ensures

pub returns : goal.returns
returns c =
    record_begins c.args.bytes.now c.in_ok-index.rest.now c.in_ok-size.rest.now c.in-Some.taken.1.now c.in-Some-moment.taken.1.now c.in_ok-index.index c.in_ok-size.size c.in-Some-moment.taken.0 c.in-Some.taken.0
    c.in_ok-index.ensures c.in_ok-size.ensures c.in-Some.ensures c.in-Some-moment.ensures
