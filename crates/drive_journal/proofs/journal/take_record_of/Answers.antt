use Rattle.drive_journal.proofs.Records.{record_other}
use Rattle.drive_journal.proofs.journal.take_record_of.Goals as goal

pub returns-then-record-index : goal.returns-then-record-index
returns-then-record-index c = record_other c.args.index c.args.file.now c.args.bytes.now c.in-Some.taken.0 c.in-Some.taken.1.now c.in-Some.ensures (λ is. c.if-record-index.true is.index)

pub returns-then-record-file : goal.returns-then-record-file
returns-then-record-file c = record_other c.args.index c.args.file.now c.args.bytes.now c.in-Some.taken.0 c.in-Some.taken.1.now c.in-Some.ensures (λ is. c.if-record-file.true is.size)
