use Rattle.drive_journal.proofs.Records.{triple_begins}
use Rattle.copy_plan.proofs.Taking.{parts_at}
use Rattle.drive_journal.proofs.journal.take_triple.Goals as goal

pub returns : goal.returns
returns c =
    let one = c.in_ok-md5.ensures.cases in
    let two = c.in_ok-sha1.ensures.cases in
    let three = c.in_ok-xxh.ensures.cases in
    triple_begins c.args.bytes.now c.in_ok-md5.md5.now c.in_ok-md5.rest.now c.in_ok-sha1.sha1.now c.in_ok-sha1.rest.now c.in_ok-xxh.xxh.now c.in_ok-xxh.rest.now
    (parts_at 16 _ _ _ one.0 one.1 one.2) (parts_at 20 _ _ _ two.0 two.1 two.2) (parts_at 8 _ _ _ three.0 three.1 three.2)
