use Rattle.fresh_opening.proofs.Refusing.{not_all}
use Rattle.fresh_opening.proofs.looking.all_dropped.Goals as goal

pub returns-in-Bare : goal.returns-in-Bare
returns-in-Bare c = not_all c.args.seen.now c.loop-drive.drive-index c.drive-item.result c.in-Bare.listing c.loop-drive-test.true c.drive-item.is c.in-Bare.is
