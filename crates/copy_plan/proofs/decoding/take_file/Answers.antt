use Rattle.copy_plan.proofs.Taken.{taken_other_alone, taken_other_behind}
use Rattle.copy_plan.proofs.decoding.take_file.Goals as goal

pub returns-then-not-stands_alone : goal.returns-then-not-stands_alone
returns-then-not-stands_alone c =
    taken_other_alone c.args.list.now c.args.before.now c.args.total c.args.bytes.now c.in-Ok.taken.0 c.in-Ok.taken.1.now c.stands_alone.result c.requires.total c.in-Ok.ensures c.stands_alone.ensures c.if-not-stands_alone.true

pub returns-then-not-stands_behind : goal.returns-then-not-stands_behind
returns-then-not-stands_behind c =
    taken_other_behind c.args.list.now c.args.before.now c.args.bytes.now c.in-Ok.taken.0 c.in-Ok.taken.1.now c.stands_behind.result c.in-Ok.ensures c.stands_behind.ensures c.if-not-stands_behind.true
