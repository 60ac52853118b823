use Rattle.std.proofs.Common.{sym}
use Rattle.fan_core.proofs.Keeps.{act_write, act_read}
use Rattle.fan_core.proofs.tests.step.Goals as goal

pub done_read-requires : goal.done_read-requires
done_read-requires c = act_read c.args.window.now.counts 0 (sym c.in-Read.ensures.act)

pub done_write-requires : goal.done_write-requires
done_write-requires c = (act_write c.args.window.now.counts 0 _ _ (sym c.in-Write.ensures.act)).0
