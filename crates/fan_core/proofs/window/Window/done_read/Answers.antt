use Rattle.std.proofs.Common.{arith}
use Rattle.fan_core.proofs.Keeps.{keeps_read}
use Rattle.fan_core.proofs.window.Window.done_read.Goals as goal

pub overflow_add-self : goal.overflow_add-self
overflow_add-self c = omega arith

pub invariant_of-self : goal.invariant_of-self
invariant_of-self c = record { keeps = keeps_read c.args.self.now.counts c.args.self.now.keeps c.requires }
