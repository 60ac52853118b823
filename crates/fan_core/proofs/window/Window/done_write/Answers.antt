use Rattle.std.proofs.Common.{arith}
use Rattle.fan_core.proofs.Keeps.{keeps_write, waits}
use Rattle.fan_core.proofs.window.Window.done_write.Goals as goal

pub bounds-self-d : goal.bounds-self-d
bounds-self-d c = (waits c.args.self.now.counts c.args.self.now.keeps c.args.d c.requires).eight

pub overflow_add-self : goal.overflow_add-self
overflow_add-self c = let below = (waits c.args.self.now.counts c.args.self.now.keeps c.args.d c.requires).below in omega (arith, below)

pub bounds-self-d-2 : goal.bounds-self-d-2
bounds-self-d-2 c = (waits c.args.self.now.counts c.args.self.now.keeps c.args.d c.requires).eight

pub invariant_of-self : goal.invariant_of-self
invariant_of-self c = record { keeps = keeps_write c.args.self.now.counts c.args.self.now.keeps c.args.d c.requires }
