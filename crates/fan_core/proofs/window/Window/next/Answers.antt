use Rattle.std.proofs.Common.{rules}
use Rattle.fan_core.proofs.Keeps.{finished_exactly}
use Rattle.fan_core.proofs.window.Window.next.Goals as goal

pub returns-then-is_waiting-clause-finished : goal.returns-then-is_waiting-clause-finished
returns-then-is_waiting-clause-finished c = finished_exactly c.args.self.now.counts c.args.pick _ c.args.self.now.keeps (search rules)

pub returns-in-Some-clause-finished : goal.returns-in-Some-clause-finished
returns-in-Some-clause-finished c = finished_exactly c.args.self.now.counts c.args.pick _ c.args.self.now.keeps (search rules)

pub returns-in-None-clause-finished : goal.returns-in-None-clause-finished
returns-in-None-clause-finished c = finished_exactly c.args.self.now.counts c.args.pick _ c.args.self.now.keeps (search rules)
