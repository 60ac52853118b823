use Rattle.std.proofs.Common.{arith}
use Rattle.fan_core.proofs.Rules.{fewest_read}
use Rattle.fan_core.proofs.window.Window.held.Goals as goal

pub overflow_sub-result : goal.overflow_sub-result
overflow_sub-result c =
    let counts = c.args.self.now.counts in
    omega (arith, fewest_read counts.live counts.written counts.read, c.fewest.ensures)
