use Rattle.std.proofs.Common.{◌≡◌}
use Rattle.fan_core.proofs.tests.follow.Given as goal

abbrev pub invariant-loop-block : goal.invariant-loop-block
invariant-loop-block g l = l.window.counts.live ≡ l.initial.window.counts.live
