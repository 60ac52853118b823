use Rattle.std.proofs.Common.{◌≡◌, true}
use Rattle.fan_core.specs.Flags.{has}
use Rattle.fan_core.proofs.tests.a_dropped_drive_frees_the_window.Given as goal

abbrev pub invariant-loop-block : goal.invariant-loop-block
invariant-loop-block g l = has l.window.counts.live 0 ≡ true
