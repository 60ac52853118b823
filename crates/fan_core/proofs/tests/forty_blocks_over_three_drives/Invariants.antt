use Rattle.std.proofs.Common.{◌≡◌, true}
use Rattle.fan_core.specs.Flags.{has}
use Rattle.fan_core.proofs.tests.forty_blocks_over_three_drives.Given as goal

abbrev pub invariant-loop-act : goal.invariant-loop-act
invariant-loop-act g l = has l.window.counts.live 0 ≡ true
