use Rattle.std.proofs.Common.{◌≡◌, length}
use Rattle.markup.specs.Taking.{behind_first}
use Rattle.markup.proofs.scan.behind.Given as goal

abbrev pub invariant-loop-after : goal.invariant-loop-after
invariant-loop-after l = behind_first l.mark l.rest ≡ behind_first l.mark l.bytes

abbrev pub decreases-loop-after : goal.decreases-loop-after
decreases-loop-after l = length l.rest
