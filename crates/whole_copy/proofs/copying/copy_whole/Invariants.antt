use Rattle.std.proofs.Common.{◌≡◌}
use Rattle.fan_copier.specs.Copying.{standing}
use Rattle.fan_copier.specs.Ring.{KeepsPool}
use Rattle.fan_copier.specs.Turning.{turns_left}
use Rattle.whole_copy.proofs.Turned.{SoFar}
use Rattle.whole_copy.proofs.copying.copy_whole.Given as goal

abbrev pub invariant-loop-ended : goal.invariant-loop-ended
invariant-loop-ended g l = record {
  far : SoFar l.initial.copy.source l.path l.initial.copy.size (standing l.initial.copy) (g.B.Bay.world l.initial.bay) (g.B.Bay.world l.bay) l.copy l.pool;
  pool : KeepsPool l.compare l.initial.copy.ring.slots l.copy.ring.slots l.initial.pool l.pool;
  slots : l.copy.window.counts.slots ≡ l.initial.copy.window.counts.slots;
}

abbrev pub decreases-loop-ended : goal.decreases-loop-ended
decreases-loop-ended g l = turns_left (standing l.copy)
