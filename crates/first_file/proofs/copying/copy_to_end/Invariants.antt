use Rattle.std.proofs.Common.{◌≡◌}
use Rattle.fan_copier.specs.Copying.{card_of, size_of, live_of, slots_at_most, slots_of, standing}
use Rattle.fan_copier.specs.Ring.{KeepsPool}
use Rattle.fan_copier.specs.Turning.{turns_left}
use Rattle.first_file.proofs.Turning.{OnTheWay}
use Rattle.first_file.proofs.copying.copy_to_end.Given as goal

abbrev pub invariant-loop-triple : goal.invariant-loop-triple
invariant-loop-triple g l = record {
  way : OnTheWay (card_of l.initial.copy) (size_of l.initial.copy) (live_of l.initial.copy) l.path (g.B.Bay.world l.initial.bay) (g.B.Bay.world l.bay) l.copy l.pool;
  pool : KeepsPool l.slot (slots_of l.initial.copy) (slots_of l.copy) l.initial.pool l.pool;
  slots : slots_at_most l.copy ≡ slots_at_most l.initial.copy;
}

abbrev pub decreases-loop-triple : goal.decreases-loop-triple
decreases-loop-triple g l = turns_left (standing l.copy)
