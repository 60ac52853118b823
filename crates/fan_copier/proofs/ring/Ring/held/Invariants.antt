use Rattle.std.proofs.Common.{◌≡◌, take}
use Rattle.fan_copier.specs.Ring.{taken}
use Rattle.fan_copier.proofs.ring.Ring.held.Given as goal

abbrev pub invariant-loop-slot : goal.invariant-loop-slot
invariant-loop-slot l = record {
  held : l.held ≡ taken (take l.slot-index l.slot-items);
  same : l.slot-items ≡ l.self.slots;
}
