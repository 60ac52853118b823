use Rattle.std.proofs.Common.{◌-◌, ◌+◌, ◌≤◌, length}
use Rattle.file_reading.specs.Reads.{SoFar}
use Rattle.file_reading.proofs.whole.read_text.Given as goal

abbrev pub invariant-loop-text : goal.invariant-loop-text
invariant-loop-text g l = record {
  read : SoFar l.d l.path (l.limit + 1) l.text.items (g.B.Bay.world l.initial.bay) (g.B.Bay.world l.bay);
  within : length l.text.items ≤ l.limit + 1;
}

abbrev pub decreases-loop-text : goal.decreases-loop-text
decreases-loop-text g l = l.limit + 1 - length l.text.items
