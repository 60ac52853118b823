use Rattle.std.proofs.Common.{◌-◌, ◌≤◌}
use Rattle.verify_run.proofs.Hashing.{Hashed}
use Rattle.verify_run.proofs.reading.read_file.Given as goal

abbrev pub invariant-loop-at : goal.invariant-loop-at
invariant-loop-at g l = record {
  read : Hashed l.d l.path l.limit l.at (g.D.Digest.fed l.run) (g.B.Bay.world l.initial.bay) (g.B.Bay.world l.bay);
  within : l.at ≤ l.limit;
}

abbrev pub decreases-loop-at : goal.decreases-loop-at
decreases-loop-at g l = l.limit - l.at
