use Rattle.std.proofs.Common.{◌≡◌, take}
use Rattle.seal_step.proofs.reading.compare.Given as goal

abbrev pub invariant-loop-place : goal.invariant-loop-place
invariant-loop-place l = take l.place l.read ≡ take l.place l.written
