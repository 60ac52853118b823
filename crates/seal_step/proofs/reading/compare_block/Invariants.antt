use Rattle.std.proofs.Common.{◌≡◌, ◌+◌, ◌-◌, ◌≤◌, length, take, drop}
use Rattle.seal_step.specs.Comparing.{Stands, place_of}
use Rattle.seal_step.specs.Parts.{list_parts, joined}
use Rattle.seal_step.proofs.reading.compare_block.Given as goal

abbrev pub invariant-loop-done : goal.invariant-loop-done
invariant-loop-done l = record {
  same : take l.done l.read ≡ take l.done (drop l.at (joined (list_parts l.list.plan.now l.list.entries.now l.list.finish)));
  stands : Stands (list_parts l.list.plan.now l.list.entries.now l.list.finish) l.place l.scratch;
  here : place_of (list_parts l.list.plan.now l.list.entries.now l.list.finish) l.place ≡ l.at + l.done;
  within : l.done ≤ length l.read;
}

abbrev pub decreases-loop-done : goal.decreases-loop-done
decreases-loop-done l = length l.read - l.done
