use Rattle.std.proofs.Common.{◌<◌, ◌≤◌}
use Rattle.bay_mem.specs.State.{world_of}
use Rattle.opening_rows.proofs.openings.opened.Given as goal

abbrev pub invariant-loop-call : goal.invariant-loop-call
invariant-loop-call l = (0 < (world_of l.bay.seen).attached.sources) × (2 ≤ (world_of l.bay.seen).attached.drives)
