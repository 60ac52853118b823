use Rattle.std.proofs.Common.{◌<◌}
use Rattle.bay_mem.specs.State.{world_of}
use Rattle.bay_rows.proofs.rows.left.Given as goal

abbrev pub invariant-loop-change : goal.invariant-loop-change
invariant-loop-change l = 0 < (world_of l.bay.seen).attached.drives
