use Rattle.std.proofs.Common.{◌<◌}
use Rattle.bay_mem.specs.State.{world_of}
use Rattle.act_rows.proofs.worked.after.Given as goal

abbrev pub invariant-loop-call : goal.invariant-loop-call
invariant-loop-call g l = 0 < (world_of l.bay.seen).attached.drives
