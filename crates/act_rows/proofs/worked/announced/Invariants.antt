use Rattle.std.proofs.Common.{◌≤◌}
use Rattle.act_rows.proofs.worked.announced.Given as goal

abbrev pub invariant-loop-event : goal.invariant-loop-event
invariant-loop-event l = l.steps ≤ 3
