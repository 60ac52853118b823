use Rattle.std.proofs.Common.{◌≡◌}
use Rattle.run_state.specs.Rules.{CanTurn, IsRun, KeepsRunPool}
use Rattle.run_state.specs.Runs.{Alone}
use Rattle.offload_run.specs.Offload.{ordered_of, stands_at, turns_left_of, IsStocked}
use Rattle.whole_run.proofs.run_to_end.Given as goal

abbrev pub invariant-loop-run : goal.invariant-loop-run
invariant-loop-run g l = record {
  same : ordered_of l.run ≡ ordered_of l.initial.run;
  keeps : IsRun (ordered_of l.run) (stands_at l.run);
  ready : CanTurn (ordered_of l.run) (stands_at l.run) l.pool (g.B.Bay.world l.bay);
  stocked : IsStocked l.run;
  pool : KeepsRunPool (stands_at l.initial.run).phase (stands_at l.run).phase l.initial.pool l.pool;
  turned : Alone (ordered_of l.initial.run) (record { at = stands_at l.initial.run; pool = l.initial.pool; world = g.B.Bay.world l.initial.bay }) (record { at = stands_at l.run; pool = l.pool; world = g.B.Bay.world l.bay });
}

abbrev pub decreases-loop-run : goal.decreases-loop-run
decreases-loop-run g l = turns_left_of l.run
