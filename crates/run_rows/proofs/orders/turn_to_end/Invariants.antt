use Rattle.bay_mem.specs.State.{world_of}
use Rattle.run_state.specs.Rules.{CanTurn, IsRun}
use Rattle.offload_run.specs.Offload.{ordered_of, stands_at, turns_left_of, IsStocked}
use Rattle.run_rows.specs.Ready.{IsReady}
use Rattle.run_rows.proofs.orders.turn_to_end.Given as goal

abbrev pub invariant-loop : goal.invariant-loop
invariant-loop l = record {
  keeps : IsRun (ordered_of l.run) (stands_at l.run);
  ready : CanTurn (ordered_of l.run) (stands_at l.run) l.pool (world_of l.bay.seen);
  stocked : IsStocked l.run;
  devices : IsReady l.bay;
}

abbrev pub decreases-loop : goal.decreases-loop
decreases-loop l = turns_left_of l.run
