use Rattle.std.proofs.Common.{◌≡◌, ℕ, map}
use Rattle.std.specs.List.{AllByRecursion}
use Rattle.run_state.specs.State.{at_of}
use Rattle.offload_run.specs.Offload.{begins_at, run_at, HasAtMost, HasRoom}
use Rattle.offload_run.proofs.offload.drive_runs.Given as goal

abbrev pub invariant-loop-start : goal.invariant-loop-start
invariant-loop-start l = record {
  most : AllByRecursion (HasAtMost l.count) l.start-iterator.rest.items;
  at : map at_of l.drives.items ≡ map begins_at l.yielded;
  room : (d : ℕ) → HasRoom l.count (run_at l.drives.items d);
}
