use Rattle.std.proofs.Common.{ℕ, map}
use Rattle.std.specs.Prelude.{is_some}
use Rattle.run_state.specs.State.{at_of, drive_at, due, keeps_part}
use Rattle.offload_run.proofs.Counting.{Below}
use Rattle.offload_run.proofs.offload.Offload.due.Given as goal

abbrev pub invariant-loop-d : goal.invariant-loop-d
invariant-loop-d l = record {
  are_due : Below (λ (k : ℕ). is_some (due l.index (drive_at (map at_of l.self.drives.items) k))) l.d l.drives;
  keep : Below (λ (k : ℕ). keeps_part (due l.index (drive_at (map at_of l.self.drives.items) k))) l.d l.keeping;
}
