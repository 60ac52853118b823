use Rattle.offload_rows.specs.Bare.{IsBare}
use Rattle.offload_rows.proofs.failures.failing_bay.Given as goal

abbrev pub invariant-loop-call : goal.invariant-loop-call
invariant-loop-call l = IsBare l.bay
