use Rattle.run_rows.specs.Ready.{IsReady}
use Rattle.run_rows.proofs.lies.lying.Given as goal

abbrev pub invariant-loop-path : goal.invariant-loop-path
invariant-loop-path l = IsReady l.bay
