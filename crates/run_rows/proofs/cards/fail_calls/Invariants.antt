use Rattle.run_rows.specs.Ready.{IsReady}
use Rattle.run_rows.proofs.cards.fail_calls.Given as goal

abbrev pub invariant-loop-call : goal.invariant-loop-call
invariant-loop-call l = IsReady l.bay
