use Rattle.run_calls.proofs.Knowing.{starts_ready}
use Rattle.run_calls.proofs.laws.runs_that_keep_no_part_are_ready.Goals as goal

pub returns : goal.returns
returns c = starts_ready
