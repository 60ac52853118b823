use Rattle.run_reads.proofs.AtOnce.{dated_at_once}
use Rattle.run_reads.proofs.laws.dones_are_dated.Goals as goal

pub returns : goal.returns
returns c = dated_at_once
