use Rattle.bay_core.proofs.Rest.{left_within}
use Rattle.bay_core.proofs.laws.left_within.Goals as goal

pub returns : goal.returns
returns c = left_within
