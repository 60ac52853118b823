use Rattle.bay_core.proofs.Rest.{prefix_again}
use Rattle.bay_core.proofs.laws.prefix_of_prefix.Goals as goal

pub returns : goal.returns
returns c = prefix_again
