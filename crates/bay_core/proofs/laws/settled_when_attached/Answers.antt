use Rattle.bay_core.proofs.Rest.{attached_rest}
use Rattle.bay_core.proofs.laws.settled_when_attached.Goals as goal

pub returns : goal.returns
returns c = attached_rest
