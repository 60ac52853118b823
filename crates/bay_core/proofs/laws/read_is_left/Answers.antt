use Rattle.bay_core.proofs.Readable.{reads_left}
use Rattle.bay_core.proofs.laws.read_is_left.Goals as goal

pub returns : goal.returns
returns c = reads_left
