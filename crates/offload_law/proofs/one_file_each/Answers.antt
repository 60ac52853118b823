use Rattle.offload_law.proofs.Counted.{one_file_each}
use Rattle.offload_law.proofs.one_file_each.Goals as goal

pub returns : goal.returns
returns c = one_file_each
