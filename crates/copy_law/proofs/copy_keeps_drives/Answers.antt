use Rattle.copy_law.proofs.Joining.{copy_keeps}
use Rattle.copy_law.proofs.copy_keeps_drives.Goals as goal

pub returns : goal.returns
returns c = copy_keeps
