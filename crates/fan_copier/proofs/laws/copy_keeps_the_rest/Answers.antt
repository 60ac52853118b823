use Rattle.fan_copier.proofs.Keeping.{copy_keeps}
use Rattle.fan_copier.proofs.laws.copy_keeps_the_rest.Goals as goal

pub returns : goal.returns
returns c = copy_keeps
