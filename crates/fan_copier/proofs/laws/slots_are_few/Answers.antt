use Rattle.fan_copier.proofs.Keeping.{slots_few}
use Rattle.fan_copier.proofs.laws.slots_are_few.Goals as goal

pub returns : goal.returns
returns c = slots_few
