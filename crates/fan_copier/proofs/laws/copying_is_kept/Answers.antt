use Rattle.fan_copier.proofs.Keeping.{copying_stays}
use Rattle.fan_copier.proofs.laws.copying_is_kept.Goals as goal

pub returns : goal.returns
returns c = copying_stays
