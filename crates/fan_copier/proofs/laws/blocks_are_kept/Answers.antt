use Rattle.fan_copier.proofs.Keeping.{lent_blocks, back_blocks}
use Rattle.fan_copier.proofs.laws.blocks_are_kept.Goals as goal

pub returns-clause-lent : goal.returns-clause-lent
returns-clause-lent c = lent_blocks

pub returns-clause-back : goal.returns-clause-back
returns-clause-back c = back_blocks
