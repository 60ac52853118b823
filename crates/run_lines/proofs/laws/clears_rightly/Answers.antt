use Rattle.run_lines.proofs.Calling.{clears_beside, clears_alone}
use Rattle.run_lines.proofs.laws.clears_rightly.Goals as goal

pub returns-clause-beside : goal.returns-clause-beside
returns-clause-beside c = clears_beside c.turns_keep_the_rules.ensures c.announced_steps.ensures.short

pub returns-clause-alone : goal.returns-clause-alone
returns-clause-alone c = clears_alone c.turns_keep_the_rules.ensures c.turns_alone.ensures c.announced_steps.ensures.short
