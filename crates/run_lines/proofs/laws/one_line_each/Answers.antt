use Rattle.run_lines.proofs.Runs.{one_each}
use Rattle.run_lines.proofs.laws.one_line_each.Goals as goal

pub returns : goal.returns
returns c = one_each c.turns_keep_the_rules.ensures
