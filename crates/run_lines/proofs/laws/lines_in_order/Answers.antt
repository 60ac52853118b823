use Rattle.run_lines.proofs.Runs.{order_beside, order_alone}
use Rattle.run_lines.proofs.laws.lines_in_order.Goals as goal

pub returns-clause-beside : goal.returns-clause-beside
returns-clause-beside c = order_beside c.turns_keep_the_rules.ensures

pub returns-clause-alone : goal.returns-clause-alone
returns-clause-alone c = order_alone c.turns_keep_the_rules.ensures c.turns_alone.ensures
