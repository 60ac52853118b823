use Rattle.true_start.proofs.Known.{known_onward, knows_reads}
use Rattle.true_start.proofs.laws.what_is_ready_is_known.Goals as goal

pub returns-clause-known : goal.returns-clause-known
returns-clause-known c = λ o a. known_onward o a (c.turns_keep_the_rules.ensures o a) (c.parts_stay_ready.ensures o a)

pub returns-clause-reads : goal.returns-clause-reads
returns-clause-reads c = knows_reads
