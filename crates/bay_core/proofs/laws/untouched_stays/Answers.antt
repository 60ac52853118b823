use Rattle.bay_core.proofs.Looking.{untouched_on}
use Rattle.bay_core.proofs.Rest.{untouched_reads, untouched_left, untouched_back, untouched_settled}
use Rattle.bay_core.proofs.laws.untouched_stays.Goals as goal

pub returns-clause-reads : goal.returns-clause-reads
returns-clause-reads c = untouched_reads

pub returns-clause-left : goal.returns-clause-left
returns-clause-left c = untouched_left

pub returns-clause-back : goal.returns-clause-back
returns-clause-back c = untouched_back

pub returns-clause-settled : goal.returns-clause-settled
returns-clause-settled c = untouched_settled

pub returns-clause-each_drive : goal.returns-clause-each_drive
returns-clause-each_drive c = λ L d. untouched_on d L
