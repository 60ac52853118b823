use Rattle.drive_journal.proofs.Journals.{one_journal, no_fault}
use Rattle.drive_journal.proofs.laws.one_journal.Goals as goal

pub returns-clause-one : goal.returns-clause-one
returns-clause-one c = one_journal

pub returns-clause-no_fault : goal.returns-clause-no_fault
returns-clause-no_fault c = no_fault
