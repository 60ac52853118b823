use Rattle.std.proofs.Common.{arith}
use Rattle.drive_journal.proofs.Bounds.{gate_behind, gate_within, journal_most}
use Rattle.drive_journal.proofs.laws.short_journal.Goals as goal

pub returns-clause-gate : goal.returns-clause-gate
returns-clause-gate c = gate_behind

pub returns-clause-bytes : goal.returns-clause-bytes
returns-clause-bytes c = journal_most

pub returns-clause-at : goal.returns-clause-at
returns-clause-at c = gate_within

pub returns-clause-index : goal.returns-clause-index
returns-clause-index c = λ p k is below. omega (arith, is.inventory.few)
