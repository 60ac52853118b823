use Rattle.std.proofs.Common.{◌≡◌, length}
use Rattle.drive_journal.specs.Journal.{AreRecords}
use Rattle.run_rows.proofs.orders.records.Given as goal

abbrev pub invariant-loop-index : goal.invariant-loop-index
invariant-loop-index l = (AreRecords 0 l.plan.files l.recs.items) × (length l.recs.items ≡ l.index)
