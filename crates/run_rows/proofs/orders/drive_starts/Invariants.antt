use Rattle.std.proofs.Common.{◌≡◌, length}
use Rattle.std.specs.List.{AllByRecursion}
use Rattle.drive_journal.specs.Order.{Fits}
use Rattle.run_rows.proofs.orders.drive_starts.Given as goal

abbrev pub invariant-loop-start : goal.invariant-loop-start
invariant-loop-start l = (AllByRecursion (Fits l.plan) l.drives.items) × (length l.drives.items ≡ l.start-index)
