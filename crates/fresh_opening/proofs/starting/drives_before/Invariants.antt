use Rattle.std.proofs.Common.{◌≡◌, replicate}
use Rattle.drive_journal.specs.declared.order.DriveStart.TheVariants.{Gone}
use Rattle.fresh_opening.proofs.starting.drives_before.Given as goal

abbrev pub invariant-loop : goal.invariant-loop
invariant-loop l = l.starts.items ≡ replicate l.counter Gone
