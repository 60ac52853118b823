use Rattle.std.proofs.Common.{◌≡◌}
use Rattle.bay_mem.specs.State.{world_of}
use Rattle.run_rows.proofs.cards.add_drives.Given as goal

abbrev pub invariant-loop-place : goal.invariant-loop-place
invariant-loop-place l = ((world_of l.bay.seen).attached.sources ≡ 1) × ((world_of l.bay.seen).attached.drives ≡ l.place-index)
