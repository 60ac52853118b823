use Rattle.std.proofs.Common.{◌≡◌}
use Rattle.bay_mem.specs.State.{world_of}
use Rattle.bay_rows.proofs.steps.play.Given as goal

abbrev pub invariant-loop-step : goal.invariant-loop-step
invariant-loop-step g l = ((world_of l.bay.seen).attached.sources ≡ l.count.cards) × ((world_of l.bay.seen).attached.drives ≡ l.count.drives)
