use Rattle.std.specs.Prelude.{◌≡◌, drop, option_copied}
use Rattle.std.specs.Option.{option_or}
use Rattle.bay_mem.specs.State.{placed}
use Rattle.bay_mem.proofs.places.place_at.Given as goal

abbrev pub invariant-loop-added : goal.invariant-loop-added
invariant-loop-added l = option_or (placed (drop l.added-index l.places) l.fn.place) (option_copied l.found) ≡ placed l.fn.places l.fn.place
