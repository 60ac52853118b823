use Rattle.std.specs.Prelude.{◌≡◌, drop, option_map}
use Rattle.std.specs.Option.{option_or}
use Rattle.bay_core.specs.Attach.{last_from}
use Rattle.bay_mem.specs.Kept.{device_of_kept}
use Rattle.bay_mem.proofs.places.last_kept.Given as goal

abbrev pub invariant-loop-event : goal.invariant-loop-event
invariant-loop-event l = option_or (last_from l.fn.place (drop l.event-index l.events)) (option_map device_of_kept l.found) ≡ last_from l.fn.place l.fn.events
