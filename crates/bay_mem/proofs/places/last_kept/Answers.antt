use Rattle.std.proofs.Common.{List, sym, ap, ◌∙◌}
use Rattle.std.specs.Prelude.{option_map}
use Rattle.std.specs.Option.{option_or}
use Rattle.std.proofs.Math.ListN.{drop_of_length-le}
use Rattle.bay_core.specs.declared.event.Event.{Event}
use Rattle.bay_core.specs.Attach.{last_from}
use Rattle.bay_mem.specs.Kept.{device_of_kept}
use Rattle.bay_mem.proofs.places.last_kept.Goals as goal

pub returns : goal.returns
returns c =
    sym (ap (λ (L : List Event). option_or (last_from c.args.place.now L) (option_map device_of_kept c.loop-event.found)) (drop_of_length-le c.args.events.now c.loop-event-test.false)) ∙ c.loop-event.invariant
