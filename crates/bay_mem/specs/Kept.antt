-- Which device was attached last from a place, as the code answers it.
use Rattle.bay_core.specs.Replay.{Device, Source, Drive}
use Rattle.bay_mem.specs.declared.places.Kept.{Kept}
use Rattle.bay_mem.specs.declared.places.Kept.TheVariants.{Card, Drive as ADrive}

-- the card or drive of that number
abbrev pub device_of_kept : Kept → Device
device_of_kept (Card s) = Source s
device_of_kept (ADrive d) = Drive d
