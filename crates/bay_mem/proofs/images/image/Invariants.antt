use Rattle.std.proofs.Common.{take}
use Rattle.bay_mem.specs.Image.{Stands}
use Rattle.bay_mem.proofs.images.image.Given as goal

abbrev pub invariant-loop-event : goal.invariant-loop-event
invariant-loop-event l = Stands l.start.map (take l.event-index l.events) l.d l.stand.read.map l.stand.left.map
