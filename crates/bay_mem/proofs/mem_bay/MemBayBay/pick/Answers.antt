use Rattle.std.proofs.Common.{refl}
use Rattle.bay_core.specs.Replay.{Picker}
use Rattle.bay_mem.proofs.Blames.{clock_called, clock_blameless}
use Rattle.bay_mem.proofs.mem_bay.MemBayBay.pick.Goals as goal

pub returns-clause-called : goal.returns-clause-called
returns-clause-called c = clock_called _ _ _ _ Picker _ c.next_pick-n.ensures refl refl c.note_or_hush.ensures

pub returns-clause-blamed : goal.returns-clause-blamed
returns-clause-blamed c = clock_blameless _ _ _ _ c.next_pick-n.ensures c.note_or_hush.ensures
