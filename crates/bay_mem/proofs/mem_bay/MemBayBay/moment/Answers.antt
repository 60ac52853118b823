use Rattle.std.proofs.Common.{refl}
use Rattle.bay_core.specs.Replay.{Clock}
use Rattle.bay_mem.proofs.Blames.{clock_called, clock_blameless}
use Rattle.bay_mem.proofs.mem_bay.MemBayBay.moment.Goals as goal

pub returns-clause-called : goal.returns-clause-called
returns-clause-called c = clock_called _ _ _ _ Clock _ refl refl refl c.note_or_hush.ensures

pub returns-clause-blamed : goal.returns-clause-blamed
returns-clause-blamed c = clock_blameless _ _ _ _ refl c.note_or_hush.ensures
