use Rattle.std.proofs.Common.{take}
use Rattle.folder_listing.specs.Listing.{sizes_in}
use Rattle.verify_run.specs.Results.{EntriesChecked}
use Rattle.verify_run.proofs.checking.check_entries.Given as goal

abbrev pub invariant-loop-entry : goal.invariant-loop-entry
invariant-loop-entry g l = EntriesChecked l.d (sizes_in l.folder) (take l.entry-index l.entries) l.verdict (g.B.Bay.world l.initial.bay) (g.B.Bay.world l.bay)
