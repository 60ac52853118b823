use Rattle.std.proofs.Common.{take}
use Rattle.bay_core.specs.Map.{paths}
use Rattle.folder_listing.specs.Listing.{listing, IsMarkedAt}
use Rattle.folder_listing.proofs.tests.others.Given as goal

abbrev pub invariant-loop-file : goal.invariant-loop-file
invariant-loop-file l = IsMarkedAt (listing l.fn.files.items) (paths (take l.file-index l.list)) l.folder
