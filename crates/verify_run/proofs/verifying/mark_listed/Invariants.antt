use Rattle.std.proofs.Common.{map, take}
use Rattle.folder_listing.specs.Listing.{sizes_in, IsMarkedAt}
use Rattle.verify_run.proofs.verifying.mark_listed.Given as goal

abbrev pub invariant-loop-entry : goal.invariant-loop-entry
invariant-loop-entry l = IsMarkedAt (sizes_in l.initial.folder) (map (λ e. e.path) (take l.entry-index l.entries)) l.folder
