use Rattle.std.proofs.Common.{ℕ, ◌<◌}
use Rattle.std.specs.FinMap.{get}
use Rattle.folder_listing.specs.Listing.{sizes_in}
use Rattle.occupied_paths.specs.Occupied.{IsFileOccupied}
use Rattle.occupied_paths.proofs.occupied.first_occupied.Given as goal

-- no file passed so far is occupied
abbrev pub invariant-loop-number : goal.invariant-loop-number
invariant-loop-number l = (earlier : ℕ) → earlier < l.number → ¬ IsFileOccupied (get (sizes_in l.folder)) l.fn.records l.file-items earlier
