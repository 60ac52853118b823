use Rattle.std.proofs.Common.{length}
use denote.Text.{Utf8}
use denote.Shadow.{shadow}
use Rattle.folder_listing.proofs.Crossed.{LeavesAbove}
use Rattle.folder_listing.proofs.folder.has_above.Given as goal

abbrev pub invariant-loop-above : goal.invariant-loop-above
invariant-loop-above l = shadow (Utf8 l.rest) × LeavesAbove l.files l.path l.rest

abbrev pub decreases-loop-above : goal.decreases-loop-above
decreases-loop-above l = length l.rest
