use Rattle.folder_listing.proofs.Trees.{HasListed}
use Rattle.folder_listing.proofs.folder.Folder.of_files.Given as goal

abbrev pub invariant-loop-file : goal.invariant-loop-file
invariant-loop-file l = HasListed l.seen l.yielded
