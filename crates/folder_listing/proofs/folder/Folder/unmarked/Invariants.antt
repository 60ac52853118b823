use Rattle.std.proofs.Common.{◌≡◌, map}
use Rattle.std.specs.List.{filter}
use Rattle.std.specs.Map.Iter.{deref_pair}
use Rattle.folder_listing.proofs.Trees.{name_of, left_out}
use Rattle.folder_listing.proofs.folder.Folder.unmarked.Given as goal

abbrev pub invariant-loop-path : goal.invariant-loop-path
invariant-loop-path l = l.names.items ≡ map name_of (filter left_out (map deref_pair l.yielded))
