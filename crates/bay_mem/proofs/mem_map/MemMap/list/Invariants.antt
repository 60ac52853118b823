use Rattle.std.proofs.Common.{◌≡◌, map}
use Rattle.std.specs.Map.Iter.{deref_pair}
use Rattle.bay_mem.proofs.Trees.{info_of}
use Rattle.bay_mem.proofs.mem_map.MemMap.list.Given as goal

abbrev pub invariant-loop-path : goal.invariant-loop-path
invariant-loop-path l = l.files.items ≡ map info_of (map deref_pair l.yielded)
