-- A tree of files in memory as finite maps.
use Rattle.std.specs.Prelude.{map, String, string_bytes}
use Rattle.std.specs.Global.{Global}
use Rattle.std.specs.FinMap.{FinMap, from_entries}
use Rattle.std.specs.BTreeMap.{BTreeMap}
use Rattle.std.specs.Ordering.{nat_cmp}
use Rattle.std.specs.Cmp.Lexicographic.{slice_cmp}
use Rattle.bay_mem.specs.declared.mem_map.MemFile.{MemFile}
use Rattle.bay_mem.specs.Files.{Files}

-- what is kept of each file, by its path
abbrev pub kept : {V : Type 0} → (MemFile → V) → BTreeMap (String Global) MemFile → FinMap (slice_cmp nat_cmp) V
kept f tree = from_entries (map (λ e. (string_bytes e.0, f e.1)) tree.entries)

-- the bytes and the dates of a tree's files
abbrev pub files_of : BTreeMap (String Global) MemFile → Files
files_of tree = record { map = kept (λ f. f.bytes.items) tree; dates = kept (λ f. f.modified) tree }
