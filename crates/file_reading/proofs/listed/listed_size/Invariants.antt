use Rattle.std.proofs.Common.{◌≡◌, take}
use Rattle.std.specs.Prelude.{None, bytes_eq}
use Rattle.std.specs.Map.{lookup}
use Rattle.bay_core.specs.Map.{sizes}
use Rattle.file_reading.proofs.listed.listed_size.Given as goal

abbrev pub invariant-loop-file : goal.invariant-loop-file
invariant-loop-file l = lookup (bytes_eq l.path) (sizes (take l.file-index l.files)) ≡ None
