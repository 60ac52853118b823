use Rattle.std.proofs.Common.{◌≡◌, ◌*◌, ◌≤◌, take, length}
use Rattle.std.specs.List.{flat_map}
use Rattle.copy_plan.specs.Fields.{file_code}
use Rattle.copy_plan.proofs.encoding.files_len.Given as goal

abbrev pub invariant-loop-file : goal.invariant-loop-file
invariant-loop-file l = record { value : l.len ≡ length (flat_map file_code (take l.file-index l.files)); bound : l.len ≤ 1042 * l.file-index }
