use Rattle.std.proofs.Common.{◌≡◌, ◌++◌, take}
use Rattle.std.specs.List.{flat_map}
use Rattle.copy_plan.specs.Fields.{file_code}
use Rattle.copy_plan.proofs.encoding.put_files.Given as goal

abbrev pub invariant-loop-file : goal.invariant-loop-file
invariant-loop-file l = l.code.items ≡ l.initial.code.items ++ flat_map file_code (take l.file-index l.files)
