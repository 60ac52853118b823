use Rattle.std.proofs.Common.{◌≡◌, ◌*◌, ◌≤◌, take}
use Rattle.copy_plan.specs.Inventory.{path_bytes}
use Rattle.copy_plan.proofs.inventory.count_bytes.Given as goal

abbrev pub invariant-loop-file : goal.invariant-loop-file
invariant-loop-file l = (l.sum ≡ path_bytes (take l.file-index l.files)) × (l.sum ≤ 1024 * l.file-index)
