use Rattle.std.proofs.Common.{take}
use Rattle.copy_plan.specs.Inventory.{Precedes, EachPair}
use Rattle.copy_plan.proofs.inventory.first_clash.Given as goal

abbrev pub invariant-loop-at : goal.invariant-loop-at
invariant-loop-at l = EachPair Precedes (take l.at l.files)
