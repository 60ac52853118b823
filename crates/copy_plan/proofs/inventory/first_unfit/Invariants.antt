use Rattle.std.proofs.Common.{take}
use Rattle.std.specs.List.{AllByRecursion}
use Rattle.copy_plan.specs.Inventory.{IsPlannable}
use Rattle.copy_plan.proofs.inventory.first_unfit.Given as goal

abbrev pub invariant-loop-at : goal.invariant-loop-at
invariant-loop-at l = AllByRecursion IsPlannable (take l.at l.files)
