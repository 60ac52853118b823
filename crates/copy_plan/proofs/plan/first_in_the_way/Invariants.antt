use Rattle.std.proofs.Common.{take}
use Rattle.std.specs.List.{AllByRecursion}
use Rattle.copy_plan.specs.Plan.{Clears}
use Rattle.copy_plan.proofs.plan.first_in_the_way.Given as goal

abbrev pub invariant-loop-at : goal.invariant-loop-at
invariant-loop-at l = AllByRecursion (Clears l.list) (take l.at l.files)
