use Rattle.std.specs.List.{AllByRecursion}
use Rattle.copy_plan.proofs.Above.{NotYet}
use Rattle.copy_plan.proofs.ancestors.first_ancestor.Given as goal

abbrev pub invariant-loop-at : goal.invariant-loop-at
invariant-loop-at l = AllByRecursion (NotYet l.text l.at) l.files
