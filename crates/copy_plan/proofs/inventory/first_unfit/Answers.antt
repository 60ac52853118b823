use Rattle.copy_plan.specs.Inventory.{IsPlannable}
use Rattle.copy_plan.specs.Build.{IsFit}
use Rattle.copy_plan.proofs.Arranged.{first_not, plannable_fit}
use Rattle.copy_plan.proofs.inventory.first_unfit.Goals as goal

pub returns-then-not-is_plannable-clause-found : goal.returns-then-not-is_plannable-clause-found
returns-then-not-is_plannable-clause-found c =
    first_not IsFit IsPlannable plannable_fit c.args.files.now c.loop-at.at c.index-files-at.result c.loop-at-test.true c.index-files-at.is c.loop-at.invariant c.if-not-is_plannable.ensures
