use Rattle.std.proofs.Common.{◌++◌, refl}
use Rattle.copy_plan.specs.Fields.{plan_code}
use Rattle.copy_plan.proofs.Plans.{one_plan, code_no_fault}
use Rattle.copy_plan.proofs.laws.one_plan.Goals as goal

pub returns-clause-one : goal.returns-clause-one
returns-clause-one c = one_plan

pub returns-clause-no_fault : goal.returns-clause-no_fault
returns-clause-no_fault c = λ p rest at plan fault. code_no_fault p rest (plan_code p ++ rest) at plan refl fault
