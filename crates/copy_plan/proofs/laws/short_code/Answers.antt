use Rattle.copy_plan.proofs.Bounds.{code_most}
use Rattle.copy_plan.proofs.laws.short_code.Goals as goal

pub returns : goal.returns
returns c = code_most
