use Rattle.std.proofs.Common.{length}
use Rattle.offload_law.specs.Steps.{offload}
use Rattle.offload_law.proofs.Clear.{told_least, told_one}
use Rattle.offload_law.proofs.Runs.{told_more}
use Rattle.offload_law.proofs.greatest_told.Goals as goal

pub returns-clause-least : goal.returns-clause-least
returns-clause-least c = λ o start d told L. (told_more (offload d o start) L told, λ steps is. told_least o start d told L (c.announced_steps.ensures.each d (length o.plan.files)) (c.announced_steps.ensures.only d (length o.plan.files)) steps is)

pub returns-clause-one : goal.returns-clause-one
returns-clause-one c = λ o start d told L. told_one o start d told L (c.announced_steps.ensures.each d (length o.plan.files)) (c.announced_steps.ensures.only d (length o.plan.files))
