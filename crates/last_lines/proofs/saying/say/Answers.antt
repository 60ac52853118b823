use Rattle.std.proofs.Common.{◌∙◌}
use Rattle.last_lines.proofs.Said.{told_one, untold_one}
use Rattle.last_lines.proofs.saying.say.Goals as goal

pub returns-in-Ok : goal.returns-in-Ok
returns-in-Ok g c = told_one _ _ (c.bytes.ensures ∙ c.line_into.ensures.text) c.in-Ok.ensures

pub returns-in-Err : goal.returns-in-Err
returns-in-Err g c = untold_one _ _ (c.bytes.ensures ∙ c.line_into.ensures.text) c.in-Err.ensures
