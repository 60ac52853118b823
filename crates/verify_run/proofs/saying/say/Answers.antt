use Rattle.std.proofs.Common.{sym, ◌∙◌}
use Rattle.bay_core.proofs.Looking.{said_ok}
use Rattle.verify_run.proofs.Lines.{said_as, one_line}
use Rattle.verify_run.proofs.Stops.{line_unsaid}
use Rattle.verify_run.proofs.saying.say.Goals as goal

pub returns-in-Ok : goal.returns-in-Ok
returns-in-Ok g c = λ d. said_as d _ _ (one_line _ _ (sym (c.bytes.ensures ∙ c.line_into.ensures.text))) (said_ok d _ c.in-Ok.ensures)

pub returns-in-Err : goal.returns-in-Err
returns-in-Err g c = λ d. line_unsaid d _ c.in-Err.ensures
