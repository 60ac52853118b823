use Rattle.std.proofs.Common.{◌∙◌, sym, ap}
use Rattle.report_text.specs.Line.{line_text}
use Rattle.report_text.proofs.losses.failure_line.Goals as goal

pub returns-in-JobfailedAlteredSha1-clause-text : goal.returns-in-JobfailedAlteredSha1-clause-text
returns-in-JobfailedAlteredSha1-clause-text c = λ _. c.altered_job-in-JobfailedAlteredSha1.ensures.text ∙ ap line_text (sym c.in-JobfailedAlteredSha1.is)
