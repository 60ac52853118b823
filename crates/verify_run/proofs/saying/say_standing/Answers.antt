use Rattle.report_text.specs.Line.{unchecked_text}
use Rattle.std.proofs.Common.{ap, [], ◌∷◌}
use Rattle.bay_core.proofs.Runs.{went_none}
use Rattle.report_text.specs.Line.{unchecked_text}
use Rattle.verify_run.specs.Report.{unchecked_lines}
use Rattle.bay_core.specs.Looks.{Here}
use Rattle.verify_run.proofs.Lines.{relines, said_as, unchecked_none}
use Rattle.verify_run.proofs.saying.say_standing.Goals as goal

pub returns-in-Uncheckable : goal.returns-in-Uncheckable
returns-in-Uncheckable g c = λ d. relines c.say.result d (unchecked_text c.args.path.now ∷ []) _ _ _ (ap (unchecked_lines c.args.path.now) c.in-Uncheckable.is) (c.say.ensures d)

pub returns-in_default : goal.returns-in_default
returns-in_default g c = λ d. said_as d [] _ (unchecked_none _ _ c.in_default.not-Uncheckable) (went_none (Here d) _)
