use Rattle.std.proofs.Common.{sym, ◌∙◌, ap, [], ◌∷◌}
use Rattle.report_text.specs.Line.{verdict_text}
use Rattle.verify_run.specs.Report.{outcome_word, verdict_line}
use Rattle.verify_run.proofs.Lines.{relines, one_line}
use Rattle.verify_run.proofs.verifying.say_verdict.Goals as goal

pub returns : goal.returns
returns g c = λ d.
    let v = c.args.verdict.now in
    relines c.say.result d _ (verdict_line v ∷ []) _ _ (one_line _ _ (ap (λ w. verdict_text w v.entries v.missing v.altered v.unchecked v.unlisted) (sym (c.word.ensures ∙ ap outcome_word c.outcome.ensures)))) (c.say.ensures d)
