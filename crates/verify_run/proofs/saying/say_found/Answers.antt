use Rattle.std.proofs.Common.{sym, ◌∙◌, ap, not}
use Rattle.verify_run.specs.Report.{is_empty, altered_lines, unchecked_lines}
use Rattle.verify_run.proofs.Lines.{said_as, found_said, altered_stopped, unchecked_stopped}
use Rattle.verify_run.proofs.saying.say_found.Goals as goal

pub returns-in-Err : goal.returns-in-Err
returns-in-Err g c = λ d bytes len digests. altered_stopped d c.args.entry.now bytes _ _ _ _ (c.altered_lines.ensures.text bytes len digests) (c.in-Err.ensures d)

pub returns-in-Ok-say_standing : goal.returns-in-Ok-say_standing
returns-in-Ok-say_standing g c = λ d bytes len digests.
    let lines = c.altered_lines.ensures.text bytes len digests in
    let said = c.in-Ok.ensures d in
    found_said d c.args.entry.now bytes _ _ _ _ (c.standing_of-standing.ensures (altered_lines c.args.entry.now bytes) (said.0 ∙ ap (λ ts. not (is_empty ts)) lines)) (said_as d _ _ (sym lines) said.1)
    (said_as d _ _ (ap (λ p. unchecked_lines p c.standing_of-standing.result) (sym c.as_str.ensures.same)) (c.in-Ok-say_standing.ensures d))

pub returns-in-Err-say_standing : goal.returns-in-Err-say_standing
returns-in-Err-say_standing g c = λ d bytes len digests. unchecked_stopped d c.args.entry.now bytes _ _ _ _ (said_as d _ _ (sym (c.altered_lines.ensures.text bytes len digests)) (c.in-Ok.ensures d).1) (c.in-Err-say_standing.ensures d)
