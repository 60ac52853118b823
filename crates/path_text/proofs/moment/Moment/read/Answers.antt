use Rattle.std.proofs.Common.{◌≡◌, ◌∙◌, sym}
use Rattle.std.proofs.lemmas.Slice.Eq.{bytes_eq-Decides}
use Rattle.path_text.proofs.Moments.{moment_of-is, moment_of-none}
use Rattle.path_text.proofs.moment.Moment.read.Goals as goal

pub returns-in_err-moment-clause-value : goal.returns-in_err-moment-clause-value
returns-in_err-moment-clause-value c =
    c.from_residual.ensures ∙ sym (moment_of-none c.args.text.now (λ t h e. let some = c.in_err-moment.ensures.only t h e in cc))

pub returns-then-eq-clause-value : goal.returns-then-eq-clause-value
returns-then-eq-clause-value c =
    let same = (bytes_eq-Decides c.as_slice.result.now c.args.text.now).0 (sym c.if-eq.ensures) in
    sym (moment_of-is c.args.text.now c.in_ok-moment.moment c.in_ok-moment.ensures.bound (sym same ∙ c.as_slice.ensures ∙ c.text.ensures))

pub returns-else-eq-clause-value : goal.returns-else-eq-clause-value
returns-else-eq-clause-value c =
    sym (moment_of-none c.args.text.now (λ t h e.
    let only = c.in_ok-moment.ensures.only t h e in
    let same : c.as_slice.result.now ≡ c.args.text.now = cc (c.as_slice.ensures, c.text.ensures) in
    let passed = (bytes_eq-Decides c.as_slice.result.now c.args.text.now).1 same in
    cc (c.eq.ensures)))
