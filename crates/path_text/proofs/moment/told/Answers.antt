use Rattle.std.proofs.Common.{◌∙◌, ap, length}
use Rattle.path_text.proofs.Moments.{length-moment_text, told_date, told_seconds, new_is}
use Rattle.path_text.proofs.moment.told.Goals as goal

pub returns-then-text-ne20-clause-only : goal.returns-then-text-ne20-clause-only
returns-then-text-ne20-clause-only c m h e = absurd (c.if-text-ne20.true (ap length e ∙ length-moment_text m))

pub returns-in_default-clause-only : goal.returns-in_default-clause-only
returns-in_default-clause-only c m h e =
    let date = told_date c.args.text.now m h e in
    absurd (rw (c.told_pair.ensures.value, c.told_pair-2.ensures.value, c.told_pair-month.ensures.value, c.told_pair-date.ensures.value) at c.in_default.ensures.none date.0 date.1)

pub returns-clause-only : goal.returns-clause-only
returns-clause-only c m h e =
    let number = rw (c.told_pair.ensures.value, c.told_pair-2.ensures.value, c.told_pair-month.ensures.value, c.told_pair-date.ensures.value) at c.in-Some.ensures.value in
    let whole = told_seconds c.args.text.now m c.in-Some.day h e number in
    new_is c.new.result _ m c.new.ensures (rw (c.from.ensures, c.told_pair-hours.ensures.value, c.told_pair-minutes.ensures.value, c.told_pair-seconds.ensures.value) whole) h
