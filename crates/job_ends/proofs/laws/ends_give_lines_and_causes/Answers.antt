use Rattle.job_ends.proofs.Whole.{told_gives}
use Rattle.job_ends.proofs.laws.ends_give_lines_and_causes.Goals as goal

pub returns : goal.returns
returns c = λ job end result old new past since r some required.
    told_gives c.turns_keep_the_rules.ensures c.calls_are_its_own.ensures c.turns_alone.ensures c.ends_have_causes.ensures c.a_run_knows_what_it_does.ensures.reads c.runs_that_keep_no_part_are_ready.ensures
    c.lines_in_order.ensures.alone c.one_line_each.ensures c.other_lengths_were_read.ensures c.announced_steps.ensures.short job end result old new past since r some required
