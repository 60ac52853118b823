use Rattle.job_ends.proofs.Counting.{story_counts, with_calls}
use Rattle.job_ends.proofs.laws.counts_show_the_end.Goals as goal

pub returns : goal.returns
returns c = λ run end result story no_cards no_drives.
    with_calls run end result
    (story_counts c.turns_keep_the_rules.ensures c.calls_are_its_own.ensures c.turns_alone.ensures c.ends_have_causes.ensures c.a_run_knows_what_it_does.ensures.reads c.runs_that_keep_no_part_are_ready.ensures
    run.job end result run.before run.after no_cards no_drives story)
