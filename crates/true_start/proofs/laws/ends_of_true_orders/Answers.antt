use Rattle.offload_run.specs.Offload.{ordered_of}
use Rattle.true_start.proofs.Sounding.{are_sound}
use Rattle.true_start.proofs.laws.ends_of_true_orders.Goals as goal

pub returns-clause-losses : goal.returns-clause-losses
returns-clause-losses c = λ order run a b s.
    let start = (c.true_orders_start_ready.ensures.starts order run a s).run in
    c.honest_drives_fail_alone.ensures (ordered_of run) a b start (c.what_is_ready_is_known.ensures.known (ordered_of run) a start.run (c.true_orders_start_ready.ensures.parts order run a s))

pub returns-clause-lengths : goal.returns-clause-lengths
returns-clause-lengths c = λ order run a b s.
    let starts = c.true_orders_start_ready.ensures.starts order run a s in
    c.other_lengths_were_read.ensures (ordered_of run) a b starts.run (c.what_is_ready_is_known.ensures.reads (ordered_of run) a starts)

pub returns-clause-renames : goal.returns-clause-renames
returns-clause-renames c = λ order run a b s.
    let start = (c.true_orders_start_ready.ensures.starts order run a s).run in
    c.renames_find_their_files.ensures (ordered_of run) a b start (c.what_is_ready_is_known.ensures.known (ordered_of run) a start.run (c.true_orders_start_ready.ensures.parts order run a s))

pub returns-clause-complete : goal.returns-clause-complete
returns-clause-complete c = λ order run a b card s sound.
    let start = (c.true_orders_start_ready.ensures.starts order run a s).run in
    c.sound_runs_are_complete.ensures (ordered_of run) a b card start (c.what_is_ready_is_known.ensures.known (ordered_of run) a start.run (c.true_orders_start_ready.ensures.parts order run a s)) (are_sound order run a s card sound)
