use Rattle.job_steps.proofs.Clears.{calls_clear}
use Rattle.job_steps.proofs.Prefixes.{crash_prefix}
use Rattle.job_steps.proofs.laws.jobs_keep_to_the_steps.Goals as goal

pub returns-clause-prefix : goal.returns-clause-prefix
returns-clause-prefix c = λ job end result old new story none past since was now.
    crash_prefix
    (record {
      other = c.announced_steps.ensures.other_word;
      each = c.announced_steps.ensures.each;
      sealed = c.announced_steps.ensures.sealed;
      stops = c.calls_before_the_turns.ensures.stops;
      behind = c.calls_before_the_turns.ensures.behind;
    })
    (record {
      runs = c.turns_alone.ensures;
      calls = c.turns_pass_over_drives.ensures.calls;
      of_card = c.true_orders_start_ready.ensures.of_card;
      stops = c.steps_of_true_orders.ensures.stops;
      sealed = c.steps_of_true_orders.ensures.sealed;
      gone = c.steps_of_true_orders.ensures.gone;
    })
    job end result old new none past since was now story

pub returns-clause-clear : goal.returns-clause-clear
returns-clause-clear c = λ job end result old new story none past since was now.
    calls_clear
    (record {
      other = c.announced_steps.ensures.other_word;
      each = c.announced_steps.ensures.each;
      sealed = c.announced_steps.ensures.sealed;
      stops = c.calls_before_the_turns.ensures.stops;
      behind = c.calls_before_the_turns.ensures.behind;
    })
    (record {
      runs = c.turns_alone.ensures;
      calls = c.turns_pass_over_drives.ensures.calls;
      of_card = c.true_orders_start_ready.ensures.of_card;
      stops = c.steps_of_true_orders.ensures.stops;
      sealed = c.steps_of_true_orders.ensures.sealed;
      gone = c.steps_of_true_orders.ensures.gone;
    })
    (record { clear = c.clears_rightly.ensures.alone; order = c.lines_in_order.ensures.alone })
    job end result old new none past since was now story
