use Rattle.bay_core.specs.Replay.{reads}
use Rattle.bay_core.proofs.Looking.{untouched_on}
use Rattle.bay_core.proofs.Rest.{untouched_left}
use Rattle.true_start.specs.Stops.{IsPlanOf}
use Rattle.true_start.proofs.Passed.{still_left, left_behind}
use Rattle.true_start.proofs.laws.calls_before_the_turns.Goals as goal

pub returns-clause-stops : goal.returns-clause-stops
returns-clause-stops c = λ d attached card past dates settled ours L untouched lines I left.
    still_left c.one_progress.ensures.on_card c.crash_prefix.ensures.unchanged c.announced_steps.ensures.each card dates d (reads attached past d) ours L lines I (settled I (untouched_left attached past L d I (untouched_on d L untouched) left))

pub returns-clause-behind : goal.returns-clause-behind
returns-clause-behind c = λ p d start card dates before L I lines h. left_behind c.announced_steps.ensures.each (IsPlanOf p start) card dates d start before L I lines h
