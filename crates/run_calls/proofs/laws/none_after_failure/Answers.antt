use Rattle.std.proofs.Common.{◌∙◌}
use Rattle.run_ends.proofs.Way.{way}
use Rattle.run_calls.proofs.Halting.{none_alone, none_beside}
use Rattle.run_calls.proofs.Knowing.{copy_known}
use Rattle.run_calls.proofs.laws.none_after_failure.Goals as goal

pub returns-clause-alone : goal.returns-clause-alone
returns-clause-alone c = λ o a b run ready runs.
    none_alone c.turns_keep_the_rules.ensures c.a_turn_calls_its_own.ensures c.turns_alone.ensures o a run (copy_known c.turns_keep_the_rules.ensures c.parts_stay_ready.ensures o a run ready) b runs

pub returns-clause-beside : goal.returns-clause-beside
returns-clause-beside c = λ o a b start ready runs d of.
    none_beside c.turns_keep_the_rules.ensures c.a_turn_calls_its_own.ensures o a start.run (copy_known c.turns_keep_the_rules.ensures c.parts_stay_ready.ensures o a start.run ready) d
    (λ m before. (way o a (λ x. c.turns_keep_the_rules.ensures o a x) start m before).of_run d ∙ of) b runs
