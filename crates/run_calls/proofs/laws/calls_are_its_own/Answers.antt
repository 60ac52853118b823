use Rattle.run_calls.proofs.Own.{calls_own}
use Rattle.run_calls.proofs.laws.calls_are_its_own.Goals as goal

pub returns : goal.returns
returns c = calls_own c.turns_keep_the_rules.ensures c.a_turn_calls_its_own.ensures c.turns_alone.ensures
