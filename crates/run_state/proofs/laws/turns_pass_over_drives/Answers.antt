use Rattle.run_state.proofs.Passing.{calls_alone, lines_alone, calls_of_run, lines_of_run, over_stays}
use Rattle.run_state.proofs.laws.turns_pass_over_drives.Goals as goal

pub returns-clause-calls : goal.returns-clause-calls
returns-clause-calls c = λ o a b run alone d uncalled. calls_alone c.turns_keep_the_rules.ensures c.a_turn_calls_its_own.ensures c.turns_alone.ensures o d a b run alone uncalled

pub returns-clause-lines : goal.returns-clause-lines
returns-clause-lines c = λ o a b run alone d low over. lines_alone c.turns_keep_the_rules.ensures c.a_turn_calls_its_own.ensures c.turns_alone.ensures o d a b run alone low over

pub returns-clause-calls_of_run : goal.returns-clause-calls_of_run
returns-clause-calls_of_run c = λ o a b run runs d there uncalled. calls_of_run c.turns_keep_the_rules.ensures c.a_turn_calls_its_own.ensures c.turns_alone.ensures o d a b run runs there uncalled

pub returns-clause-lines_of_run : goal.returns-clause-lines_of_run
returns-clause-lines_of_run c = λ o a b run runs d there over. lines_of_run c.turns_keep_the_rules.ensures c.a_turn_calls_its_own.ensures c.turns_alone.ensures o d a b run runs there over

pub returns-clause-over : goal.returns-clause-over
returns-clause-over c = λ o a b run runs d over. over_stays c.turns_keep_the_rules.ensures c.a_turn_calls_its_own.ensures c.turns_alone.ensures o d a b run runs over
