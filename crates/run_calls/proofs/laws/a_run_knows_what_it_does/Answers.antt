use Rattle.run_calls.proofs.Knowing.{known_onward}
use Rattle.run_calls.proofs.Reading.{reads_known}
use Rattle.run_calls.proofs.laws.a_run_knows_what_it_does.Goals as goal

pub returns-clause-parts : goal.returns-clause-parts
returns-clause-parts c = λ o a run ready. known_onward c.turns_keep_the_rules.ensures c.parts_stay_ready.ensures o a run ready

pub returns-clause-reads : goal.returns-clause-reads
returns-clause-reads c = reads_known
