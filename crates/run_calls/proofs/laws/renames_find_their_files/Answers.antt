use Rattle.run_calls.proofs.Knowing.{known_onward}
use Rattle.run_calls.proofs.laws.renames_find_their_files.Goals as goal

pub returns : goal.returns
returns c = λ o a b start ready runs. c.renames_find_their_files.ensures o a b start (known_onward c.turns_keep_the_rules.ensures c.parts_stay_ready.ensures o a start.run ready) runs
