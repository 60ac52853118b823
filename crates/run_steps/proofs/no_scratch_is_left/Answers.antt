use Rattle.run_steps.proofs.Clean.{all_clean}
use Rattle.run_steps.proofs.no_scratch_is_left.Goals as goal

pub returns : goal.returns
returns c = λ o a b run parts runs. all_clean o b (c.turns_keep_the_rules.ensures o a b run runs) (c.parts_stay_ready.ensures o a b run parts runs)
