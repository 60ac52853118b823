use Rattle.run_steps.proofs.Whole.{all_keep}
use Rattle.run_steps.proofs.turns_keep_to_the_steps.Goals as goal

pub returns : goal.returns
returns c = λ o a b begins ready d D attached card past h runs. all_keep c.turns_keep_the_rules.ensures c.parts_stay_ready.ensures c.keeping_is_safe.ensures o a b begins ready d attached card past runs D h
