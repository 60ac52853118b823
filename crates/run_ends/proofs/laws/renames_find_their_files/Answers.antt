use Rattle.run_ends.proofs.Renaming.{renames}
use Rattle.run_ends.proofs.laws.renames_find_their_files.Goals as goal

pub returns : goal.returns
returns c = λ o a b. renames o a b (λ x. c.turns_keep_the_rules.ensures o a x)
