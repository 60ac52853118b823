use Rattle.std.proofs.Common.{rules}
use Rattle.std.proofs.lemmas.List.Sorted.{answers_always}
use Rattle.copy_plan.proofs.Arranged.{comes_before, by_paths}
use Rattle.copy_plan.proofs.inventory.arrange.Goals as goal

pub returns : goal.returns
returns c = record {
  same = c.sort_unstable_by.ensures.permutation;
  sorted = c.sort_unstable_by.ensures.sorted comes_before by_paths (answers_always _ _ _ (λ f a r g h. search rules));
}
