use Rattle.std.proofs.Common.{arith, ◌+◌}
use Rattle.std.specs.Prelude.{drop, take}
use Rattle.std.proofs.lemmas.List.{length-take-le}
use Rattle.copy_plan.proofs.Arranged.{parts_at}
use Rattle.copy_plan.proofs.plan.first_in_the_way.Goals as goal

pub returns-then-not-clears-clause-found : goal.returns-then-not-clears-clause-found
returns-then-not-clears-clause-found c = record {
  before = take c.loop-at.at c.args.files.now;
  file = c.index-files-at.result;
  after = drop (c.loop-at.at + 1) c.args.files.now;
  is = parts_at c.args.files.now c.loop-at.at c.index-files-at.result c.loop-at-test.true c.index-files-at.is;
  place = length-take-le c.loop-at.at c.args.files.now (omega arith);
  clear = c.loop-at.invariant;
  clash = c.if-not-clears.ensures;
}
