use Rattle.copy_plan.proofs.Arranged.{order_before, clash_at, pairs_more, pairs_none}
use Rattle.copy_plan.proofs.inventory.first_clash.Goals as goal

pub loop-at-init : goal.loop-at-init
loop-at-init c = pairs_none c.args.files.now

pub first_clashing-requires-clause-order : goal.first_clashing-requires-clause-order
first_clashing-requires-clause-order c = order_before c.args.files.now c.loop-at.at c.index-files-at.result c.requires c.loop-at-test.true c.index-files-at.is

pub returns-in-Some-clause-found : goal.returns-in-Some-clause-found
returns-in-Some-clause-found c = clash_at c.args.files.now c.loop-at.at c.in-Some.above c.index-files-at.result c.loop-at-test.true c.index-files-at.is c.loop-at.invariant c.in-Some.ensures.found

pub loop-at-preserved : goal.loop-at-preserved
loop-at-preserved c = pairs_more c.args.files.now c.loop-at.at c.index-files-at.result c.loop-at-test.true c.index-files-at.is c.loop-at.invariant c.in_default.ensures.none
