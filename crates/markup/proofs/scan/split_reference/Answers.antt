use Rattle.std.proofs.Common.{not, ap, ◌∙◌}
use Rattle.markup.specs.Piece.{before_end}
use Rattle.std.proofs.lemmas.Bool.{ne_eqb}
use Rattle.markup.proofs.Runs.{passed_more, cut_here, cut_end}
use Rattle.markup.proofs.scan.split_reference.Goals as goal

pub loop-at-preserved : goal.loop-at-preserved
loop-at-preserved c = passed_more before_end c.args.bytes.now c.loop-at.at c.loop-at-test.true (ap not (ne_eqb _ 59 c.if-b-eq59.false)) c.loop-at.invariant

pub returns-then-b-eq59-clause-front : goal.returns-then-b-eq59-clause-front
returns-then-b-eq59-clause-front c = c.split_at.ensures.front ∙ (cut_here before_end c.args.bytes.now c.loop-at.at c.loop-at-test.true (ap before_end c.if-b-eq59.true) c.loop-at.invariant).front_is

pub returns-then-b-eq59-clause-back : goal.returns-then-b-eq59-clause-back
returns-then-b-eq59-clause-back c = c.split_at.ensures.back ∙ (cut_here before_end c.args.bytes.now c.loop-at.at c.loop-at-test.true (ap before_end c.if-b-eq59.true) c.loop-at.invariant).back_is

pub returns-clause-front : goal.returns-clause-front
returns-clause-front c = c.split_at-2.ensures.front ∙ (cut_end before_end c.args.bytes.now c.loop-at.at c.loop-at.auto.at-end c.loop-at-test.false c.loop-at.invariant).front_is

pub returns-clause-back : goal.returns-clause-back
returns-clause-back c = c.split_at-2.ensures.back ∙ (cut_end before_end c.args.bytes.now c.loop-at.at c.loop-at.auto.at-end c.loop-at-test.false c.loop-at.invariant).back_is
