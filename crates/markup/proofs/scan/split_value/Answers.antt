use Rattle.std.proofs.Common.{sym, ◌∙◌}
use Rattle.markup.specs.Piece.{in_value}
use Rattle.markup.proofs.Options.{not_is_true, not_is_false}
use Rattle.markup.proofs.Runs.{passed_more, cut_here, cut_end}
use Rattle.markup.proofs.scan.split_value.Goals as goal

pub loop-at-preserved : goal.loop-at-preserved
loop-at-preserved c = passed_more (in_value c.args.quote) c.args.bytes.now c.loop-at.at c.loop-at-test.true (not_is_false _ (sym c.ends_value.ensures ∙ c.if-ends_value.false)) c.loop-at.invariant

pub returns-then-ends_value-clause-front : goal.returns-then-ends_value-clause-front
returns-then-ends_value-clause-front c = c.split_at.ensures.front ∙ (cut_here (in_value c.args.quote) c.args.bytes.now c.loop-at.at c.loop-at-test.true (not_is_true _ (sym c.ends_value.ensures ∙ c.if-ends_value.true)) c.loop-at.invariant).front_is

pub returns-then-ends_value-clause-back : goal.returns-then-ends_value-clause-back
returns-then-ends_value-clause-back c = c.split_at.ensures.back ∙ (cut_here (in_value c.args.quote) c.args.bytes.now c.loop-at.at c.loop-at-test.true (not_is_true _ (sym c.ends_value.ensures ∙ c.if-ends_value.true)) c.loop-at.invariant).back_is

pub returns-clause-front : goal.returns-clause-front
returns-clause-front c = c.split_at-2.ensures.front ∙ (cut_end (in_value c.args.quote) c.args.bytes.now c.loop-at.at c.loop-at.auto.at-end c.loop-at-test.false c.loop-at.invariant).front_is

pub returns-clause-back : goal.returns-clause-back
returns-clause-back c = c.split_at-2.ensures.back ∙ (cut_end (in_value c.args.quote) c.args.bytes.now c.loop-at.at c.loop-at.auto.at-end c.loop-at-test.false c.loop-at.invariant).back_is
