use Rattle.std.proofs.Common.{sym, ◌∙◌}
use Rattle.markup.specs.Taking.{in_text}
use Rattle.markup.proofs.Options.{not_is_true, not_is_false}
use Rattle.markup.proofs.Runs.{passed_more, cut_here, cut_end}
use Rattle.markup.proofs.scan.split_text.Goals as goal

pub loop-at-preserved : goal.loop-at-preserved
loop-at-preserved c = passed_more in_text c.args.bytes.now c.loop-at.at c.loop-at-test.true (not_is_false _ (sym c.is_markup.ensures ∙ c.if-is_markup.false)) c.loop-at.invariant

pub returns-then-is_markup-clause-front : goal.returns-then-is_markup-clause-front
returns-then-is_markup-clause-front c = c.split_at.ensures.front ∙ (cut_here in_text c.args.bytes.now c.loop-at.at c.loop-at-test.true (not_is_true _ (sym c.is_markup.ensures ∙ c.if-is_markup.true)) c.loop-at.invariant).front_is

pub returns-then-is_markup-clause-back : goal.returns-then-is_markup-clause-back
returns-then-is_markup-clause-back c = c.split_at.ensures.back ∙ (cut_here in_text c.args.bytes.now c.loop-at.at c.loop-at-test.true (not_is_true _ (sym c.is_markup.ensures ∙ c.if-is_markup.true)) c.loop-at.invariant).back_is

pub returns-clause-front : goal.returns-clause-front
returns-clause-front c = c.split_at-2.ensures.front ∙ (cut_end in_text c.args.bytes.now c.loop-at.at c.loop-at.auto.at-end c.loop-at-test.false c.loop-at.invariant).front_is

pub returns-clause-back : goal.returns-clause-back
returns-clause-back c = c.split_at-2.ensures.back ∙ (cut_end in_text c.args.bytes.now c.loop-at.at c.loop-at.auto.at-end c.loop-at-test.false c.loop-at.invariant).back_is
