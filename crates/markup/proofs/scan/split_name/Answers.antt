use Rattle.std.proofs.Common.{sym, ◌∙◌}
use Rattle.markup.specs.Piece.{goes_on_name}
use Rattle.markup.proofs.Runs.{passed_more, cut_here, cut_end}
use Rattle.markup.proofs.scan.split_name.Goals as goal

pub loop-at-preserved : goal.loop-at-preserved
loop-at-preserved c = passed_more goes_on_name c.args.bytes.now c.loop-at.at c.loop-at-test.true (sym c.is_name_byte.ensures ∙ c.if-not-is_name_byte.false) c.loop-at.invariant

pub returns-then-not-is_name_byte-clause-front : goal.returns-then-not-is_name_byte-clause-front
returns-then-not-is_name_byte-clause-front c = c.split_at.ensures.front ∙ (cut_here goes_on_name c.args.bytes.now c.loop-at.at c.loop-at-test.true (sym c.is_name_byte.ensures ∙ c.if-not-is_name_byte.true) c.loop-at.invariant).front_is

pub returns-then-not-is_name_byte-clause-back : goal.returns-then-not-is_name_byte-clause-back
returns-then-not-is_name_byte-clause-back c = c.split_at.ensures.back ∙ (cut_here goes_on_name c.args.bytes.now c.loop-at.at c.loop-at-test.true (sym c.is_name_byte.ensures ∙ c.if-not-is_name_byte.true) c.loop-at.invariant).back_is

pub returns-clause-front : goal.returns-clause-front
returns-clause-front c = c.split_at-2.ensures.front ∙ (cut_end goes_on_name c.args.bytes.now c.loop-at.at c.loop-at.auto.at-end c.loop-at-test.false c.loop-at.invariant).front_is

pub returns-clause-back : goal.returns-clause-back
returns-clause-back c = c.split_at-2.ensures.back ∙ (cut_end goes_on_name c.args.bytes.now c.loop-at.at c.loop-at.auto.at-end c.loop-at-test.false c.loop-at.invariant).back_is
