use Rattle.std.proofs.Common.{sym, ◌∙◌}
use Rattle.markup.specs.Piece.{is_space}
use Rattle.markup.proofs.Runs.{passed_more, cut_here, cut_end}
use Rattle.markup.proofs.scan.skip_space.Goals as goal

pub loop-at-preserved : goal.loop-at-preserved
loop-at-preserved c = passed_more is_space c.args.bytes.now c.loop-at.at c.loop-at-test.true (sym c.is_white_space.ensures ∙ c.if-not-is_white_space.false) c.loop-at.invariant

pub returns-then-not-is_white_space : goal.returns-then-not-is_white_space
returns-then-not-is_white_space c = c.split_at.ensures.back ∙ (cut_here is_space c.args.bytes.now c.loop-at.at c.loop-at-test.true (sym c.is_white_space.ensures ∙ c.if-not-is_white_space.true) c.loop-at.invariant).back_is

pub returns : goal.returns
returns c = c.split_at-2.ensures.back ∙ (cut_end is_space c.args.bytes.now c.loop-at.at c.loop-at.auto.at-end c.loop-at-test.false c.loop-at.invariant).back_is
