use Rattle.std.proofs.Common.{◌≡◌, length, reverse}
use Rattle.markup.specs.Piece.{is_space}
use Rattle.markup.specs.Taking.{back}
use Rattle.mhl_reader.proofs.values.trim_end.Given as goal

abbrev pub invariant-loop-last : goal.invariant-loop-last
invariant-loop-last l = back is_space (reverse l.rest) ≡ back is_space (reverse l.text)

abbrev pub decreases-loop-last : goal.decreases-loop-last
decreases-loop-last l = length l.rest
