use Rattle.markup.specs.Piece.{is_space}
use Rattle.markup.proofs.Runs.{Passed}
use Rattle.markup.proofs.scan.skip_space.Given as goal

abbrev pub invariant-loop-at : goal.invariant-loop-at
invariant-loop-at l = Passed is_space l.bytes l.at
