use Rattle.markup.specs.Piece.{before_end}
use Rattle.markup.proofs.Runs.{Passed}
use Rattle.markup.proofs.scan.split_reference.Given as goal

abbrev pub invariant-loop-at : goal.invariant-loop-at
invariant-loop-at l = Passed before_end l.bytes l.at
