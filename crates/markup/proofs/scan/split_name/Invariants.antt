use Rattle.markup.specs.Piece.{goes_on_name}
use Rattle.markup.proofs.Runs.{Passed}
use Rattle.markup.proofs.scan.split_name.Given as goal

abbrev pub invariant-loop-at : goal.invariant-loop-at
invariant-loop-at l = Passed goes_on_name l.bytes l.at
