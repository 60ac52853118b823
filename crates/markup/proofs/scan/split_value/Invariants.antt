use Rattle.markup.specs.Piece.{in_value}
use Rattle.markup.proofs.Runs.{Passed}
use Rattle.markup.proofs.scan.split_value.Given as goal

abbrev pub invariant-loop-at : goal.invariant-loop-at
invariant-loop-at l = Passed (in_value l.quote) l.bytes l.at
