use Rattle.std.proofs.Common.{map, take}
use Rattle.std.specs.List.{concat}
use Rattle.digest_set.proofs.tests.digest_of_pieces.Given as goal

-- the run has been fed the pieces so far
abbrev pub invariant-loop-piece : goal.invariant-loop-piece
invariant-loop-piece g l = g.D.Digest.fed l.run (concat (map (λ piece. piece.now) (take l.piece-index l.pieces)))
