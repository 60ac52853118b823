use Rattle.std.proofs.Common.{map, take}
use Rattle.std.specs.List.{concat}
use Rattle.digest_set.specs.Fed.{AllFed, Md5Fed, Sha1Fed, XxhFed}
use Rattle.digest_set.proofs.tests.triple_of_pieces.Given as goal

-- the fan has been fed the pieces so far
abbrev pub invariant-loop-piece : goal.invariant-loop-piece
invariant-loop-piece l = AllFed Md5Fed Sha1Fed XxhFed l.fan (concat (map (λ piece. piece.now) (take l.piece-index l.pieces)))
