use Rattle.markup.proofs.Pieces.{pieces_one, piece_not_empty}
use Rattle.markup.proofs.law.pieces_are_exact.Goals as goal

pub returns-clause-one : goal.returns-clause-one
returns-clause-one c = pieces_one

pub returns-clause-shorter : goal.returns-clause-shorter
returns-clause-shorter c = piece_not_empty
