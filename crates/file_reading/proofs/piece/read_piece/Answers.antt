use Rattle.std.proofs.Common.{◌≡◌, length, rules}
use Rattle.file_reading.proofs.Pieces.{piece_read, some_bound, front_of}
use Rattle.file_reading.proofs.Stops.{read_halted}
use Rattle.file_reading.proofs.piece.read_piece.Goals as goal

pub returns-in-Ok-clause-read : goal.returns-in-Ok-clause-read
returns-in-Ok-clause-read g c =
    let size : length c.drive_read.new.into ≡ c.args.want = search rules in
    piece_read _ _ _ _ _ _ _ _ _ c.in-Ok.ensures.called size (some_bound c.in-Ok.got _ c.in-Ok.ensures.bound) (front_of c.drive_read.new.into _) c.in-Ok.ensures.honest

pub returns-in-Err-clause-read : goal.returns-in-Err-clause-read
returns-in-Err-clause-read g c = read_halted _ _ _ _ _ c.in-Err.ensures.called
