use Rattle.std.proofs.Common.{◌≡◌, length, refl, rules}
use Rattle.file_reading.proofs.Pieces.{piece_read, piece_some, piece_none, some_bound, front_of}
use Rattle.seal_step.proofs.Compares.{read_failed}
use Rattle.seal_step.proofs.reading.read_some.Goals as goal

pub returns-in-Ok-Some-clause-read : goal.returns-in-Ok-Some-clause-read
returns-in-Ok-Some-clause-read g c =
    let size : length c.drive_read.new.into ≡ c.args.want = search rules in
    piece_some _ _ _ _ _ _ _ _ _ c.in-Ok-Some.field-0-is
    (piece_read _ _ _ _ _ _ _ _ _ c.in-Ok-Some.ensures.called size (some_bound _ _ c.in-Ok-Some.ensures.bound) (front_of c.drive_read.new.into _) c.in-Ok-Some.ensures.honest)

pub returns-in-Ok-None-clause-read : goal.returns-in-Ok-None-clause-read
returns-in-Ok-None-clause-read g c =
    let size : length c.drive_read.new.into ≡ c.args.want = search rules in
    piece_none _ _ _ _ _ c.drive_read.new.into _ _ c.in-Ok-None.field-0-is
    (piece_read _ _ _ _ _ _ _ _ _ c.in-Ok-None.ensures.called size (some_bound _ _ c.in-Ok-None.ensures.bound) (λ n h. refl) c.in-Ok-None.ensures.honest)

pub returns-in-Err-clause-read : goal.returns-in-Err-clause-read
returns-in-Err-clause-read g c =
    let size : length c.drive_read.new.into ≡ c.args.want = search rules in
    read_failed _ _ _ _ size c.in-Err.ensures.called
