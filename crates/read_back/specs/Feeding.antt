-- Pieces of a file that are read into a block and fed to the digests.
use Rattle.std.specs.Prelude.{◌≡◌, ℕ, ◌+◌, false, List, [], ◌∷◌, ◌++◌, length, Some, None}
use Rattle.std.specs.List.{AllByRecursion}
use Rattle.bay_core.specs.declared.event.Event.TheVariants.{DriveRead}
use Rattle.bay_core.specs.declared.event.DriveGot.TheVariants.{Failed}
use Rattle.bay_core.specs.Replay.{Drive}
use Rattle.bay_core.specs.World.{World}
use Rattle.bay_core.specs.Went.{Called, MaySee}
use Rattle.file_reading.specs.Reads.{PieceRead, SoFar}
use Rattle.digest_set.specs.declared.fan.Fan.{Fan}
use Rattle.digest_set.specs.declared.runs.Md5Run.{Md5Run}
use Rattle.digest_set.specs.declared.runs.Sha1Run.{Sha1Run}
use Rattle.digest_set.specs.declared.runs.XxhRun.{XxhRun}
use Rattle.digest_set.specs.Fed.{AllFed, Md5Fed, Sha1Fed, XxhFed}
use Rattle.read_back.specs.declared.back.ReadBackError.{ReadBackError}
use Rattle.read_back.specs.declared.back.ReadBackError.TheVariants.{DriveFailed, Absent, Length}
use Rattle.read_back.specs.Back.{IsPiece}

-- the digests have been fed these bytes
abbrev pub IsFed : Fan Md5Run Sha1Run XxhRun → List ℕ → Type 0
IsFed fan bytes = AllFed Md5Fed Sha1Fed XxhFed fan bytes

-- one read that gave n bytes, which were fed to the digests
pub record PieceFed (d : ℕ) (path : List ℕ) (at want n : ℕ) (before after : Fan Md5Run Sha1Run XxhRun) (old new : World) : Type 0 where
  pub piece : List ℕ
  pub read : PieceRead d path at want (Some piece) old new
  pub count : length piece ≡ n
  pub fed : (list : List ℕ) → IsFed before list → IsFed after (list ++ piece)

-- one read that failed, seen or not, on this drive alone, whose count rose
abbrev pub ReadFailed : ℕ → List ℕ → ℕ → ℕ → World → World → Type 0
ReadFailed d path at want old new = Called (Drive d) (MaySee (DriveRead d path at want Failed)) false old new

-- one read that gave no piece: it failed, or was answered that there is no such file
abbrev pub NoPiece : ℕ → List ℕ → ℕ → ℕ → ReadBackError → World → World → Type 0
NoPiece d path at want DriveFailed old new = ReadFailed d path at want old new
NoPiece d path at want Absent old new = PieceRead d path at want None old new
NoPiece d path at want _ old new = ⊥

-- one read of a byte at `size`, by the answer other than Ok
abbrev pub NotEnded : ℕ → List ℕ → ℕ → ReadBackError → World → World → Type 0
NotEnded d path size (Length recorded read) old new = (recorded ≡ size) × (read ≡ size + 1) × (byte : ℕ) × PieceRead d path size 1 (Some (byte ∷ [])) old new
NotEnded d path size e old new = NoPiece d path size 1 e old new

-- the pieces so far, up to this place, all of them fed to the digests
pub record PiecesFed (d : ℕ) (path : List ℕ) (size at : ℕ) (fan : Fan Md5Run Sha1Run XxhRun) (old new : World) : Type 0 where
  pub bytes : List ℕ
  pub read : SoFar d path size bytes old new
  pub each : AllByRecursion IsPiece read.calls
  pub here : at ≡ length bytes
  pub fed : IsFed fan bytes
