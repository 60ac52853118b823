-- Pieces of a list that are read into a block and compared with the text.
use Rattle.std.specs.Prelude.{◌≡◌, ◌≢◌, ℕ, ◌+◌, ◌<◌, ◌≤◌, false, List, [], ◌∷◌, length, take, drop, slice_index, slice_index_or, Some, None, Result, Ok, Err}
use Rattle.std.specs.List.{AllByRecursion}
use Rattle.bay_core.specs.declared.event.Event.TheVariants.{DriveRead}
use Rattle.bay_core.specs.declared.event.DriveGot.TheVariants.{Failed}
use Rattle.bay_core.specs.Paths.{new_path}
use Rattle.bay_core.specs.Replay.{Drive}
use Rattle.bay_core.specs.World.{World}
use Rattle.bay_core.specs.Went.{Called, MaySee}
use Rattle.file_reading.specs.Reads.{PieceRead, SoFar}
use Rattle.read_back.specs.Back.{IsPiece}
use Rattle.seal_step.specs.declared.error.SealError.{SealError}
use Rattle.seal_step.specs.declared.error.SealError.TheVariants.{DriveFailed, Absent, Byte, Length}
use Rattle.seal_step.specs.declared.reading.Place.{Place}
use Rattle.seal_step.specs.Parts.{joined}
use Rattle.seal_step.specs.Reading.{ListBack}

-- one read that gave no piece: it failed, seen or not, or was answered that there is no such file
abbrev pub NoPiece : ℕ → ℕ → ℕ → SealError → World → World → Type 0
NoPiece d at want DriveFailed old new = Called (Drive d) (MaySee (DriveRead d new_path at want Failed)) false old new
NoPiece d at want Absent old new = PieceRead d new_path at want None old new
NoPiece d at want _ old new = ⊥

-- one read of a byte at the end of the text, by the answer other than Ok
abbrev pub NotEnded : ℕ → ℕ → SealError → World → World → Type 0
NotEnded d size (Length written read) old new = (written ≡ size) × (read ≡ size + 1) × (byte : ℕ) × PieceRead d new_path size 1 (Some (byte ∷ [])) old new
NotEnded d size e old new = NoPiece d size 1 e old new

-- two pieces of one length have other bytes at this place of the whole, and none before it
pub record IsOther (start : ℕ) (written read : List ℕ) (at here there : ℕ) : Type 0 where
  pub place : ℕ
  pub is : at ≡ start + place
  pub inside : place < length read
  pub same : take place read ≡ take place written
  pub written_is : here ≡ slice_index written place
  pub read_is : there ≡ slice_index read place
  pub other : here ≢ there

-- what comparing two such pieces answers
abbrev pub Compared : ℕ → List ℕ → List ℕ → Result Unit SealError → Type 0
Compared start written read (Ok _) = read ≡ written
Compared start written read (Err (Byte at here there)) = IsOther start written read at here there
Compared start written read (Err _) = ⊥

-- the pieces so far, up to this place, all of them as in the text
pub record SameSoFar (d : ℕ) (text : List ℕ) (at : ℕ) (old new : World) : Type 0 where
  pub bytes : List ℕ
  pub read : SoFar d new_path (length text) bytes old new
  pub each : AllByRecursion IsPiece read.calls
  pub here : at ≡ length bytes
  pub same : bytes ≡ take at text

-- a part of these is in the scratch, and it has so many bytes at least
pub record Stands (parts : List (List ℕ)) (place : Place) (scratch : List ℕ) : Type 0 where
  pub there : place.part < length parts
  pub is : scratch ≡ slice_index_or parts place.part []
  pub within : place.done ≤ length scratch
  pub fits : length scratch ≤ 8192

-- the place in the text
abbrev pub place_of : List (List ℕ) → Place → ℕ
place_of parts place = length (joined (take place.part parts)) + place.done

-- what comparing bytes with the text that follows at a place answers
abbrev pub BlockCompared : List (List ℕ) → ℕ → List ℕ → Result Unit SealError → Place → List ℕ → Type 0
BlockCompared parts at read (Ok _) place scratch = (read ≡ take (length read) (drop at (joined parts))) × Stands parts place scratch × (place_of parts place ≡ at + length read)
BlockCompared parts at read (Err (Byte p here there)) place scratch = IsOther at (take (length read) (drop at (joined parts))) read p here there
BlockCompared parts at read (Err _) place scratch = ⊥

-- the next block was read behind the pieces so far, and compared
abbrev pub BlockBack : ℕ → List (List ℕ) → ℕ → Result ℕ SealError → Place → List ℕ → World → World → Type 0
BlockBack d parts at (Ok n) place scratch old new = (0 < n) × Stands parts place scratch × (place_of parts place ≡ at + n) × (at + n ≤ length (joined parts))
    × ((first : World) → SameSoFar d (joined parts) at first old → SameSoFar d (joined parts) (at + n) first new)
BlockBack d parts at (Err e) place scratch old new = (first : World) → SameSoFar d (joined parts) at first old → ListBack d (joined parts) (Err e) first new
