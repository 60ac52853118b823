-- What reading a list again saw of it, by the answer.
use Rattle.std.specs.Prelude.{◌≡◌, ◌≢◌, ◌⊎◌, ℕ, ◌<◌, List, ◌++◌, length, take, slice_index, Some, Result, Ok, Err}
use Rattle.std.specs.FinMap.{get}
use Rattle.bay_core.specs.declared.event.Event.{Event}
use Rattle.bay_core.specs.Map.{Map}
use Rattle.bay_core.specs.Paths.{new_path}
use Rattle.bay_core.specs.Replay.{Drive, reads}
use Rattle.bay_core.specs.World.{World, Honest, Rose}
use Rattle.bay_core.specs.Went.{Went, Only}
use Rattle.read_back.specs.Back.{PiecesThen, PiecesFailed, WholeCalls, AbsentCalls, ShortCalls, LongCalls}
use Rattle.seal_step.specs.declared.error.SealError.{SealError}
use Rattle.seal_step.specs.declared.error.SealError.TheVariants.{DriveFailed, Absent, Byte, Length}

-- the text has another byte at this place than the bytes that were read, and none before it; these two are the bytes there
pub record IsFirstOther (text bytes : List ℕ) (at written read : ℕ) : Type 0 where
  pub in_text : at < length text
  pub in_bytes : at < length bytes
  pub same : take at bytes ≡ take at text
  pub written_is : written ≡ slice_index text at
  pub read_is : read ≡ slice_index bytes at
  pub other : written ≢ read

-- pieces that gave what the text begins with, and then such calls
abbrev pub BehindFront : List ℕ → (List ℕ → List Event → Type 0) → List Event → Type 0
BehindFront text P calls = (front : List ℕ) × (front ≡ take (length front) text) × P front calls

-- pieces, and then a read of the next piece, which has the first byte that is not that of the text
abbrev pub OtherCalls : ℕ → List ℕ → ℕ → ℕ → ℕ → List ℕ → List Event → Type 0
OtherCalls d text at written read front calls = (want : ℕ) × (piece : List ℕ) × IsFirstOther text (front ++ piece) at written read × PiecesThen d new_path (length text) front want (Some piece) calls

-- The reads of the file that waits for its name, by what came of them: they gave the text and then no more; one failed; one was answered that
-- there is no such file; they ended before the text or went on behind it; or they gave another byte.
abbrev pub BackCalls : ℕ → List ℕ → Result Unit SealError → List Event → Type 0
BackCalls d text (Ok _) calls = WholeCalls d new_path (length text) text calls
BackCalls d text (Err DriveFailed) calls = BehindFront text (PiecesFailed d new_path (length text)) calls
BackCalls d text (Err Absent) calls = BehindFront text (AbsentCalls d new_path (length text)) calls
BackCalls d text (Err (Length written read)) calls = (written ≡ length text)
    × BehindFront text (λ front some. ShortCalls d new_path (length text) read front some ⊎ LongCalls d new_path (length text) read front some) calls
BackCalls d text (Err (Byte at written read)) calls = BehindFront text (OtherCalls d text at written read) calls

-- it went well, or a call failed
abbrev pub OkOrFault : Result Unit SealError → Type 0
OkOrFault (Ok _) = Unit {0}
OkOrFault (Err DriveFailed) = Unit {0}
OkOrFault (Err _) = ⊥

-- A list that was read again: the calls, on this drive alone; the count that rose where one failed; and that an honest drive which has the
-- text is found to have it.
pub record ListBack (d : ℕ) (text : List ℕ) (result : Result Unit SealError) (old new : World) : Type 0 where
  pub went : Went (Only (Drive d)) (BackCalls d text result) old new
  pub cause : result ≡ Err DriveFailed → Rose (old.faults (Drive d)) (new.faults (Drive d))
  pub honest : (m : Map) (L : List Event) → Honest new d m L → get (reads m L d) new_path ≡ Some text → OkOrFault result
