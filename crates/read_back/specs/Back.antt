-- What reading a copy on a drive again saw of it, by the answer.
use Rattle.std.specs.Prelude.{◌≡◌, ◌≢◌, ◌⊎◌, ◌↔◌, ℕ, ◌+◌, ◌<◌, ◌≤◌, List, [], ◌∷◌, ◌++◌, length, Option, Some, None, Result, Ok, Err, IsOk}
use Rattle.std.specs.List.{AllByRecursion}
use Rattle.std.specs.FinMap.{get}
use Rattle.bay_core.specs.declared.event.Event.{Event}
use Rattle.bay_core.specs.declared.event.Event.TheVariants.{DriveRead}
use Rattle.bay_core.specs.declared.event.DriveGot.TheVariants.{Failed}
use Rattle.bay_core.specs.Map.{Map}
use Rattle.bay_core.specs.Replay.{Drive, reads}
use Rattle.bay_core.specs.World.{World, Honest, Rose}
use Rattle.bay_core.specs.Went.{Went, Only}
use Rattle.bay_core.specs.Looks.{read_call, piece, given, Tiles}
use Rattle.file_reading.specs.Reads.{AskedUpTo}
use Rattle.digest_set.specs.declared.triple.Triple.{Triple}
use Rattle.digest_set.specs.Triple.{triple}
use Rattle.read_back.specs.declared.back.ReadBackError.{ReadBackError}
use Rattle.read_back.specs.declared.back.ReadBackError.TheVariants.{DriveFailed, Absent, Length, Differs}

-- how many bytes a read asked for
abbrev pub wanted : Event → ℕ
wanted (DriveRead d path at want got) = want
wanted _ = 0

-- a read that gave a byte at least, and no more than it asked for
abbrev pub IsPiece : Event → Type 0
IsPiece e = (0 < length (piece e)) × (length (piece e) ≤ wanted e)

-- reads of a file from its start, each where the one before ended, each of which gave a byte at least; together these bytes; none asked for a byte past `size`
pub record Pieces (d : ℕ) (path : List ℕ) (size : ℕ) (bytes : List ℕ) (calls : List Event) : Type 0 where
  pub tiles : Tiles d path 0 calls
  pub each : AllByRecursion IsPiece calls
  pub asked : AskedUpTo size calls
  pub gave : given calls ≡ bytes

-- so many bytes from this place on: one at least, none past `size`, and at `size` one
abbrev pub IsNext : ℕ → ℕ → ℕ → Type 0
IsNext size at want = (0 < want) × ((at + want ≤ size) ⊎ ((at ≡ size) × (want ≡ 1)))

-- pieces that gave these bytes, and then one read more where they ended, which asked for so many and was answered this
pub record PiecesThen (d : ℕ) (path : List ℕ) (size : ℕ) (bytes : List ℕ) (want : ℕ) (got : Option (List ℕ)) (calls : List Event) : Type 0 where
  pub first : List Event
  pub is : calls ≡ first ++ read_call d path (length bytes) want got ∷ []
  pub pieces : Pieces d path size bytes first
  pub next : IsNext size (length bytes) want

-- the next read, which failed, seen or not
abbrev pub NextFailed : ℕ → List ℕ → ℕ → ℕ → List Event → Type 0
NextFailed d path size at last = (last ≡ []) ⊎ ((want : ℕ) × IsNext size at want × (last ≡ DriveRead d path at want Failed ∷ []))

-- pieces that gave these bytes, and then the next read where they ended, which failed
pub record PiecesFailed (d : ℕ) (path : List ℕ) (size : ℕ) (bytes : List ℕ) (calls : List Event) : Type 0 where
  pub first : List Event
  pub last : List Event
  pub is : calls ≡ first ++ last
  pub pieces : Pieces d path size bytes first
  pub failed : NextFailed d path size (length bytes) last

-- pieces of just `size` bytes, and then a read of one byte at `size`, which gave none
abbrev pub WholeCalls : ℕ → List ℕ → ℕ → List ℕ → List Event → Type 0
WholeCalls d path size bytes calls = (length bytes ≡ size) × PiecesThen d path size bytes 1 (Some []) calls

-- pieces, and then a read that was answered that there is no such file
abbrev pub AbsentCalls : ℕ → List ℕ → ℕ → List ℕ → List Event → Type 0
AbsentCalls d path size bytes calls = (want : ℕ) × PiecesThen d path size bytes want None calls

-- pieces of fewer bytes than `size`, as many as were said, and then a read for more, which gave none
abbrev pub ShortCalls : ℕ → List ℕ → ℕ → ℕ → List ℕ → List Event → Type 0
ShortCalls d path size read bytes calls = (read < size) × (length bytes ≡ read) × (want : ℕ) × PiecesThen d path size bytes want (Some []) calls

-- pieces of just `size` bytes, and then a read of one byte at `size`, which gave one; one more was said
abbrev pub LongCalls : ℕ → List ℕ → ℕ → ℕ → List ℕ → List Event → Type 0
LongCalls d path size read bytes calls = (read ≡ size + 1) × (length bytes ≡ size) × (byte : ℕ) × PiecesThen d path size bytes 1 (Some (byte ∷ [])) calls

-- the calls by the answer, with the bytes that the pieces gave
abbrev pub ReadBackCalls : ℕ → List ℕ → ℕ → Triple → Result Unit ReadBackError → List ℕ → List Event → Type 0
ReadBackCalls d path size t (Ok _) bytes calls = WholeCalls d path size bytes calls × (triple bytes ≡ t)
ReadBackCalls d path size t (Err DriveFailed) bytes calls = PiecesFailed d path size bytes calls
ReadBackCalls d path size t (Err Absent) bytes calls = AbsentCalls d path size bytes calls
ReadBackCalls d path size t (Err (Length recorded read)) bytes calls = (recorded ≡ size) × (ShortCalls d path size read bytes calls ⊎ LongCalls d path size read bytes calls)
ReadBackCalls d path size t (Err (Differs recorded read)) bytes calls = WholeCalls d path size bytes calls × (recorded ≡ t) × (read ≡ triple bytes) × (recorded ≢ read)

-- the file is there, and its length is not `size`: it is what was said, where that is less, and else that or more
pub record LengthIs (size read : ℕ) (file : Option (List ℕ)) : Type 0 where
  pub content : List ℕ
  pub there : file ≡ Some content
  pub other : length content ≢ size
  pub shorter : read < size → length content ≡ read
  pub longer : size < read → read ≤ length content

-- what an honest drive has at the path, by the answer, with the bytes that the pieces gave
abbrev pub ReadBackIs : ℕ → Result Unit ReadBackError → List ℕ → Option (List ℕ) → Type 0
ReadBackIs size (Ok _) bytes file = file ≡ Some bytes
ReadBackIs size (Err DriveFailed) bytes file = Unit {0}
ReadBackIs size (Err Absent) bytes file = file ≡ None
ReadBackIs size (Err (Length recorded read)) bytes file = LengthIs size read file
ReadBackIs size (Err (Differs recorded read)) bytes file = file ≡ Some bytes

-- A copy that was read again: the calls, on this drive alone; the count that rose where one failed; and what the drive has, if it is honest.
pub record ReadBack (d : ℕ) (path : List ℕ) (size : ℕ) (t : Triple) (result : Result Unit ReadBackError) (old new : World) : Type 0 where
  pub bytes : List ℕ
  pub went : Went (Only (Drive d)) (ReadBackCalls d path size t result bytes) old new
  pub cause : result ≡ Err DriveFailed → Rose (old.faults (Drive d)) (new.faults (Drive d))
  pub honest : (m : Map) (L : List Event) → Honest new d m L → ReadBackIs size result bytes (get (reads m L d) path)

-- the file is there with this size and these digests
abbrev pub HasCopy : ℕ → Triple → Option (List ℕ) → Type 0
HasCopy size t file = (bytes : List ℕ) × (file ≡ Some bytes) × (length bytes ≡ size) × (triple bytes ≡ t)

-- on an honest drive the answer is Ok exactly where no call failed and the file is there with this size and these digests
abbrev pub OkExactly : ℕ → List ℕ → ℕ → Triple → Result Unit ReadBackError → World → Type 0
OkExactly d path size t result new = (m : Map) (L : List Event) → Honest new d m L → IsOk result ↔ ((result ≢ Err DriveFailed) × HasCopy size t (get (reads m L d) path))
