-- What reading a file whole saw of it, up to a limit of bytes.
use Rattle.std.specs.Prelude.{◌≡◌, ℕ, ◌+◌, ◌<◌, ◌≤◌, List, [], ◌∷◌, ◌++◌, length, Option, Some, None}
use Rattle.std.specs.FinMap.{get}
use Rattle.bay_core.specs.declared.event.Event.{Event}
use Rattle.bay_core.specs.Map.{Map}
use Rattle.bay_core.specs.Replay.{Drive, reads}
use Rattle.bay_core.specs.World.{World, Honest}
use Rattle.bay_core.specs.Went.{Went, Only}
use Rattle.bay_core.specs.Looks.{read_call, given, Tiles}
use Rattle.file_reading.specs.declared.whole.ReadWholeError.{ReadWholeError}
use Rattle.file_reading.specs.declared.whole.ReadWholeError.TheVariants.{DriveFailed, Absent, TooLong, Memory}
use Rattle.file_reading.specs.Reads.{Halted, AskedUpTo}

-- reads of a file from its start that gave these bytes and then, asked for more at their end, none
pub record ReadsWhole (limit d : ℕ) (path bytes : List ℕ) (calls : List Event) : Type 0 where
  pub first : List Event
  pub want : ℕ
  pub is : calls ≡ first ++ read_call d path (length bytes) want (Some []) ∷ []
  pub more : 0 < want
  pub tiles : Tiles d path 0 calls
  pub asked : AskedUpTo (limit + 1) calls
  pub gave : given calls ≡ bytes
  pub short : length bytes ≤ limit

-- reads of a file from its start, of which the last was answered that there is none
pub record ReadsAbsent (limit d : ℕ) (path : List ℕ) (calls : List Event) : Type 0 where
  pub first : List Event
  pub at : ℕ
  pub want : ℕ
  pub is : calls ≡ first ++ read_call d path at want None ∷ []
  pub tiles : Tiles d path 0 calls
  pub asked : AskedUpTo (limit + 1) calls

-- reads of a file from its start that gave one byte more than the limit
pub record ReadsPast (limit d : ℕ) (path : List ℕ) (calls : List Event) : Type 0 where
  pub tiles : Tiles d path 0 calls
  pub asked : AskedUpTo (limit + 1) calls
  pub gave : length (given calls) ≡ limit + 1

-- the file has exactly these bytes, within the limit
abbrev pub IsWhole : ℕ → List ℕ → Option (List ℕ) → Type 0
IsWhole limit bytes file = (file ≡ Some bytes) × (length bytes ≤ limit)

-- the file has more bytes than the limit
abbrev pub IsOver : ℕ → Option (List ℕ) → Type 0
IsOver limit file = (bytes : List ℕ) × (file ≡ Some bytes) × (limit < length bytes)

-- there is no such file
abbrev pub IsAbsent : Option (List ℕ) → Type 0
IsAbsent file = file ≡ None

-- such reads on drive d alone, and what the drive has at the path if it is honest
pub record Found (d : ℕ) (path : List ℕ) (P : List Event → Type 0) (H : Option (List ℕ) → Type 0) (old new : World) : Type 0 where
  pub went : Went (Only (Drive d)) P old new
  pub honest : (m : Map) (L : List Event) → Honest new d m L → H (get (reads m L d) path)

-- a file that was read whole
abbrev pub FileRead : ℕ → ℕ → List ℕ → List ℕ → World → World → Type 0
FileRead limit d path bytes old new = Found d path (ReadsWhole limit d path bytes) (IsWhole limit bytes) old new

-- a file that was not read whole, by the reason
abbrev pub FileNotRead : ℕ → ℕ → List ℕ → ReadWholeError → World → World → Type 0
FileNotRead limit d path DriveFailed old new = Halted d (Some (Drive d)) old new
FileNotRead limit d path Absent old new = Found d path (ReadsAbsent limit d path) IsAbsent old new
FileNotRead limit d path TooLong old new = Found d path (ReadsPast limit d path) (IsOver limit) old new
FileNotRead limit d path Memory old new = Halted d None old new
