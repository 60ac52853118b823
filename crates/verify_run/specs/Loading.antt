-- What loading a list saw of it, and its answer: docs/FORMATS.md, "Reading a list".
use Rattle.std.specs.Prelude.{◌≡◌, ◌⊎◌, ℕ, List, Option, Some, None, Result, Ok, Err, IfOk, bytes_eq}
use Rattle.std.specs.FinMap.{get}
use Rattle.std.specs.List.{IsDistinct}
use Rattle.bay_core.specs.declared.event.Event.{Event}
use Rattle.bay_core.specs.declared.event.FileInfo.{FileInfo}
use Rattle.bay_core.specs.Map.{Map}
use Rattle.bay_core.specs.Replay.{Drive, reads}
use Rattle.bay_core.specs.World.{World, Honest, Rose}
use Rattle.bay_core.specs.Went.{Went, Only}
use Rattle.bay_core.specs.Looks.{Stops}
use Rattle.file_reading.specs.Whole.{IsWhole, IsAbsent}
use Rattle.file_reading.specs.Listed.{WholeCalls, UnlistedCalls, AbsentCalls, LargeCalls, IsLarge, ListedThen}
use Rattle.mhl_writer.specs.declared.values.HashList.{HashList}
use Rattle.mhl_writer.specs.ListText.{values_of, paths_of}
use Rattle.mhl_reader.specs.Reading.{Reading}
use Rattle.mhl_reader.specs.Reading.{FirstFault}
use Rattle.verify_run.specs.declared.loading.LoadError.{LoadError}
use Rattle.verify_run.specs.declared.loading.LoadError.TheVariants.{DriveFailed, Absent, TooLarge, Unreadable, Memory}

-- the most bytes of a list that is read
abbrev pub largest_list : ℕ
largest_list = 536870912

-- the drive was listed, and then such calls, by the size that the listing gives the path
abbrev pub AfterListing : ℕ → List ℕ → (Option ℕ → List Event → Type 0) → List Event → Type 0
AfterListing d path P L = (files : List FileInfo) × ListedThen d path files P L

-- the list was listed, and reads from its start gave these bytes and then, asked for more at their end, none
abbrev pub WholeRead : ℕ → List ℕ → List ℕ → List Event → Type 0
WholeRead d path bytes L = AfterListing d path (λ size calls. WholeCalls largest_list d path size bytes calls) L

-- the listing has no such path, or a read answered that there is none
abbrev pub AbsentRead : ℕ → List ℕ → List Event → Type 0
AbsentRead d path L = AfterListing d path (λ size calls. UnlistedCalls size calls ⊎ AbsentCalls largest_list d path size calls) L

-- the listing gives the list this size, or its reads went on to this length
abbrev pub LargeRead : ℕ → List ℕ → ℕ → List Event → Type 0
LargeRead d path len L = AfterListing d path (λ size calls. LargeCalls largest_list d path size len calls) L

-- The calls of loading a list, by its answer: a list is what the bytes that were read mean, and an unreadable one has its first fault in them.
abbrev pub LoadCalls : ℕ → List ℕ → Result HashList LoadError → List Event → Type 0
LoadCalls d path (Ok list) L = (bytes : List ℕ) × WholeRead d path bytes L × Reading bytes (values_of list)
LoadCalls d path (Err Absent) L = AbsentRead d path L
LoadCalls d path (Err (TooLarge len)) L = LargeRead d path len L
LoadCalls d path (Err (Unreadable e)) L = (bytes : List ℕ) × WholeRead d path bytes L × FirstFault bytes e
LoadCalls d path (Err DriveFailed) L = Stops (Some (Drive d)) L
LoadCalls d path (Err Memory) L = Stops None L

-- the answer, by what the drive has at the path
abbrev pub LoadGives : Option (List ℕ) → Result HashList LoadError → Type 0
LoadGives file (Ok list) = (bytes : List ℕ) × IsWhole largest_list bytes file × Reading bytes (values_of list)
LoadGives file (Err Absent) = IsAbsent file
LoadGives file (Err (TooLarge len)) = IsLarge largest_list len file
LoadGives file (Err (Unreadable e)) = (bytes : List ℕ) × IsWhole largest_list bytes file × FirstFault bytes e
LoadGives file (Err DriveFailed) = Unit {0}
LoadGives file (Err Memory) = Unit {0}

-- the loading of a list: its calls, the count that rose where the drive failed, the answer by what an honest drive has, and that no two entries of a list have the same path
pub record Loaded (d : ℕ) (path : List ℕ) (r : Result HashList LoadError) (old new : World) : Type 0 where
  pub went : Went (Only (Drive d)) (LoadCalls d path r) old new
  pub cause : r ≡ Err DriveFailed → Rose (old.faults (Drive d)) (new.faults (Drive d))
  pub honest : (m : Map) (L : List Event) → Honest new d m L → LoadGives (get (reads m L d) path) r
  pub distinct : IfOk r (λ list. IsDistinct bytes_eq (paths_of list.entries.items))
