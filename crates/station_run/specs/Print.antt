-- A run of `print`: docs/FORMATS.md, "The table of a list".
use Rattle.std.specs.Prelude.{ℕ, List, Ok, Err}
use Rattle.std.specs.FinMap.{get}
use Rattle.bay_core.specs.declared.event.Event.{Event}
use Rattle.bay_core.specs.Map.{Map}
use Rattle.bay_core.specs.Replay.{Output, reads}
use Rattle.bay_core.specs.World.{World, Honest, Rose}
use Rattle.bay_core.specs.Went.{Went, Then}
use Rattle.bay_core.specs.Looks.{Here, Exactly, says}
use Rattle.mhl_writer.specs.declared.values.HashList.{HashList}
use Rattle.mhl_writer.specs.ListText.{values_of}
use Rattle.verify_run.specs.declared.loading.LoadError.{LoadError}
use Rattle.verify_run.specs.Loading.{LoadCalls, LoadGives}
use Rattle.last_lines.specs.Said.{BrokeOff}
use Rattle.station_run.specs.Table.{print_lines}
use Rattle.last_lines.specs.Ends.{End, with_status, EndCalls, EndStatus}
use Rattle.station_run.specs.Ends.{load_end}
use Rattle.station_run.specs.Runs.{IsOfDrive, RunOf, NoneAttached, OneAttached, AfterAttach, LoadCause}

-- how `print` went on its drive: the list was not loaded; it was, and its table broke off; or its table was said
pub data PrintStory : Type 0 where
  NoList : LoadError → PrintStory
  PartOfTable : HashList → PrintStory
  WithTable : HashList → PrintStory

abbrev pub print_end : PrintStory → End
print_end (NoList e) = load_end e
print_end (PartOfTable hashes) = with_status 5
print_end (WithTable hashes) = with_status 0

-- the calls of a story before its end: the loading of the list, and then its table, line by line; a call that failed is the last of them
abbrev pub PrintCalls : PrintStory → List ℕ → ℕ → List Event → Type 0
PrintCalls (NoList e) list d L = LoadCalls d list (Err e) L
PrintCalls (PartOfTable hashes) list d L = Then (LoadCalls d list (Ok hashes)) (BrokeOff (print_lines (values_of hashes))) L
PrintCalls (WithTable hashes) list d L = Then (LoadCalls d list (Ok hashes)) (Exactly (says (print_lines (values_of hashes)))) L

-- the count that rose where a call failed
abbrev pub PrintCause : PrintStory → ℕ → World → World → Type 0
PrintCause (NoList e) d old new = LoadCause e d old new
PrintCause (PartOfTable hashes) d old new = Rose (old.faults Output) (new.faults Output)
PrintCause (WithTable hashes) d old new = Unit {0}

-- a story on a drive with this map: the list was not loaded for what the map has at its path, or it is the one that the map has
abbrev pub PrintTrue : PrintStory → List ℕ → Map → Type 0
PrintTrue (NoList e) list m = LoadGives (get m list) (Err e)
PrintTrue (PartOfTable hashes) list m = LoadGives (get m list) (Ok hashes)
PrintTrue (WithTable hashes) list m = LoadGives (get m list) (Ok hashes)

-- `print` on drive d, which it attached from a place; if the drive is honest, the story is true of its map
pub record PrintedOn (d : ℕ) (list place : List ℕ) (result : ℕ) (old new : World) : Type 0 where
  pub story : PrintStory
  pub run : RunOf (IsOfDrive d) (AfterAttach d place (PrintCalls story list d)) (print_end story) result old new
  pub cause : PrintCause story d old new
  pub honest : (m : Map) (all : List Event) → Honest new d m all → PrintTrue story list (reads m all d)

-- a run of `print`: its drive was not attached, or it was, with the next number
pub data PrintRun (list place : List ℕ) (result : ℕ) (old new : World) : Type 0 where
  unattached : NoneAttached place result old new → PrintRun list place result old new
  attached : OneAttached place old new → PrintedOn old.attached.drives list place result old new → PrintRun list place result old new

-- its part from the attach on
pub record PrintedThen (d : ℕ) (list : List ℕ) (result : ℕ) (old new : World) : Type 0 where
  pub story : PrintStory
  pub went : Went (Here d) (Then (PrintCalls story list d) (EndCalls (print_end story) result)) old new
  pub cause : PrintCause story d old new
  pub status : EndStatus (print_end story) result old new
  pub honest : (m : Map) (all : List Event) → Honest new d m all → PrintTrue story list (reads m all d)
