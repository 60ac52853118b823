-- What a run of the station is, by its words.
use Rattle.std.specs.Prelude.{◌≡◌, ◌⊎◌, ℕ, ◌-◌, ◌^◌, ◌<◌, List}
use Rattle.bay_core.specs.World.{World, Attached}
use Rattle.command_words.specs.declared.command.Command.{Command}
use Rattle.command_words.specs.declared.command.Command.TheVariants.{Offload, Verify, Print}
use Rattle.command_words.specs.Jobs.{Job, IsJob}
use Rattle.command_words.specs.Words.{IsCommand, FitsNoRow, drive_word}
use Rattle.last_lines.specs.Ends.{memory_end, Ended}
use Rattle.job_story.specs.Story.{RanJob}
use Rattle.station_run.specs.Ends.{words_end}
use Rattle.station_run.specs.Verify.{VerifyRun}
use Rattle.station_run.specs.Print.{PrintRun}

-- what a command asks of the devices that are attached before: a job that there are none; a command that attaches one drive that there are fewer than the most
abbrev pub RoomFor : Command → Attached → Type 0
RoomFor (Offload name user host copies kinds drives) a = (a.sources ≡ 0) × (a.drives ≡ 0)
RoomFor (Verify list) a = a.drives < 2 ^ 32 - 1
RoomFor (Print list) a = a.drives < 2 ^ 32 - 1

-- what words ask of them: what their command does, if they are one
abbrev pub HasRoom : List (List ℕ) → Attached → Type 0
HasRoom words a = (command : Command) → IsCommand words command → RoomFor command a

-- A run for these words: memory was wanting before they were read; they fit no row; or they are those of a command, each of which has its
-- own run.
pub data Ran (words : List (List ℕ)) (result : ℕ) (old new : World) : Type 0 where
  wanting : Ended memory_end result old new → Ran words result old new
  unread : FitsNoRow words → Ended words_end result old new → Ran words result old new
  job : (job : Job) → IsJob words job → RanJob job result old new → Ran words result old new
  verify : (list : List ℕ) → IsCommand words (Verify list) → VerifyRun list (drive_word words) result old new → Ran words result old new
  print : (list : List ℕ) → IsCommand words (Print list) → PrintRun list (drive_word words) result old new → Ran words result old new

-- the status of a run that ended before any change
abbrev pub IsBeforeChange : ℕ → Type 0
IsBeforeChange result = (result ≡ 2) ⊎ (result ≡ 3) ⊎ (result ≡ 7) ⊎ (result ≡ 9)

-- a run that changes nothing: its words are no job, or its status says so
abbrev pub ChangesNothing : List (List ℕ) → ℕ → Type 0
ChangesNothing words result = ((job : Job) → IsJob words job → ⊥) ⊎ IsBeforeChange result
