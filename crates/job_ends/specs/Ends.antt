-- How a run of a job ends, and why: docs/FORMATS.md, "Statuses".
use Rattle.std.specs.Prelude.{◌≡◌, ◌≢◌, ◌⊎◌, ℕ, ◌<◌, ◌+◌, false, List, [], length, take, Contains, Some}
use Rattle.std.specs.List.{slice_get}
use Rattle.bay_core.specs.declared.event.Event.{Event}
use Rattle.bay_core.specs.declared.event.Event.TheVariants.{Say}
use Rattle.bay_core.specs.Looks.{IsUntouched}
use Rattle.bay_core.specs.Map.{Map, Dates}
use Rattle.bay_core.specs.Replay.{Source, Attaching, Output}
use Rattle.copy_plan.specs.declared.file.PlannedFile.{PlannedFile}
use Rattle.copy_plan.specs.Plan.{PlanValue}
use Rattle.offload_law.specs.Clear.{IsSaid, IsCalledSealed}
use Rattle.run_ends.specs.Ends.{EndsEarly, EndsLate}
use Rattle.run_ends.specs.Reads.{reads_of, card_given}
use Rattle.run_lines.specs.Words.{Loss, loss_text}
use Rattle.last_lines.specs.Ends.{End}
use Rattle.job_story.specs.Ends.{JobEnd, Sealed, Dropped, Refused, CardUnattached, DriveUnattached, CardFailed, CardChanged, OutFailed, NoMemory, refusal_lines, last_of}
use Rattle.job_story.specs.Plans.{IsRunPlan}
use Rattle.job_story.specs.Run.{Run, IsSteady}
use Rattle.job_ends.specs.Counts.{Rises, AreAttached}
use Rattle.job_ends.specs.Says.{SaysAll, SaysSome}

-- every drive of the words has its line `sealed`
abbrev pub AllSealed : Run → Type 0
AllSealed run = (d : ℕ) → d < length run.job.drives → IsCalledSealed d run.events

-- a line `dropped` of drive d is among these calls, whatever its answer
abbrev pub IsDropped : ℕ → List Event → Type 0
IsDropped d L = (loss : Loss) × IsSaid L (loss_text d loss)

-- a drive of the words has its line `dropped`
abbrev pub SomeDropped : Run → Type 0
SomeDropped run = (d : ℕ) × (d < length run.job.drives) × IsDropped d run.events

-- The run said some of its words, and then the last lines of this end, and has its status; or only first ones of these, since one could not be said, and has the status 5.
abbrev pub SaysEnd : Run → End → ℕ → Type 0
SaysEnd run end result = (SaysSome run end.lines × (result ≡ end.status)) ⊎ ((n : ℕ) × SaysSome run (take n end.lines) × (result ≡ 5) × Rises run Output)

-- The card's reads of a planned file gave another length than was listed: fewer bytes, and then none; or all of these and one more. It was read no further.
pub record HasOtherLength (run : Run) (listed read : ℕ) (path : List ℕ) : Type 0 where
  pub p : PlanValue
  pub plan : IsRunPlan run p
  pub j : ℕ
  pub file : PlannedFile
  pub is_file : slice_get p.files j ≡ Some file
  pub path_is : path ≡ file.path
  pub listed_is : listed ≡ file.size
  pub gave : length (card_given 0 path run.events) ≡ read
  pub ends : ((read < listed) × EndsEarly 0 path read (reads_of 0 path run.events)) ⊎ ((read ≡ listed + 1) × EndsLate 0 path listed (reads_of 0 path run.events))

-- What is so of a run that ended so, where its calls are told. A run that came to its end said all its words; one a line of which was not said, some of them or all; and
-- every other some of them, and then the lines of its end. One that was refused, that could not attach a folder, or that wanted memory changed and settled no drive.
abbrev pub EndGives : Run → JobEnd → ℕ → Type 0
EndGives run Sealed result = SaysAll run × AllSealed run × (result ≡ 0)
EndGives run Dropped result = SaysAll run × SomeDropped run × (result ≡ 1)
EndGives run (Refused e) result = SaysEnd run (last_of (Refused e)) result × (refusal_lines e ≢ []) × IsUntouched run.events
EndGives run CardUnattached result = SaysEnd run (last_of CardUnattached) result × IsUntouched run.events × AreAttached run CardUnattached × Rises run Attaching
EndGives run (DriveUnattached d) result = SaysEnd run (last_of (DriveUnattached d)) result × IsUntouched run.events × AreAttached run (DriveUnattached d) × Rises run Attaching
EndGives run CardFailed result = SaysEnd run (last_of CardFailed) result × Rises run (Source 0)
EndGives run (CardChanged listed read path) result = SaysEnd run (last_of (CardChanged listed read path)) result × HasOtherLength run listed read path × ((card : Map) (dates : Dates) → IsSteady run card dates → ⊥)
EndGives run OutFailed result = (SaysSome run [] ⊎ SaysAll run) × (result ≡ 5) × Rises run Output
EndGives run NoMemory result = SaysEnd run (last_of NoMemory) result × IsUntouched run.events

-- every drive of the words has its line `sealed` only where the status is 0, or a line could not be said
abbrev pub ZeroWhere : Run → ℕ → Type 0
ZeroWhere run result = AllSealed run → (result ≡ 0) ⊎ ((result ≡ 5) × Rises run Output)

-- a line that was not said makes the status 5
abbrev pub FiveWhere : Run → ℕ → Type 0
FiveWhere run result = (line : List ℕ) → Contains run.events (Say line false) → result ≡ 5
