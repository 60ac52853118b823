-- Which calls a run of a job makes, and what follows a call that failed: docs/MODEL.md, "The calls of a run of a job".
use Rattle.std.specs.Prelude.{◌≡◌, ◌≢◌, ◌⊎◌, ℕ, zero, suc, ◌<◌, Bool, true, false, List, [], ◌∷◌, ◌++◌, length, take, codes, Some}
use Rattle.std.specs.List.{slice_get, AllByRecursion}
use Rattle.bay_core.specs.declared.event.Event.{Event}
use Rattle.bay_core.specs.declared.event.Event.TheVariants.{AttachSource, AttachDrive, AttachFailed, Say}
use Rattle.bay_core.specs.Looks.{has_failed}
use Rattle.bay_core.specs.Replay.{Device, Source, Drive, Attaching, Output, calls_on, device_of}
use Rattle.bay_core.specs.Went.{MaySee}
use Rattle.report_text.specs.Losses.{dropped_fault_text}
use Rattle.run_state.specs.Runs.{begins_with}
use Rattle.last_lines.specs.Ends.{EndCalls}
use Rattle.command_words.specs.Jobs.{Job, job_places}
use Rattle.job_story.specs.Ends.{JobEnd, CardUnattached, DriveUnattached, CardFailed, last_of}

-- ---- the devices

-- the devices of a run: its card, its drives, attaching, the clock, the picker and the output
abbrev pub IsOfJob : Job → Device → Type 0
IsOfJob job (Source s) = s ≡ 0
IsOfJob job (Drive d) = d < length job.drives
IsOfJob job _ = Unit {0}

-- ---- attaches

-- an attach, whatever its answer
abbrev pub is_attach : Event → Bool
is_attach (AttachSource s place) = true
is_attach (AttachDrive d place) = true
is_attach (AttachFailed place) = true
is_attach _ = false

-- no attach is among these calls
abbrev pub NoAttach : List Event → Type 0
NoAttach L = AllByRecursion (λ e. is_attach e ≡ false) L

-- the attaches of drives from these folders, which have the numbers from d on
abbrev pub drive_attaches : ℕ → List (List ℕ) → List Event
drive_attaches d [] = []
drive_attaches d (place ∷ places) = AttachDrive d place ∷ drive_attaches (suc d) places

-- all attaches of a job, in the order of its words: the card as a source, the others as drives
abbrev pub job_attaches : Job → List Event
job_attaches job = AttachSource 0 job.card ∷ drive_attaches 0 job.drives

-- how a run ends that could not attach the folder at this place of the words
abbrev pub unattached_end : ℕ → JobEnd
unattached_end zero = CardUnattached
unattached_end (suc d) = DriveUnattached d

-- the first calls of a run attached all folders of the job, no other attach was made, and so the run did not end by one
pub record AttachesEach (job : Job) (end : JobEnd) (L : List Event) : Type 0 where
  pub rest : List Event
  pub is : L ≡ job_attaches job ++ rest
  pub no_other : NoAttach rest
  pub ends : (n : ℕ) → end ≢ unattached_end n

-- The first calls of a run attached the folders before place n of the words; the next folder could not be attached, whether that call is seen or not; and then
-- came the last lines of the run alone.
pub record StopsAttaching (job : Job) (end : JobEnd) (result : ℕ) (L : List Event) : Type 0 where
  pub n : ℕ
  pub place : List ℕ
  pub is_place : slice_get (job_places job) n ≡ Some place
  pub failed : List Event
  pub last : List Event
  pub is : L ≡ take n (job_attaches job) ++ (failed ++ last)
  pub seen : MaySee (AttachFailed place) failed
  pub ends : end ≡ unattached_end n
  pub lines : EndCalls (last_of end) result last

-- the folders are attached in the order of the words, all of them or a first part, and there is no other attach
abbrev pub AttachesInOrder : Job → JobEnd → ℕ → List Event → Type 0
AttachesInOrder job end result L = AttachesEach job end L ⊎ StopsAttaching job end result L

-- ---- no call after a failure

-- the next call says that drive d is lost by a fault, heard or not; there is no next call only where that line could not be said, and then the status is 5
abbrev pub IsToldNext : ℕ → ℕ → List Event → Type 0
IsToldNext d result [] = result ≡ 5
IsToldNext d result (e ∷ back) = (ok : Bool) × (e ≡ Say (dropped_fault_text d) ok)

-- What follows a call that failed, by its device. Behind one on a drive comes the line of its loss, and no call on that drive any more; behind one on the card come
-- the last lines of a run whose card failed, and behind an attach those of its run, and nothing else; behind a line comes no call, and the status is 5. The clock
-- and the picker do not fail.
abbrev pub MayFollow : JobEnd → ℕ → Device → List Event → Type 0
MayFollow end result (Drive d) back = IsToldNext d result back × (calls_on d back ≡ [])
MayFollow end result (Source s) back = (end ≡ CardFailed) × EndCalls (last_of end) result back
MayFollow end result Attaching back = EndCalls (last_of end) result back
MayFollow end result Output back = (back ≡ []) × (result ≡ 5)
MayFollow end result _ back = ⊥

-- So it is behind each call that failed. And behind a line `dropped` of a drive, whatever else it says and whether it was heard or not, there is no call on that
-- drive, since a failure may not be seen.
pub record NoneAfterFailure (end : JobEnd) (result : ℕ) (L : List Event) : Type 0 where
  pub failed : (front back : List Event) (e : Event) → L ≡ front ++ e ∷ back → has_failed e ≡ true → MayFollow end result (device_of e) back
  pub dropped : (front back : List Event) (d : ℕ) (line : List ℕ) (ok : Bool) → L ≡ front ++ Say line ok ∷ back → begins_with (codes "dropped") d line ≡ true → calls_on d back ≡ []
