-- What a run of a job leaves on its drives where it came to its end: docs/MODEL.md, "Laws of a run of a job".
use Rattle.std.specs.Prelude.{◌≡◌, ◌⊎◌, ℕ, true, List, ◌∷◌, ◌++◌, length, Some, None}
use Rattle.std.specs.FinMap.{get}
use Rattle.std.specs.List.{slice_get}
use Rattle.bay_core.specs.declared.event.Event.{Event}
use Rattle.bay_core.specs.declared.event.Event.TheVariants.{Say}
use Rattle.bay_core.specs.Left.{IsPrefix, IsSettled}
use Rattle.bay_core.specs.Map.{Map, Dates}
use Rattle.bay_core.specs.Paths.{journal_path}
use Rattle.bay_core.specs.Replay.{Drive, reads}
use Rattle.copy_plan.specs.declared.file.PlannedFile.{PlannedFile}
use Rattle.copy_plan.specs.Plan.{PlanValue, list_of}
use Rattle.drive_journal.specs.declared.record.Rec.{Rec}
use Rattle.mhl_writer.specs.ListText.{Values}
use Rattle.mhl_reader.specs.Reading.{Reading}
use Rattle.offload_law.specs.Stages.{IsOfCard}
use Rattle.report_text.specs.Run.{sealed_text}
use Rattle.verify_run.specs.Report.{report_verdict}
use Rattle.verified_law.specs.Good.{IsGood}
use Rattle.run_final.specs.Final.{IsMadeFinal}
use Rattle.job_story.specs.Plans.{IsRunPlan}
use Rattle.job_story.specs.Run.{Run, IsHonest, IsSteady}
use Rattle.job_losses.specs.Drops.{Rises}
use Rattle.job_reads.specs.Backs.{IsReadBack, IsListReadBack}

-- each of these records, the one with number i of file i, is the one with which the file was read back and recorded on drive d: at the end of a first part of these calls, and
-- with the moment that was asked with the next call after the file's copy
abbrev pub AreDated : PlanValue → ℕ → List Rec → List Event → Type 0
AreDated p d recs L = (i : ℕ) (rec : Rec) → slice_get recs i ≡ Some rec → (file : PlannedFile) × (slice_get p.files i ≡ Some file) × (front : List Event) × IsPrefix front L × (read : IsReadBack p d i file front) × (read.rec ≡ rec)

-- Drive d, which had a map as it was attached, was sealed in the run, by the run's plan, which is one of the card. It had no journal. Its line `sealed` was said; before it the list was read back, of these records and that moment; each
-- record has the moment that was asked for its file; and by these the map of the drive is final at the end of the run, and nothing is pending on it.
pub record EndsFinal (run : Run) (card : Map) (dates : Dates) (d : ℕ) (start : Map) : Type 0 where
  pub p : PlanValue
  pub plan : IsRunPlan run p
  pub of_card : IsOfCard card dates p
  pub unbegun : get start journal_path ≡ None
  pub before : List Event
  pub after : List Event
  pub sealed : run.events ≡ before ++ Say (sealed_text d (length p.files) (list_of p)) true ∷ after
  pub back : IsListReadBack p d before
  pub dated : AreDated p d back.recs before
  pub settled : IsSettled start run.events d
  pub final : IsMadeFinal card start p back.recs back.finish (reads start run.events d)

-- Where a run ended with 0 or 1, with a steady card, each honest drive whose count did not rise ends final, whatever became of the others. What a drive had as it was attached is no premise, since a run that finds a journal, or anything else in the way of the plan, is refused.
abbrev pub IsFinal : Run → ℕ → Type 0
IsFinal run result = (result ≡ 0) ⊎ (result ≡ 1) → (card : Map) (dates : Dates) → IsSteady run card dates → (d : ℕ) (start : Map) → IsHonest run d start → (Rises run (Drive d) → ⊥) → EndsFinal run card dates d start

-- A drive with this map has the list of the plan under its name; the list reads; and by each reading of it a verification of the drive is good: each file of the plan is checked, and none is missing, altered or unchecked.
pub record Verifies (p : PlanValue) (m : Map) : Type 0 where
  pub bytes : List ℕ
  pub list : Values
  pub there : get m (list_of p) ≡ Some bytes
  pub reads : Reading bytes list
  pub good : (other : Values) → Reading bytes other → IsGood (length p.files) (report_verdict other.entries m (list_of p))
