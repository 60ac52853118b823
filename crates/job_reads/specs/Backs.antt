-- What a run of a job reads back of its drives before it says that a file is done, and that a drive is sealed: docs/MODEL.md, "Laws of a run of a job".
use Rattle.std.specs.Prelude.{◌≡◌, ℕ, ◌+◌, ◌^◌, ◌<◌, Bool, true, List, [], ◌∷◌, ◌++◌, length, map, codes, Some}
use Rattle.std.specs.List.{slice_get, AllByRecursion}
use Rattle.bay_core.specs.declared.event.Event.{Event}
use Rattle.bay_core.specs.declared.event.Event.TheVariants.{SourceRead, Sync, Rename, Moment, Say}
use Rattle.bay_core.specs.Paths.{new_path, part_path}
use Rattle.bay_core.specs.Went.{Ran}
use Rattle.digest_set.specs.Triple.{triple}
use Rattle.copy_plan.specs.declared.file.PlannedFile.{PlannedFile}
use Rattle.copy_plan.specs.Plan.{PlanValue, list_of}
use Rattle.drive_journal.specs.declared.record.Rec.{Rec}
use Rattle.drive_journal.specs.Journal.{AreRecords}
use Rattle.drive_journal.specs.Look.{next_gate}
use Rattle.drive_journal.specs.Record.{closed_record}
use Rattle.offload_law.specs.Sealing.{plan_list_text}
use Rattle.read_back.specs.Back.{WholeCalls}
use Rattle.report_text.specs.Run.{done_text, sealed_text}
use Rattle.seal_step.specs.Parts.{list_parts, drafting}
use Rattle.run_state.specs.Runs.{begins_with}
use Rattle.run_reads.specs.Backs.{IsQuiet, recording_calls}
use Rattle.run_reads.specs.Reads.{card_given}
use Rattle.job_losses.specs.Drops.{records_in}
use Rattle.job_story.specs.Plans.{IsRunPlan}
use Rattle.job_story.specs.Run.{Run}

-- ---- a file

-- The file's copy came to its end: the card was asked for one byte at the file's size and gave none. With the next call this moment was asked. Since then no moment was asked, and no card was read.
pub record IsCopiedAt (f : PlannedFile) (moment : ℕ) (before : List Event) : Type 0 where
  pub past : List Event
  pub since : List Event
  pub is : before ≡ past ++ SourceRead 0 f.path f.size 1 (Some []) ∷ (Moment moment ∷ since)
  pub quiet : AllByRecursion IsQuiet since

-- The last of these calls are, on drive d: a barrier; reads that tile the part to the planned size of file j, and one that asked for one byte there and got none; and those that record the file, right behind its gate. The digests of what was
-- read are those of the record, and those of what the card gave of the file. The record's date is the moment that was asked with the next call after the file's copy.
pub record IsReadBack (p : PlanValue) (d j : ℕ) (f : PlannedFile) (before : List Event) : Type 0 where
  pub front : List Event
  pub back : List Event
  pub rec : Rec
  pub bytes : List ℕ
  pub calls : before ≡ front ++ Sync d true ∷ (back ++ recording_calls d (next_gate p j).at f.path rec)
  pub whole : WholeCalls d part_path f.size bytes back
  pub digests : triple bytes ≡ rec.triple
  pub card : rec.triple ≡ triple (card_given 0 f.path before)
  pub numbers : (rec.index ≡ j) × (rec.size ≡ f.size)
  pub dated : IsCopiedAt f rec.hashed before

-- the line is that of a file of the run's plan, as many as which are recorded on drive d with it, and the file was read back there
pub record IsDoneRightly (run : Run) (d : ℕ) (line : List ℕ) (before : List Event) : Type 0 where
  pub p : PlanValue
  pub plan : IsRunPlan run p
  pub index : ℕ
  pub file : PlannedFile
  pub is_file : slice_get p.files index ≡ Some file
  pub says : line ≡ done_text d (index + 1) (length p.files) file.path
  pub back : IsReadBack p d index file before

-- ---- a list

-- The last of these calls are: a moment is asked; on drive d the list of the plan, of the records that were written to the drive, one of each file in their order, and of that moment is written part by part, and settled; it is read back,
-- and what the reads gave is just its text; and it gets its name, and that is settled.
pub record IsListReadBack (p : PlanValue) (d : ℕ) (before : List Event) : Type 0 where
  pub front : List Event
  pub drafts : List Event
  pub back : List Event
  pub recs : List Rec
  pub finish : ℕ
  pub calls : before ≡ front ++ Moment finish ∷ (drafts ++ (back ++ Rename d new_path (list_of p) true ∷ (Sync d true ∷ [])))
  pub recorded : records_in d front ≡ map closed_record recs
  pub each : AreRecords 0 p.files recs
  pub full : length recs ≡ length p.files
  pub drafted : Ran (drafting d (list_parts p recs finish)) true drafts
  pub whole : WholeCalls d new_path (length (plan_list_text p recs finish)) (plan_list_text p recs finish) back

-- the line is that of the list of the run's plan on drive d, and the list was read back there
pub record IsSealedRightly (run : Run) (d : ℕ) (line : List ℕ) (before : List Event) : Type 0 where
  pub p : PlanValue
  pub plan : IsRunPlan run p
  pub says : line ≡ sealed_text d (length p.files) (list_of p)
  pub back : IsListReadBack p d before

-- ---- lines

-- Before each line `done` of a drive the file was read back there, and before each line `sealed` the list was, whether the line was heard or not.
pub record ReadsBack (run : Run) : Type 0 where
  pub files : (before after : List Event) (d : ℕ) (line : List ℕ) (ok : Bool) → d < 2 ^ 64 → run.events ≡ before ++ Say line ok ∷ after → begins_with (codes "done") d line ≡ true → IsDoneRightly run d line before
  pub lists : (before after : List Event) (d : ℕ) (line : List ℕ) (ok : Bool) → d < 2 ^ 64 → run.events ≡ before ++ Say line ok ∷ after → begins_with (codes "sealed") d line ≡ true → IsSealedRightly run d line before
