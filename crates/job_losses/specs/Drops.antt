-- Why a run of a job drops a drive, and what shows it: docs/FORMATS.md, "Lines".
use Rattle.std.specs.Prelude.{◌≡◌, ◌⊎◌, ℕ, ◌^◌, ◌<◌, Bool, true, ◌&&◌, nat_eq, if◌then◌else◌, List, [], ◌∷◌, ◌++◌, length, map, codes, Some, Err}
use Rattle.std.specs.List.{slice_get, flat_map}
use Rattle.std.specs.Str.{bytes_eq}
use Rattle.bay_core.specs.declared.event.Event.{Event}
use Rattle.bay_core.specs.declared.event.Event.TheVariants.{Write, Sync, Moment, Say}
use Rattle.bay_core.specs.Map.{Map}
use Rattle.bay_core.specs.Paths.{journal_path, part_path}
use Rattle.bay_core.specs.Replay.{Device, Drive}
use Rattle.bay_core.specs.Went.{Ran}
use Rattle.bay_core.specs.World.{Rose}
use Rattle.digest_set.specs.Triple.{triple}
use Rattle.copy_plan.specs.declared.file.PlannedFile.{PlannedFile}
use Rattle.copy_plan.specs.Plan.{PlanValue, list_of}
use Rattle.drive_journal.specs.declared.record.Rec.{Rec}
use Rattle.drive_journal.specs.Record.{closed_record}
use Rattle.offload_law.specs.Sealing.{plan_list_text}
use Rattle.read_back.specs.declared.back.ReadBackError.{ReadBackError}
use Rattle.read_back.specs.declared.back.ReadBackError.TheVariants.{Absent, Length, Differs}
use Rattle.read_back.specs.Back.{ReadBackCalls}
use Rattle.seal_step.specs.declared.error.SealError.{SealError}
use Rattle.seal_step.specs.declared.error.SealError.TheVariants.{Absent as ListAbsent, Byte as ListByte, Length as ListLength}
use Rattle.seal_step.specs.Parts.{list_parts, drafting}
use Rattle.seal_step.specs.Reading.{BackCalls}
use Rattle.run_state.specs.Runs.{begins_with}
use Rattle.run_reads.specs.Reads.{card_given}
use Rattle.run_ends.specs.Losses.{Loss, ByFault, ByAbsence, ByLength, ByDigests, ByByte, loss_text}
use Rattle.job_story.specs.Plans.{IsRunPlan}
use Rattle.job_story.specs.Run.{Run, IsHonest}

-- the count of a device rose in the run, or stands at its end
abbrev pub Rises : Run → Device → Type 0
Rises run x = Rose (run.before.faults x) (run.after.faults x)

-- ---- what was read back

-- The last of these calls are a barrier of drive d and reads of its part. They gave this of a planned file, against its planned size and the digests of what the card's
-- reads of it gave.
pub record PartSaw (p : PlanValue) (d : ℕ) (path : List ℕ) (e : ReadBackError) (before : List Event) : Type 0 where
  pub index : ℕ
  pub file : PlannedFile
  pub is_file : slice_get p.files index ≡ Some file
  pub is_path : path ≡ file.path
  pub front : List Event
  pub back : List Event
  pub calls : before ≡ front ++ Sync d true ∷ back
  pub bytes : List ℕ
  pub saw : ReadBackCalls d part_path file.size (triple (card_given 0 file.path before)) (Err e) bytes back

-- the record, of 65 bytes with the closed gate behind it, that this call wrote to the journal of drive d
abbrev pub record_in : ℕ → Event → List (List ℕ)
record_in d (Write e path at bytes true) = if nat_eq d e && (bytes_eq path journal_path && nat_eq (length bytes) 65) then bytes ∷ [] else []
record_in d _ = []

-- the records that were written to it, one after another
abbrev pub records_in : ℕ → List Event → List (List ℕ)
records_in d L = flat_map (record_in d) L

-- The last of these calls are: the moment of the list is asked; the list of the plan, of the records that were written to the drive, one of each file, and of that moment
-- is written to the drive part by part, and settled; and reads of it, which gave this of its text.
pub record ListSaw (p : PlanValue) (d : ℕ) (path : List ℕ) (e : SealError) (before : List Event) : Type 0 where
  pub is_path : path ≡ list_of p
  pub recs : List Rec
  pub full : length recs ≡ length p.files
  pub finish : ℕ
  pub front : List Event
  pub drafts : List Event
  pub back : List Event
  pub calls : before ≡ front ++ Moment finish ∷ (drafts ++ back)
  pub recorded : records_in d front ≡ map closed_record recs
  pub drafted : Ran (drafting d (list_parts p recs finish)) true drafts
  pub saw : BackCalls d (plan_list_text p recs finish) (Err e) back

-- what the last calls saw of drive d, by its loss; of a fault it is the count that shows it
abbrev pub Saw : PlanValue → ℕ → Loss → List Event → Type 0
Saw p d ByFault before = ⊥
Saw p d (ByAbsence path) before = PartSaw p d path Absent before ⊎ ListSaw p d path ListAbsent before
Saw p d (ByLength recorded read path) before = PartSaw p d path (Length recorded read) before ⊎ ListSaw p d path (ListLength recorded read) before
Saw p d (ByDigests recorded read path) before = PartSaw p d path (Differs recorded read) before
Saw p d (ByByte at written read path) before = ListSaw p d path (ListByte at written read) before

-- ---- lines

-- what shows that drive d was lost so: that its count rose; or what was read back before, by the run's plan
abbrev pub Shows : Run → ℕ → Loss → List Event → Type 0
Shows run d ByFault before = Rises run (Drive d)
Shows run d loss before = (p : PlanValue) × IsRunPlan run p × Saw p d loss before

-- The line is that of a loss of drive d, which is shown. An honest drive is lost by a fault alone, so only where its own count rose.
pub record HasCause (run : Run) (d : ℕ) (line : List ℕ) (before : List Event) : Type 0 where
  pub loss : Loss
  pub says : line ≡ loss_text d loss
  pub shows : Shows run d loss before
  pub honest : (start : Map) → IsHonest run d start → loss ≡ ByFault

-- each line `dropped` of a drive, whether it was said or not, has its cause before it
abbrev pub DropsRightly : Run → Type 0
DropsRightly run = (before after : List Event) (d : ℕ) (line : List ℕ) (ok : Bool) → d < 2 ^ 64 → run.events ≡ before ++ Say line ok ∷ after
    → begins_with (codes "dropped") d line ≡ true → HasCause run d line before
