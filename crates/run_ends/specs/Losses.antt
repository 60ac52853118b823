-- Why a drive is lost in a run, and what shows it: docs/FORMATS.md, "Lines".
use Rattle.std.specs.Prelude.{◌≡◌, ℕ, Bool, true, ◌⊎◌, List, ◌∷◌, ◌++◌, codes, Some, Err}
use Rattle.std.specs.List.{slice_get}
use Rattle.bay_core.specs.declared.event.Event.{Event}
use Rattle.bay_core.specs.declared.event.Event.TheVariants.{Moment, Say, Sync}
use Rattle.bay_core.specs.Paths.{part_path}
use Rattle.bay_core.specs.Replay.{Drive}
use Rattle.bay_core.specs.World.{Rose}
use Rattle.bay_core.specs.Went.{Ran}
use Rattle.digest_set.specs.declared.triple.Triple.{Triple}
use Rattle.copy_plan.specs.declared.file.PlannedFile.{PlannedFile}
use Rattle.copy_plan.specs.Plan.{list_of}
use Rattle.drive_journal.specs.declared.record.Rec.{Rec}
use Rattle.offload_law.specs.Sealing.{plan_list_text}
use Rattle.read_back.specs.declared.back.ReadBackError.{ReadBackError}
use Rattle.read_back.specs.declared.back.ReadBackError.TheVariants.{Absent, Length, Differs}
use Rattle.read_back.specs.Back.{ReadBackCalls}
use Rattle.report_text.specs.Losses.{dropped_fault_text, dropped_absent_text, dropped_length_text, dropped_altered_text, dropped_byte_text}
use Rattle.seal_step.specs.declared.error.SealError.{SealError}
use Rattle.seal_step.specs.declared.error.SealError.TheVariants.{Absent as ListAbsent, Byte as ListByte, Length as ListLength}
use Rattle.seal_step.specs.Parts.{list_parts, drafting}
use Rattle.seal_step.specs.Reading.{BackCalls}
use Rattle.run_state.specs.Runs.{Point, begins_with}
use Rattle.run_state.specs.State.{Ordered, is_of_run}
use Rattle.run_ends.specs.Known.{IsHonest}
use Rattle.run_ends.specs.Reads.{IsCopiedBetween}

-- Why a drive is lost: a call on it failed; or the file of a path was read back, and was not there, had another length, other digests, or another
-- byte at a place. Of two values the first is the recorded or written one, the second the one that was read.
pub data Loss : Type 0 where
  ByFault : Loss
  ByAbsence : List ℕ → Loss
  ByLength : ℕ → ℕ → List ℕ → Loss
  ByDigests : Triple → Triple → List ℕ → Loss
  ByByte : ℕ → ℕ → ℕ → List ℕ → Loss

-- the line of a loss
abbrev pub loss_text : ℕ → Loss → List ℕ
loss_text d ByFault = dropped_fault_text d
loss_text d (ByAbsence path) = dropped_absent_text d path
loss_text d (ByLength recorded read path) = dropped_length_text d recorded read path
loss_text d (ByDigests recorded read path) = dropped_altered_text d recorded read path
loss_text d (ByByte at written read path) = dropped_byte_text d at written read path

-- The last of these calls are a barrier of drive d and reads of its part: the file with this path, which came whole with those digests, was read
-- back so.
pub record PartSaw (o : Ordered) (a b : Point) (d : ℕ) (path : List ℕ) (e : ReadBackError) (before : List Event) : Type 0 where
  pub index : ℕ
  pub file : PlannedFile
  pub is_file : slice_get o.plan.files index ≡ Some file
  pub is_path : path ≡ file.path
  pub digests : Triple
  pub whole : IsCopiedBetween o a b index digests
  pub front : List Event
  pub back : List Event
  pub calls : before ≡ front ++ Sync d true ∷ back
  pub bytes : List ℕ
  pub saw : ReadBackCalls d part_path file.size digests (Err e) bytes back

-- The last of these calls are: the moment of the list is asked; the list is written to drive d, part by part, and settled; and it was read back so.
pub record ListSaw (o : Ordered) (d : ℕ) (path : List ℕ) (e : SealError) (before : List Event) : Type 0 where
  pub is_path : path ≡ list_of o.plan
  pub recs : List Rec
  pub finish : ℕ
  pub front : List Event
  pub drafts : List Event
  pub back : List Event
  pub calls : before ≡ front ++ Moment finish ∷ (drafts ++ back)
  pub drafted : Ran (drafting d (list_parts o.plan recs finish)) true drafts
  pub saw : BackCalls d (plan_list_text o.plan recs finish) (Err e) back

-- what the last calls saw of drive d, by its loss
abbrev pub Saw : Ordered → Point → Point → ℕ → Loss → List Event → Type 0
Saw o a b d ByFault before = Unit {0}
Saw o a b d (ByAbsence path) before = PartSaw o a b d path Absent before ⊎ ListSaw o d path ListAbsent before
Saw o a b d (ByLength recorded read path) before = PartSaw o a b d path (Length recorded read) before ⊎ ListSaw o d path (ListLength recorded read) before
Saw o a b d (ByDigests recorded read path) before = PartSaw o a b d path (Differs recorded read) before
Saw o a b d (ByByte at written read path) before = ListSaw o d path (ListByte at written read) before

-- the line is that of a loss of drive d, and has its cause: the count of the drive rose since a, or the calls before the line saw what it says
pub record HasCause (o : Ordered) (a b : Point) (d : ℕ) (line : List ℕ) (before : List Event) : Type 0 where
  pub loss : Loss
  pub says : line ≡ loss_text d loss
  pub fault : loss ≡ ByFault → Rose (a.world.faults (Drive d)) (b.world.faults (Drive d))
  pub saw : Saw o a b d loss before

-- each line `dropped` of a drive of the run, whether it was said or not, has its cause before it
pub record LosesRightly (o : Ordered) (a b : Point) (L : List Event) : Type 0 where
  pub each : (d : ℕ) → is_of_run a.at.drives d ≡ true → (before after : List Event) (line : List ℕ) (ok : Bool) → L ≡ before ++ Say line ok ∷ after
      → begins_with (codes "dropped") d line ≡ true → HasCause o a b d line before

-- each line `dropped` of an honest drive of the run is that of a fault
pub record LosesByFaults (a : Point) (L : List Event) : Type 0 where
  pub each : (d : ℕ) → is_of_run a.at.drives d ≡ true → IsHonest a.world d → (before after : List Event) (line : List ℕ) (ok : Bool) → L ≡ before ++ Say line ok ∷ after
      → begins_with (codes "dropped") d line ≡ true → line ≡ dropped_fault_text d
