-- What a run leaves on a drive that it sealed: docs/MODEL.md, "Runs by turns".
use Rattle.std.specs.Prelude.{◌≡◌, ◌⊎◌, ℕ, ◌≤◌, Bool, true, List, [], ◌∷◌, ◌++◌, length, Some, None}
use Rattle.std.specs.FinMap.{get}
use Rattle.bay_core.specs.declared.event.Event.{Event}
use Rattle.bay_core.specs.declared.event.Event.TheVariants.{Say}
use Rattle.bay_core.specs.Left.{IsSettled}
use Rattle.bay_core.specs.Map.{Map}
use Rattle.bay_core.specs.Paths.{IsScratch, journal_path}
use Rattle.bay_core.specs.Replay.{reads}
use Rattle.path_text.specs.Moment.{last_moment}
use Rattle.copy_plan.specs.declared.file.PlannedFile.{PlannedFile}
use Rattle.copy_plan.specs.Plan.{PlanValue, list_of}
use Rattle.drive_journal.specs.declared.record.Gate.{Gate}
use Rattle.drive_journal.specs.declared.record.Rec.{Rec}
use Rattle.drive_journal.specs.Journal.{HoldsJournal, journal_code}
use Rattle.offload_law.specs.Sealing.{plan_list_text}
use Rattle.offload_law.specs.Stages.{AreRecorded}
use Rattle.recording.specs.Drives.{Copying}
use Rattle.report_text.specs.Run.{sealed_text}
use Rattle.run_state.specs.Runs.{Point, Alone, IsPlanned}
use Rattle.run_state.specs.State.{Ordered, Begun, files_of, drive_at}
use Rattle.run_reads.specs.Backs.{IsDatedAtOnce, IsListReadBack}

-- a path that an offload by this plan leaves otherwise than it was: the journal, the list, or a planned file
abbrev pub IsOfPlan : PlanValue → List ℕ → Type 0
IsOfPlan p q = (q ≡ journal_path) ⊎ (q ≡ list_of p) ⊎ IsPlanned p q

-- The map of a drive that was sealed by this plan, with these records and this finish: there is no scratch file; each planned path has the card's bytes, and its record is
-- true of them; the journal holds the plan with just these records, and where the drive had none, no byte is behind its closed gate, which is 0; the text of
-- the list is under its name; and at every other path is what was there.
pub record IsMadeFinal (card start : Map) (p : PlanValue) (recs : List Rec) (finish : ℕ) (m : Map) : Type 0 where
  pub scratch : (q : List ℕ) → IsScratch q → get m q ≡ None
  pub recorded : AreRecorded card m 0 p.files recs
  pub full : length recs ≡ length p.files
  pub bytes : List ℕ
  pub journal : get m journal_path ≡ Some bytes
  pub holds : HoldsJournal bytes p recs
  pub exact : get start journal_path ≡ None → bytes ≡ journal_code p recs ++ 0 ∷ []
  pub list : get m (list_of p) ≡ Some (plan_list_text p recs finish)
  pub early : finish ≤ last_moment
  pub rest : (q : List ℕ) → (IsScratch q → ⊥) → (IsOfPlan p q → ⊥) → get m q ≡ get start q

-- The run sealed drive d: its line `sealed` was said among these calls; before it the list was read back, with a record of each file; by these records, and by the moment
-- that was asked for the list, the map of the drive is final then, and nothing is pending. The turn that sealed it began at that point, where the drive stood with these records.
pub record WasSealed (Such : PlannedFile → Rec → List Event → Type 0) (o : Ordered) (a : Point) (d : ℕ) (D : Copying) (attached : Map) (past L : List Event) : Type 0 where
  pub before : List Event
  pub after : List Event
  pub says : L ≡ before ++ Say (sealed_text d (files_of o.plan) (list_of o.plan)) true ∷ after
  pub back : IsListReadBack Such o a d before
  pub final : IsMadeFinal D.work.card D.start o.plan back.recs back.finish (reads attached (past ++ L) d)
  pub settled : IsSettled attached (past ++ L) d
  pub point : Point
  pub led : Alone o a point
  pub gate : Gate
  pub kept : Bool
  pub stood : drive_at point.at.drives.each d ≡ Begun back.recs gate kept
  pub there : point.world.events ≡ Some (past ++ back.front)

-- the date of a record is the moment that was asked with the next call after its file's copy
abbrev pub IsDatedSo : Ordered → PlannedFile → Rec → List Event → Type 0
IsDatedSo o f rec L = IsDatedAtOnce o f rec.hashed L
