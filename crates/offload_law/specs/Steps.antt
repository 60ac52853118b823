-- The changes of an offload on a drive, as a protocol.
use Rattle.std.specs.Prelude.{◌≡◌, ◌≢◌, ◌⊎◌, ℕ, ◌<◌, ◌≤◌, Bool, List, [], ◌∷◌, ◌++◌, length, Some, None}
use Rattle.std.specs.FinMap.{get}
use Rattle.bay_core.specs.declared.event.Event.{Event}
use Rattle.bay_core.specs.declared.event.Event.TheVariants.{Write, Rename, Remove}
use Rattle.bay_core.specs.Map.{Map}
use Rattle.bay_core.specs.Paths.{IsScratch, journal_path, new_path}
use Rattle.path_text.specs.Moment.{last_moment}
use Rattle.crash_law.specs.Protocol.{Protocol}
use Rattle.copy_plan.specs.declared.file.PlannedFile.{PlannedFile}
use Rattle.copy_plan.specs.Plan.{PlanValue, list_of}
use Rattle.drive_journal.specs.declared.record.Rec.{Rec}
use Rattle.drive_journal.specs.Record.{record_code}
use Rattle.drive_journal.specs.Journal.{HoldsJournal, journal_code}
use Rattle.offload_law.specs.Sealing.{plan_list_text}
use Rattle.offload_law.specs.Lines.{announces}
use Rattle.offload_law.specs.Stages.{Offload, Stage, Fresh, Begun, Sealed, IsTrueRecord, card_bytes, progress, IsAt, KeepsRest}

-- the file whose record is the next
pub record IsNext (p : PlanValue) (recs : List Rec) (f : PlannedFile) : Type 0 where
  pub before : List PlannedFile
  pub after : List PlannedFile
  pub is : p.files ≡ before ++ f ∷ after
  pub place : length before ≡ length recs

-- a path whose bytes do not count at the stage: a scratch path, or that of the next file
abbrev pub IsFree : PlanValue → Stage → List ℕ → Type 0
IsFree p (Begun recs) q = IsScratch q ⊎ ((f : PlannedFile) × IsNext p recs f × (q ≡ f.path))
IsFree p _ q = IsScratch q

-- a place in the journal behind its closed gate
abbrev pub IsBehindGate : PlanValue → Stage → ℕ → Type 0
IsBehindGate p (Begun recs) at = length (journal_code p recs) < at
IsBehindGate p _ at = ⊥

-- a change of what does not count at the stage
abbrev pub Prepares : PlanValue → Stage → Event → Type 0
Prepares p s (Write d path at piece ok) = IsFree p s path ⊎ ((path ≡ journal_path) × IsBehindGate p s at)
Prepares p s (Rename d from to ok) = IsFree p s from × IsFree p s to
Prepares p s (Remove d path ok) = IsFree p s path
Prepares p s _ = ⊥

-- a read gives a journal of the plan with no record, which waits for its name, and no list
pub record IsDrafted (p : PlanValue) (m : Map) : Type 0 where
  pub bytes : List ℕ
  pub stands : get m new_path ≡ Some bytes
  pub holds : HoldsJournal bytes p []
  pub no_list : get m (list_of p) ≡ None

-- a read gives the record of the next file right behind the gate, a closed gate behind it, and the file whole; the record is true of it
pub record IsStaged (o : Offload) (m : Map) (recs : List Rec) (rec : Rec) : Type 0 where
  pub file : PlannedFile
  pub next : IsNext o.plan recs file
  pub gate : ℕ
  pub next_gate : ℕ
  pub rest : List ℕ
  pub stands : get m journal_path ≡ Some (journal_code o.plan recs ++ gate ∷ (record_code rec ++ next_gate ∷ rest))
  pub closed : next_gate ≢ 1
  pub sized : rec.size ≡ file.size
  pub true_record : IsTrueRecord (length recs) (card_bytes o.card file) rec
  pub whole : get m file.path ≡ Some (card_bytes o.card file)

-- the change that leads from one stage to the next, over what a read gives
pub data Commits (o : Offload) (m : Map) : Stage → Event → Stage → Type 0 where
  publishes : {d : ℕ} {ok : Bool} → IsDrafted o.plan m → Commits o m Fresh (Rename d new_path journal_path ok) (Begun [])
  opens : {d : ℕ} {ok : Bool} {recs : List Rec} {rec : Rec} → IsStaged o m recs rec → Commits o m (Begun recs) (Write d journal_path (length (journal_code o.plan recs)) (1 ∷ []) ok) (Begun (recs ++ rec ∷ []))
  seals : {d : ℕ} {ok : Bool} {recs : List Rec} {finish : ℕ} → length recs ≡ length o.plan.files → get m new_path ≡ Some (plan_list_text o.plan recs finish) → finish ≤ last_moment → Commits o m (Begun recs) (Rename d new_path (list_of o.plan) ok) (Sealed recs finish)

-- the stage is on the map, and the rest is that of the base
pub record Holds (o : Offload) (base : Map) (s : Stage) (m : Map) : Type 0 where
  pub at : IsAt o m s
  pub rest : KeepsRest o.plan m base (progress o.plan s)

-- an offload onto drive d, which had this map
abbrev pub offload : ℕ → Offload → Map → Protocol
offload d o base = record {
  Stage = Stage;
  At = Holds o base;
  progress = progress o.plan;
  announces = announces d (length o.plan.files);
  Prepares = Prepares o.plan;
  Commits = Commits o;
}
