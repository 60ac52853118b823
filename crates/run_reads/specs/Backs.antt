-- What is read back before a file is said to be done, and before a drive is said to be sealed.
use Rattle.std.specs.Prelude.{◌≡◌, ◌⊎◌, ℕ, ◌+◌, ◌≤◌, Bool, true, List, [], ◌∷◌, ◌++◌, length, codes, Some, Ok}
use Rattle.std.specs.List.{slice_get, AllByRecursion}
use Rattle.bay_core.specs.declared.event.Event.{Event}
use Rattle.bay_core.specs.declared.event.Event.TheVariants.{SourceRead, Write, Sync, Rename, Moment, Say}
use Rattle.bay_core.specs.Paths.{part_path, journal_path}
use Rattle.digest_set.specs.Triple.{triple}
use Rattle.path_text.specs.Moment.{last_moment}
use Rattle.copy_plan.specs.declared.file.PlannedFile.{PlannedFile}
use Rattle.copy_plan.specs.Plan.{list_of}
use Rattle.drive_journal.specs.declared.record.Rec.{Rec}
use Rattle.drive_journal.specs.Journal.{AreRecords}
use Rattle.drive_journal.specs.Look.{next_gate}
use Rattle.drive_journal.specs.Record.{closed_record}
use Rattle.offload_law.specs.Sealing.{plan_list_text}
use Rattle.read_back.specs.Back.{WholeCalls}
use Rattle.report_text.specs.Run.{done_text, sealed_text}
use Rattle.seal_step.specs.Calls.{SealCalls}
use Rattle.seal_step.specs.Parts.{list_parts, joined}
use Rattle.run_state.specs.Acts.{records_at}
use Rattle.run_state.specs.Runs.{Point, begins_with}
use Rattle.run_state.specs.State.{Ordered, Found, files_of, drive_at, is_of_run}
use Rattle.run_reads.specs.Reads.{reads_of, card_given}

-- ---- the date of a record

-- The card was asked for one byte at the file's size and gave none, which ends its copy; then this moment was asked; and since that read the file
-- was not read again.
pub record IsDated (o : Ordered) (f : PlannedFile) (seconds : ℕ) (L : List Event) : Type 0 where
  pub past : List Event
  pub between : List Event
  pub since : List Event
  pub is : L ≡ past ++ SourceRead o.source f.path f.size 1 (Some []) ∷ (between ++ Moment seconds ∷ since)
  pub unread : reads_of o.source f.path (between ++ Moment seconds ∷ since) ≡ []

-- a call that asks for no moment, and reads no card
abbrev pub IsQuiet : Event → Type 0
IsQuiet (Moment seconds) = ⊥
IsQuiet (SourceRead s path at want got) = ⊥
IsQuiet _ = Unit {0}

-- The card was asked for one byte at the file's size and gave none; with the next call this moment was asked; and since then no moment was, and no
-- card was read.
pub record IsDatedAtOnce (o : Ordered) (f : PlannedFile) (seconds : ℕ) (L : List Event) : Type 0 where
  pub past : List Event
  pub since : List Event
  pub is : L ≡ past ++ SourceRead o.source f.path f.size 1 (Some []) ∷ (Moment seconds ∷ since)
  pub quiet : AllByRecursion IsQuiet since

-- this record is the one that was made of its file, for all drives, and its date is such
abbrev pub IsTheRecord : (PlannedFile → ℕ → List Event → Type 0) → (ℕ → Rec) → PlannedFile → Rec → List Event → Type 0
IsTheRecord Date record_of f rec L = (rec ≡ record_of rec.index) × Date f rec.hashed L

-- ---- a file

-- the calls that give the part its path and record the file: rename, record, barrier, open gate, barrier
abbrev pub recording_calls : ℕ → ℕ → List ℕ → Rec → List Event
recording_calls e gate path rec = Rename e part_path path true ∷ (Write e journal_path (gate + 1) (closed_record rec) true ∷ (Sync e true ∷ (Write e journal_path gate (1 ∷ []) true ∷ (Sync e true ∷ []))))

-- The last of these calls are, on drive e: a barrier; reads that tile the part to the planned size of file i, and one that asked for one byte there
-- and gave none; and those that record the file, right behind the gate. The digests of what was read are those of the record, and those of
-- what the card's reads of the file gave; and the record is such.
pub record IsReadBack (Such : PlannedFile → Rec → List Event → Type 0) (o : Ordered) (e i : ℕ) (f : PlannedFile) (rec : Rec) (L : List Event) : Type 0 where
  pub front : List Event
  pub back : List Event
  pub bytes : List ℕ
  pub calls : L ≡ front ++ Sync e true ∷ (back ++ recording_calls e (next_gate o.plan i).at f.path rec)
  pub whole : WholeCalls e part_path f.size bytes back
  pub numbers : (rec.index ≡ i) × (rec.size ≡ f.size)
  pub digests : triple bytes ≡ rec.triple
  pub card : rec.triple ≡ triple (card_given o.source f.path L)
  pub such : Such f rec L

-- the line is that of a file of the plan on drive e, and the file was read back there
pub record IsDoneRightly (Such : PlannedFile → Rec → List Event → Type 0) (o : Ordered) (e : ℕ) (line : List ℕ) (before : List Event) : Type 0 where
  pub index : ℕ
  pub file : PlannedFile
  pub is_file : slice_get o.plan.files index ≡ Some file
  pub says : line ≡ done_text e (index + 1) (files_of o.plan) file.path
  pub rec : Rec
  pub back : IsReadBack Such o e index file rec before

-- ---- a list

-- this record was made on drive e: a first part of these calls ends with the read-back of its file there, and the record right behind the gate of its number
pub record IsMadeOn (Such : PlannedFile → Rec → List Event → Type 0) (o : Ordered) (e : ℕ) (L : List Event) (rec : Rec) : Type 0 where
  pub file : PlannedFile
  pub is_file : slice_get o.plan.files rec.index ≡ Some file
  pub front : List Event
  pub back : List Event
  pub is : L ≡ front ++ back
  pub read : IsReadBack Such o e rec.index file rec front

-- these are records of all files of the plan, in their order: those with which drive e was found, and behind them those that were made there since
pub record AreRecordsOf (Such : PlannedFile → Rec → List Event → Type 0) (o : Ordered) (a : Point) (e : ℕ) (recs : List Rec) (L : List Event) : Type 0 where
  pub made : List Rec
  pub is : recs ≡ records_at (drive_at a.at.drives.each e) ++ made
  pub each : AreRecords 0 o.plan.files recs
  pub full : length recs ≡ files_of o.plan
  pub on_drive : AllByRecursion (IsMadeOn Such o e L) made

-- The last of these calls are: the moment of the list is asked; on drive e the list of the plan, its records and that moment is written and
-- settled; it is read back whole, and is equal to what was written; and it gets its name, and that is settled.
pub record IsListReadBack (Such : PlannedFile → Rec → List Event → Type 0) (o : Ordered) (a : Point) (e : ℕ) (L : List Event) : Type 0 where
  pub front : List Event
  pub sealing : List Event
  pub finish : ℕ
  pub early : finish ≤ last_moment
  pub recs : List Rec
  pub recorded : AreRecordsOf Such o a e recs front
  pub calls : L ≡ front ++ Moment finish ∷ sealing
  pub text : joined (list_parts o.plan recs finish) ≡ plan_list_text o.plan recs finish
  pub sealed : SealCalls e (list_of o.plan) (list_parts o.plan recs finish) (Ok tt) sealing

-- the line is that of the plan's list on drive e, which was found sealed, or whose list was read back
pub record IsSealedRightly (Such : PlannedFile → Rec → List Event → Type 0) (o : Ordered) (a : Point) (e : ℕ) (line : List ℕ) (before : List Event) : Type 0 where
  pub says : line ≡ sealed_text e (files_of o.plan) (list_of o.plan)
  pub back : ((recs : List Rec) × (drive_at a.at.drives.each e ≡ Found recs)) ⊎ IsListReadBack Such o a e before

-- ---- lines

-- each line `done` and each line `sealed` of a drive of the run, whether it was said or not, is said rightly
pub record AreSaidRightly (Such : PlannedFile → Rec → List Event → Type 0) (o : Ordered) (a : Point) (L : List Event) : Type 0 where
  pub done : (e : ℕ) → is_of_run a.at.drives e ≡ true → (before after : List Event) (line : List ℕ) (ok : Bool) → L ≡ before ++ Say line ok ∷ after
      → begins_with (codes "done") e line ≡ true → IsDoneRightly Such o e line before
  pub sealed : (e : ℕ) → is_of_run a.at.drives e ≡ true → (before after : List Event) (line : List ℕ) (ok : Bool) → L ≡ before ++ Say line ok ∷ after
      → begins_with (codes "sealed") e line ≡ true → IsSealedRightly Such o a e line before

-- The lines are said rightly. Of each file one record was made, for all drives, and its date is such.
pub record LinesReadBack (Date : PlannedFile → ℕ → List Event → Type 0) (o : Ordered) (a : Point) (L : List Event) : Type 0 where
  pub record_of : ℕ → Rec
  pub lines : AreSaidRightly (IsTheRecord Date record_of) o a L
