-- What one act of a run did: its calls, what came of it, its line, and where the run then stands.
use Rattle.std.specs.Prelude.{◌≡◌, ◌≢◌, ◌⊎◌, ℕ, ◌+◌, ◌≤◌, Bool, true, false, ◌&&◌, nat_eq, nat_le, if◌then◌else◌, List, [], ◌∷◌, ◌++◌, length, slice_set, Option, Some, None, Result, Ok, Err, IfOk, is_ok, is_some, option_map}
use Rattle.std.specs.List.{slice_get}
use Rattle.std.specs.Str.{bytes_eq}
use Rattle.bay_core.specs.declared.event.Event.TheVariants.{Moment}
use Rattle.bay_core.specs.Crashes.{Rests}
use Rattle.bay_core.specs.Map.{Map, content}
use Rattle.bay_core.specs.Paths.{journal_path}
use Rattle.bay_core.specs.Replay.{Drive, Output, Clock}
use Rattle.bay_core.specs.World.{World, Steady}
use Rattle.bay_core.specs.Went.{Went, Only, Called, Tried, Ran, IsCall, say_call}
use Rattle.block_pool.specs.Lent.{PoolState}
use Rattle.digest_set.specs.declared.triple.Triple.{Triple}
use Rattle.path_text.specs.Moment.{last_moment}
use Rattle.copy_plan.specs.declared.file.PlannedFile.{PlannedFile}
use Rattle.copy_plan.specs.Fields.{plan_code}
use Rattle.copy_plan.specs.Plan.{PlanValue, list_of}
use Rattle.drive_journal.specs.declared.order.Listed.{Listed}
use Rattle.drive_journal.specs.declared.record.Gate.{Gate}
use Rattle.drive_journal.specs.declared.record.Rec.{Rec}
use Rattle.drive_journal.specs.Calls.{tidied, tidy_calls, publish_calls}
use Rattle.drive_journal.specs.Journal.{IsShape}
use Rattle.drive_journal.specs.Look.{next_gate}
use Rattle.drive_journal.specs.Steps.{IsTidied, Turns, NoScratch, IsThere}
use Rattle.fan_core.specs.Flags.{lowest}
use Rattle.fan_copier.specs.declared.copy.FileCopy.{FileCopy}
use Rattle.fan_copier.specs.declared.turn.Turn.{Turn}
use Rattle.fan_copier.specs.declared.turn.Turn.TheVariants.{Going as CopyGoes, Dropped, Copied, SourceFailed as CardFailed, Changed as CardChanged, NoDrive as NoneLeft}
use Rattle.fan_copier.specs.Copying.{card_of, size_of, live_of, slots_at_most, Copying}
use Rattle.fan_copier.specs.Turning.{Turned as CopyTurned, Touches, AreCopyCalls, GoOn, TurnCause, IsChanged}
use Rattle.offload_law.specs.Sealing.{plan_list_text}
use Rattle.report_text.specs.Run.{begun_text, done_text, sealed_text, clear_text}
use Rattle.report_text.specs.Losses.{dropped_fault_text, dropped_absent_text, dropped_length_text, dropped_altered_text, dropped_byte_text}
use Rattle.read_back.specs.declared.back.ReadBackError.{ReadBackError}
use Rattle.read_back.specs.declared.back.ReadBackError.TheVariants.{DriveFailed as BackFailed, Absent as BackAbsent, Length as BackLength, Differs}
use Rattle.recording.specs.Beginning.{Begins as BeginsSafely, Cleared, Rejoins}
use Rattle.recording.specs.Filing.{RecordCalls, RecordCause, Records as RecordsSafely, FailsAlone as RecordFailsAlone, Cleans}
use Rattle.seal_step.specs.declared.error.SealError.{SealError}
use Rattle.seal_step.specs.declared.error.SealError.TheVariants.{DriveFailed as SealFailed, Absent as ListAbsent, Byte as ListByte, Length as ListLength}
use Rattle.seal_step.specs.Calls.{SealCalls, SealCause, FailsAlone as SealFailsAlone}
use Rattle.seal_step.specs.Parts.{list_parts, joined}
use Rattle.seal_step.specs.Sealing.{Seals as SealsSafely}
use Rattle.run_state.specs.declared.outcome.Outcome.{Outcome}
use Rattle.run_state.specs.declared.outcome.Outcome.TheVariants.{Going, Finished, NoDrive, SourceFailed, Changed, Altered, OutFailed}
use Rattle.run_state.specs.declared.phase.Phase.{Phase}
use Rattle.run_state.specs.declared.phase.Phase.TheVariants.{Copies, Dates, Records, Ended}
use Rattle.run_state.specs.Copies.{Opens}
use Rattle.run_state.specs.State.{Ordered, DriveAt, Gone, Fresh, Begun, Found, Sealed, Drives, At, Journaled, files_of, drive_at, IsDueNowhere, after_begin, after_file, after_record, after_seal}

-- ---- lines, and where the run stands

-- a line, said or not
abbrev pub Says : List ℕ → Bool → World → World → Type 0
Says line ok old new = Called Output (Ran (say_call line ∷ []) ok) ok old new

-- the run goes on with this, or ends, since its line was not said
abbrev pub Goes : Bool → Phase → At → Type 0
Goes true next new = (new.phase ≡ next) × (new.outcome ≡ Going)
Goes false next new = (new.phase ≡ Ended) × (new.outcome ≡ OutFailed)

-- the run has ended so
abbrev pub Ends : Outcome → At → Type 0
Ends outcome new = (new.phase ≡ Ended) × (new.outcome ≡ outcome)

-- drive d stands so, and each other drive as before
pub record Puts (d : ℕ) (now : DriveAt) (old new : List DriveAt) : Type 0 where
  pub count : length new ≡ length old
  pub here : drive_at new d ≡ now
  pub others : (k : ℕ) → k ≢ d → drive_at new k ≡ drive_at old k

-- drive d stands so, and the sets of the lines `sealed` and `dropped` are as before
pub record Moves (d : ℕ) (now : DriveAt) (old new : Drives) : Type 0 where
  pub each : Puts d now old.each new.each
  pub sealed : new.sealed ≡ old.sealed
  pub dropped : new.dropped ≡ old.dropped

-- drive d was dropped: it is gone, and its line `dropped` was said, or tried where the run ended by it
pub record Drops (d : ℕ) (old new : Drives) : Type 0 where
  pub each : Puts d Gone old.each new.each
  pub sealed : new.sealed ≡ old.sealed
  pub dropped : new.dropped ≡ slice_set old.dropped d true

-- drive d is sealed, and its line `sealed` was said, or tried where the run ended by it
pub record SealsDrive (d : ℕ) (old new : Drives) : Type 0 where
  pub each : Puts d Sealed old.each new.each
  pub sealed : new.sealed ≡ slice_set old.sealed d true
  pub dropped : new.dropped ≡ old.dropped

-- nothing was done, and the run goes on with this
pub record Passes (next : Phase) (old : Drives) (new : At) (before after : World) : Type 0 where
  pub drives : new.drives ≡ old
  pub goes : Goes true next new
  pub idle : after ≡ before

-- ---- a drive is begun, or goes on

-- the path of the file whose record is the next, if there is one more
abbrev pub next_path : PlanValue → List Rec → Option (List ℕ)
next_path p recs = option_map (λ (f : PlannedFile). f.path) (slice_get p.files (length recs))

-- the journal of a plan with no record, as it is published: the code of the plan and a closed gate
abbrev pub new_journal : PlanValue → List ℕ
new_journal p = plan_code p ++ 0 ∷ []

-- what was tried on a drive that stood so: its journal was published, or its scratch files were removed
abbrev pub BeginTried : PlanValue → ℕ → DriveAt → Bool → World → World → Type 0
BeginTried p d Fresh ok old new = Tried d (tidy_calls d None false ++ publish_calls d journal_path (new_journal p)) ok old new
    × BeginsSafely d (new_journal p) ok old new × Cleared d ok old new
BeginTried p d (Begun recs gate kept) ok old new = Tried d (tidy_calls d (next_path p recs) kept) ok old new
    × Rejoins d (next_path p recs) old new × Turns d (IsTidied (tidied (next_path p recs) kept)) ok old new
BeginTried p d _ ok old new = ⊥

-- where a drive stands once it is begun, and its records then
abbrev pub begun_at : PlanValue → DriveAt → DriveAt
begun_at p Fresh = Begun [] (next_gate p 0) false
begun_at p x = x

abbrev pub records_at : DriveAt → List Rec
records_at (Begun recs gate kept) = recs
records_at (Found recs) = recs
records_at _ = []

-- the line of a drive that is begun, or that was lost
abbrev pub begin_line : ℕ → ℕ → ℕ → Bool → List ℕ
begin_line d records n true = begun_text d records n
begin_line d records n false = dropped_fault_text d

-- the drive stands so where the act went well, and else it was dropped
abbrev pub MovesOrDrops : ℕ → Bool → DriveAt → Drives → Drives → Type 0
MovesOrDrops d true now old new = Moves d now old new
MovesOrDrops d false now old new = Drops d old new

-- a drive that stood so was begun, or was lost, and its line was said
pub record BegunAloud (o : Ordered) (d : ℕ) (was : DriveAt) (old : Drives) (new : At) (before after : World) : Type 0 where
  pub ok : Bool
  pub mid : World
  pub tried : BeginTried o.plan d was ok before mid
  pub said : Bool
  pub line : Says (begin_line d (length (records_at was)) (files_of o.plan) ok) said mid after
  pub stands : MovesOrDrops d ok (begun_at o.plan was) old new.drives
  pub goes : Goes said (after_begin (length old.each) d) new

-- the turn of drive d, which stood so: a drive that is gone or sealed is passed over
abbrev pub BeginTurn : Ordered → ℕ → DriveAt → Drives → At → World → World → Type 0
BeginTurn o d Fresh old new before after = BegunAloud o d Fresh old new before after
BeginTurn o d (Begun recs gate kept) old new before after = BegunAloud o d (Begun recs gate kept) old new before after
BeginTurn o d _ old new before after = Passes (after_begin (length old.each) d) old new before after

-- ---- the drives of a file are chosen

-- a copy of file i began
pub record Opened (o : Ordered) (i : ℕ) (old : Drives) (new : At) (before after : World) : Type 0 where
  pub file : PlannedFile
  pub is_file : slice_get o.plan.files i ≡ Some file
  pub copy : FileCopy
  pub opens : Opens o old.each i file.size copy
  pub some : lowest (live_of copy) ≢ None
  pub drives : new.drives ≡ old
  pub goes : Goes true (Copies i copy) new
  pub idle : after ≡ before

-- a copy began, or the file is due on no drive and is passed over
abbrev pub FileTurn : Ordered → ℕ → Drives → At → World → World → Type 0
FileTurn o i old new before after = Opened o i old new before after ⊎ (IsDueNowhere i old.each × Passes (after_file (files_of o.plan) i) old new before after)

-- ---- a file is copied

-- what is done after a drive of a copy was dropped: the copy goes on if a drive is left
abbrev pub copies_on : ℕ → ℕ → FileCopy → Phase
copies_on n i copy = if is_some (lowest (live_of copy)) then Copies i copy else after_file n i

-- a drive of a copy was dropped, and its line was said
pub record CopyDrops (n i d : ℕ) (copy : FileCopy) (old : Drives) (new : At) (before after : World) : Type 0 where
  pub drops : Drops d old new.drives
  pub said : Bool
  pub line : Says (dropped_fault_text d) said before after
  pub goes : Goes said (copies_on n i copy) new

-- where the run stands after a turn of its copy that came to this
abbrev pub CopySettles : ℕ → ℕ → Turn → FileCopy → Drives → At → World → World → Type 0
CopySettles n i CopyGoes copy old new before after = (new.drives ≡ old) × Goes true (Copies i copy) new × (after ≡ before)
CopySettles n i (Dropped d) copy old new before after = CopyDrops n i d copy old new before after
CopySettles n i (Copied t) copy old new before after = (new.drives ≡ old) × Goes true (Dates i t) new × (after ≡ before)
CopySettles n i CardFailed copy old new before after = (new.drives ≡ old) × Ends SourceFailed new × (after ≡ before)
CopySettles n i (CardChanged listed read) copy old new before after = (new.drives ≡ old) × Ends (Changed i listed read) new × (after ≡ before)
CopySettles n i NoneLeft copy old new before after = ⊥

-- one turn of the copy of file i
pub record CopyActed (o : Ordered) (i : ℕ) (copy : FileCopy) (old : Drives) (new : At) (pool pool_after : PoolState) (before after : World) : Type 0 where
  pub file : PlannedFile
  pub is_file : slice_get o.plan.files i ≡ Some file
  pub came : Turn
  pub next : FileCopy
  pub mid : World
  pub between : PoolState
  pub same : (card_of next ≡ card_of copy) × (size_of next ≡ size_of copy) × (slots_at_most next ≡ slots_at_most copy)
  pub go_on : GoOn came (live_of copy) (live_of next)
  pub touches : Went (Touches (card_of copy) (live_of copy)) (AreCopyCalls (card_of copy) file.path) before mid
  pub cause : TurnCause (card_of copy) came before mid
  pub steady : (m : Map) → Steady before (card_of copy) m → length (content m file.path) ≡ size_of copy → IsChanged came → ⊥
  pub turned : (bytes : List ℕ) → Copying copy pool before bytes → CopyTurned file.path copy next between before mid bytes came
  pub settles : CopySettles (files_of o.plan) i came next old new mid after
  pub same_pool : new.phase ≡ Copies i next → pool_after ≡ between

-- ---- the moment of a file

-- a digest that a source list records, if it does, is this one
abbrev pub is_digest : Option (List ℕ) → List ℕ → Bool
is_digest None digest = true
is_digest (Some listed) digest = bytes_eq listed digest

-- each digest that is recorded of a file is that of these three
abbrev pub agrees : Listed → Triple → Bool
agrees l t = is_digest l.md5 t.md5 && (is_digest l.sha1 t.sha1 && is_digest l.xxh t.xxh)

-- what the source list records of file i, where that is not these digests
abbrev pub other_listed : Option (List Listed) → ℕ → Triple → Option Listed
other_listed None i t = None
other_listed (Some all) i t = unless_agrees (slice_get all i)
  where
    unless_agrees : Option Listed → Option Listed
    unless_agrees None = None
    unless_agrees (Some l) = if agrees l t then None else Some l

-- the moment of file i was asked, and is that of its record
pub record Dated (o : Ordered) (i : ℕ) (t : Triple) (old : Drives) (new : At) (before after : World) : Type 0 where
  pub file : PlannedFile
  pub is_file : slice_get o.plan.files i ≡ Some file
  pub seconds : ℕ
  pub early : seconds ≤ last_moment
  pub asked : Went (Only Clock) (IsCall (Moment seconds)) before after
  pub drives : new.drives ≡ old
  pub goes : Goes true (Records (record { index = i; size = file.size; triple = t; hashed = seconds }) 0) new

-- the moment of file i was asked, unless the source list records other digests of it
abbrev pub DateTurn : Ordered → ℕ → Triple → Option Listed → Drives → At → World → World → Type 0
DateTurn o i t None old new before after = Dated o i t old new before after
DateTurn o i t (Some l) old new before after = (new.drives ≡ old) × Ends (Altered i l t) new × (after ≡ before)

-- ---- a file is recorded on a drive

-- the line of a recording: the file is recorded, or the drive is lost by a failed call, or by what was read back
abbrev pub record_line : ℕ → ℕ → List ℕ → Rec → Result Gate ReadBackError → List ℕ
record_line d n path rec (Ok next) = done_text d (rec.index + 1) n path
record_line d n path rec (Err BackFailed) = dropped_fault_text d
record_line d n path rec (Err BackAbsent) = dropped_absent_text d path
record_line d n path rec (Err (BackLength recorded read)) = dropped_length_text d recorded read path
record_line d n path rec (Err (Differs recorded read)) = dropped_altered_text d recorded read path

-- the drive has a record more and the next gate, or it was dropped
abbrev pub RecordStands : ℕ → List Rec → Rec → Result Gate ReadBackError → Drives → Drives → Type 0
RecordStands d recs rec (Ok next) old new = Moves d (Begun (recs ++ rec ∷ []) next false) old new
RecordStands d recs rec (Err e) old new = Drops d old new

-- a file was recorded on drive d, or that was lost, and the line of it was said
pub record RecordedAloud (o : Ordered) (rec : Rec) (d : ℕ) (was : Journaled) (old : Drives) (new : At) (before after : World) : Type 0 where
  pub file : PlannedFile
  pub is_file : slice_get o.plan.files rec.index ≡ Some file
  pub came : Result Gate ReadBackError
  pub mid : World
  pub went : Went (Only (Drive d)) (RecordCalls d was.gate.at file.path rec came) before mid
  pub cause : RecordCause d came before mid
  pub next : IfOk came (λ next. next ≡ next_gate o.plan (length was.recs + 1))
  pub shape : IsShape rec
  pub clean : Cleans d (is_ok came) before mid
  pub honest : RecordFailsAlone d rec came before mid
  pub records : RecordsSafely d was.gate.at file.path rec (is_ok came) before mid
  pub said : Bool
  pub line : Says (record_line d (files_of o.plan) file.path rec came) said mid after
  pub stands : RecordStands d was.recs rec came old new.drives
  pub goes : Goes said (after_record (length old.each) (files_of o.plan) rec d) new

-- the turn of drive d, by whether the file is due on it
abbrev pub RecordTurn : Ordered → Rec → ℕ → Option Journaled → Drives → At → World → World → Type 0
RecordTurn o rec d None old new before after = Passes (after_record (length old.each) (files_of o.plan) rec d) old new before after
RecordTurn o rec d (Some was) old new before after = RecordedAloud o rec d was old new before after

-- ---- a drive is sealed

-- the line of a sealing: the drive is sealed, or is lost by a failed call, or by what was read back of the list
abbrev pub seal_line : ℕ → PlanValue → Result Unit SealError → List ℕ
seal_line d p (Ok _) = sealed_text d (files_of p) (list_of p)
seal_line d p (Err SealFailed) = dropped_fault_text d
seal_line d p (Err ListAbsent) = dropped_absent_text d (list_of p)
seal_line d p (Err (ListByte at written read)) = dropped_byte_text d at written read (list_of p)
seal_line d p (Err (ListLength written read)) = dropped_length_text d written read (list_of p)

-- the drive is sealed, or it was dropped
abbrev pub SealStands : ℕ → Result Unit SealError → Drives → Drives → Type 0
SealStands d (Ok _) old new = SealsDrive d old new
SealStands d (Err e) old new = Drops d old new

-- the moment of a list was asked, and the list of these records and that finish was sealed on drive d, or that was lost, and the line of it was said
pub record SealedAloud (o : Ordered) (d : ℕ) (recs : List Rec) (old : Drives) (new : At) (before after : World) : Type 0 where
  pub finish : ℕ
  pub early : finish ≤ last_moment
  pub dated : World
  pub asked : Went (Only Clock) (IsCall (Moment finish)) before dated
  pub came : Result Unit SealError
  pub mid : World
  pub went : Went (Only (Drive d)) (SealCalls d (list_of o.plan) (list_parts o.plan recs finish) came) dated mid
  pub text : joined (list_parts o.plan recs finish) ≡ plan_list_text o.plan recs finish
  pub cause : SealCause d came dated mid
  pub honest : SealFailsAlone d came dated mid
  pub rests : Rests d NoScratch (IsThere (list_of o.plan) (plan_list_text o.plan recs finish)) (is_ok came) dated mid
  pub seals : SealsSafely d (list_of o.plan) (plan_list_text o.plan recs finish) (is_ok came) dated mid
  pub said : Bool
  pub line : Says (seal_line d o.plan came) said mid after
  pub stands : SealStands d came old new.drives
  pub goes : Goes said (after_seal (length old.each) d) new

-- the line of a drive that was found sealed was said
pub record FoundAloud (o : Ordered) (d : ℕ) (old : Drives) (new : At) (before after : World) : Type 0 where
  pub said : Bool
  pub line : Says (sealed_text d (files_of o.plan) (list_of o.plan)) said before after
  pub stands : SealsDrive d old new.drives
  pub goes : Goes said (after_seal (length old.each) d) new

-- the turn of drive d, which stood so: each drive was begun, if it is of the run
abbrev pub SealTurn : Ordered → ℕ → DriveAt → Drives → At → World → World → Type 0
SealTurn o d (Begun recs gate kept) old new before after = SealedAloud o d recs old new before after
SealTurn o d (Found recs) old new before after = FoundAloud o d old new before after
SealTurn o d Fresh old new before after = ⊥
SealTurn o d Gone old new before after = Passes (after_seal (length old.each) d) old new before after
SealTurn o d Sealed old new before after = Passes (after_seal (length old.each) d) old new before after

-- ---- the card is called clear

-- enough drives are sealed, and a number is required
abbrev pub is_clear : ℕ → ℕ → Bool
is_clear sealed required = nat_le 1 required && nat_le required sealed

-- how a run ends of which so many drives are sealed: each drive that is left is
abbrev pub end_of : ℕ → Outcome
end_of sealed = if nat_eq sealed 0 then NoDrive else Finished

-- the line `clear` was said
pub record ClearAloud (required sealed : ℕ) (new : At) (before after : World) : Type 0 where
  pub said : Bool
  pub line : Says (clear_text sealed required) said before after
  pub ends : Ends (if said then end_of sealed else OutFailed) new

-- the line was said where it is due, and the run has ended
abbrev pub ClearTurn : ℕ → ℕ → Bool → At → World → World → Type 0
ClearTurn required sealed true new before after = ClearAloud required sealed new before after
ClearTurn required sealed false new before after = Ends (end_of sealed) new × (after ≡ before)
