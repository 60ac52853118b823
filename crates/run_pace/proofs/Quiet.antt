-- The calls of a run outside its copies are no acts.
use Rattle.std.proofs.Common.{◌≡◌, ◌≢◌, inl, inr, ℕ, ◌+◌, Bool, true, false, List, [], ◌∷◌, ◌++◌, length, refl, sym, subst}
use Rattle.std.specs.Prelude.{None, Result, Ok, Err}
use Rattle.std.specs.List.{AllByRecursion}
use Rattle.std.specs.Cmp.Lexicographic.{other_text}
use Rattle.std.proofs.lemmas.Bool.{false≢true}
use Rattle.bay_core.specs.declared.event.Event.{Event}
use Rattle.bay_core.specs.declared.event.Event.TheVariants.{SourceRead, Write, Pick}
use Rattle.bay_core.specs.Looks.{is_effect, IsUntouched}
use Rattle.bay_core.specs.Paths.{new_path, part_path, journal_path}
use Rattle.bay_core.specs.Replay.{Device, Source, Drive, Output, Clock, Picker, device_of}
use Rattle.bay_core.specs.World.{World}
use Rattle.bay_core.specs.Went.{AllOn, Only, Went, Ran, Then, sync_call}
use Rattle.bay_core.proofs.Runs.{went_such}
use Rattle.copy_plan.specs.Plan.{PlanValue}
use Rattle.copy_plan.proofs.Files.{AllByRecursion-append}
use Rattle.drive_journal.specs.declared.record.Gate.{Gate}
use Rattle.drive_journal.specs.declared.record.Rec.{Rec}
use Rattle.drive_journal.specs.Calls.{publish_calls, place_calls, open_calls, tidied, removals, tidy_calls}
use Rattle.drive_journal.specs.Record.{closed_record}
use Rattle.read_back.specs.declared.back.ReadBackError.{ReadBackError}
use Rattle.read_back.specs.declared.back.ReadBackError.TheVariants.{DriveFailed as BackFailed, Absent as BackAbsent, Length as BackLength, Differs}
use Rattle.read_back.proofs.Laws.{back_keeps as part_untouched}
use Rattle.recording.specs.Filing.{BackCalls as PartCalls, Settles, RecordCalls}
use Rattle.seal_step.specs.declared.error.SealError.{SealError}
use Rattle.seal_step.specs.declared.error.SealError.TheVariants.{DriveFailed as SealFailed, Absent as ListAbsent, Byte as ListByte, Length as ListLength}
use Rattle.seal_step.specs.Calls.{Drafts, SealCalls}
use Rattle.seal_step.specs.Parts.{joined, writes_from, drafting, naming}
use Rattle.seal_step.specs.Reading.{BackCalls as ListCalls}
use Rattle.seal_step.proofs.Drafted.{back_keeps as list_untouched}
use Rattle.run_state.specs.Acts.{next_path, new_journal, BeginTried}
use Rattle.run_state.specs.State.{DriveAt, Gone, Fresh, Begun, Found, Sealed}
use Rattle.run_pace.specs.Pace.{IsNoAct}

-- no call is
abbrev pub NoActs : List Event → Type 0
NoActs L = AllByRecursion IsNoAct L

pub no_acts_then : (A B : List Event) → NoActs A → NoActs B → NoActs (A ++ B)
no_acts_then A B one two = AllByRecursion-append IsNoAct A B one two

-- ---- by the device

-- no device on which an act begins
abbrev pub NeitherPicksNorReads : (Device → Type 0) → Type 0
NeitherPicksNorReads On = (On Picker → ⊥) × ((s : ℕ) → On (Source s) → ⊥)

off_drive : (On : Device → Type 0) → NeitherPicksNorReads On → ((d : ℕ) → On (Drive d) → ⊥) → (e : Event) → On (device_of e) → IsNoAct e
off_drive On off none (SourceRead s path at want got) on = absurd (off.1 s on)
off_drive On off none (Pick n) on = absurd (off.0 on)
off_drive On off none (Write d path at bytes ok) on = absurd (none d on)
off_drive On off none e on = tt

-- calls on no drive
pub off_drives : (On : Device → Type 0) → NeitherPicksNorReads On → ((d : ℕ) → On (Drive d) → ⊥) → (L : List Event) → AllOn On L → NoActs L
unfolding AllOn
off_drives On off none [] on = tt
off_drives On off none (e ∷ L) on = (off_drive On off none e on.0, off_drives On off none L on.1)

pub output_no_acts : (L : List Event) → AllOn (Only Output) L → NoActs L
output_no_acts L on = off_drives (Only Output) ((λ is. absurd (cc is)), (λ s is. absurd (cc is))) (λ d is. absurd (cc is)) L on

pub clock_no_acts : (L : List Event) → AllOn (Only Clock) L → NoActs L
clock_no_acts L on = off_drives (Only Clock) ((λ is. absurd (cc is)), (λ s is. absurd (cc is))) (λ d is. absurd (cc is)) L on

-- ---- on a drive

-- the call writes to no part
abbrev pub LeavesPart : Event → Type 0
LeavesPart (Write d path at bytes ok) = path ≡ part_path → ⊥
LeavesPart e = Unit {0}

abbrev pub LeaveParts : List Event → Type 0
LeaveParts L = AllByRecursion LeavesPart L

-- a call, whatever its answer, does
abbrev CallLeaves : (Bool → Event) → Type 0
CallLeaves c = LeavesPart (c true) × LeavesPart (c false)

drive_one : (d : ℕ) (e : Event) → device_of e ≡ Drive d → LeavesPart e → IsNoAct e
drive_one d (SourceRead s path at want got) on leaves = absurd (cc on)
drive_one d (Pick n) on leaves = absurd (cc on)
drive_one d (Write n path at bytes ok) on leaves = leaves
drive_one d e on leaves = tt

pub drive_no_acts : (d : ℕ) (L : List Event) → AllOn (Only (Drive d)) L → LeaveParts L → NoActs L
unfolding AllOn
drive_no_acts d [] on leave = tt
drive_no_acts d (e ∷ L) on leave = (drive_one d e on.0 leave.0, drive_no_acts d L on.1 leave.1)

untouched_one : (e : Event) → is_effect e ≡ false → LeavesPart e
untouched_one (Write d path at bytes ok) off = absurd (false≢true (sym off))
untouched_one e off = tt

untouched_leaves : (L : List Event) → IsUntouched L → LeaveParts L
unfolding IsUntouched
untouched_leaves [] off = tt
untouched_leaves (e ∷ L) off = (untouched_one e off.0, untouched_leaves L off.1)

ran_leaves : (cs : List (Bool → Event)) (ok : Bool) (L : List Event) → AllByRecursion CallLeaves cs → Ran cs ok L → LeaveParts L
unfolding Ran
ran_leaves [] true L all ran = subst LeaveParts (sym ran) tt
ran_leaves [] false L all ran = absurd ran
ran_leaves (c ∷ cs) true L all (rest, is, more) = subst LeaveParts (sym is) (all.0.0, ran_leaves cs true rest all.1 more)
ran_leaves (c ∷ cs) false L all (inl none) = subst LeaveParts (sym none) tt
ran_leaves (c ∷ cs) false L all (inr (inl one)) = subst LeaveParts (sym one) (all.0.1, tt)
ran_leaves (c ∷ cs) false L all (inr (inr (rest, is, more))) = subst LeaveParts (sym is) (all.0.0, ran_leaves cs false rest all.1 more)

then_leaves : {P Q : List Event → Type 0} (L : List Event) → ((K : List Event) → P K → LeaveParts K) → ((K : List Event) → Q K → LeaveParts K) → Then P Q L → LeaveParts L
then_leaves L first second t = subst LeaveParts (sym t.is) (AllByRecursion-append LeavesPart t.first t.second (first t.first t.here) (second t.second t.there))

new_apart : new_path ≡ part_path → ⊥
new_apart is = other_text new_path part_path refl is

journal_apart : journal_path ≡ part_path → ⊥
journal_apart is = other_text journal_path part_path refl is

removals_leave : (d : ℕ) (paths : List (List ℕ)) → AllByRecursion CallLeaves (removals d paths)
removals_leave d [] = tt
removals_leave d (path ∷ paths) = ((tt, tt), removals_leave d paths)

publish_leaves : (d : ℕ) (to bytes : List ℕ) → AllByRecursion CallLeaves (publish_calls d to bytes)
publish_leaves d to bytes = ((new_apart, new_apart), ((tt, tt), ((tt, tt), ((tt, tt), tt))))

writes_leave : (d at : ℕ) (parts : List (List ℕ)) → AllByRecursion CallLeaves (writes_from d at parts)
writes_leave d at [] = tt
writes_leave d at (part ∷ parts) = ((new_apart, new_apart), writes_leave d (at + length part) parts)

drafting_leaves : (d : ℕ) (parts : List (List ℕ)) → AllByRecursion CallLeaves (drafting d parts)
drafting_leaves d parts = AllByRecursion-append CallLeaves (writes_from d 0 parts) (sync_call d ∷ []) (writes_leave d 0 parts) ((tt, tt), tt)

naming_leaves : (d : ℕ) (list : List ℕ) → AllByRecursion CallLeaves (naming d list)
naming_leaves d list = ((tt, tt), ((tt, tt), tt))

-- a sealing
seal_leaves : (d : ℕ) (list : List ℕ) (parts : List (List ℕ)) (r : Result Unit SealError) (L : List Event) → SealCalls d list parts r L → LeaveParts L
seal_leaves d list parts r L calls = by r calls
  where
    drafts : (P : List Event → Type 0) → ((K : List Event) → P K → LeaveParts K) → Drafts d parts P L → LeaveParts L
    drafts P rest t = then_leaves L (λ K ran. ran_leaves (drafting d parts) true K (drafting_leaves d parts) ran) rest t

    reads : (back : Result Unit SealError) (K : List Event) → ListCalls d (joined parts) back K → LeaveParts K
    reads back K c = untouched_leaves K (list_untouched d (joined parts) back K c)

    named : (ok : Bool) (K : List Event) → Then (ListCalls d (joined parts) (Ok tt)) (Ran (naming d list) ok) K → LeaveParts K
    named ok K t = then_leaves K (reads (Ok tt)) (λ M ran. ran_leaves (naming d list) ok M (naming_leaves d list) ran) t

    by : (r : Result Unit SealError) → SealCalls d list parts r L → LeaveParts L
    by (Ok done) t = drafts _ (named true) t
    by (Err SealFailed) (inl ran) = ran_leaves (drafting d parts) false L (drafting_leaves d parts) ran
    by (Err SealFailed) (inr (inl t)) = drafts _ (reads (Err SealFailed)) t
    by (Err SealFailed) (inr (inr t)) = drafts _ (named false) t
    by (Err ListAbsent) t = drafts _ (reads (Err ListAbsent)) t
    by (Err (ListByte at written read)) t = drafts _ (reads (Err (ListByte at written read))) t
    by (Err (ListLength written read)) t = drafts _ (reads (Err (ListLength written read))) t

pub seal_no_acts : (d : ℕ) (list : List ℕ) (parts : List (List ℕ)) (r : Result Unit SealError) (L : List Event) → AllOn (Only (Drive d)) L → SealCalls d list parts r L → NoActs L
seal_no_acts d list parts r L on calls = drive_no_acts d L on (seal_leaves d list parts r L calls)

-- a recording
record_leaves : (d gate : ℕ) (path : List ℕ) (rec : Rec) (r : Result Gate ReadBackError) (L : List Event) → RecordCalls d gate path rec r L → LeaveParts L
record_leaves d gate path rec r L calls = by r calls
  where
    settles : (P : List Event → Type 0) → ((K : List Event) → P K → LeaveParts K) → Settles d P L → LeaveParts L
    settles P rest t = then_leaves L (λ K is. subst LeaveParts (sym is) (tt, tt)) rest t

    reads : (back : Result Unit ReadBackError) (K : List Event) → PartCalls d rec back K → LeaveParts K
    reads back K (bytes, c) = untouched_leaves K (part_untouched d part_path rec.size rec.triple back bytes K c)

    placed : (ok : Bool) (K : List Event) → Then (PartCalls d rec (Ok tt)) (Ran (place_calls d gate path (closed_record rec) ++ open_calls d gate) ok) K → LeaveParts K
    placed ok K t = then_leaves K (reads (Ok tt))
        (λ M ran. ran_leaves (place_calls d gate path (closed_record rec) ++ open_calls d gate) ok M ((tt, tt), ((journal_apart, journal_apart), ((tt, tt), ((journal_apart, journal_apart), ((tt, tt), tt))))) ran) t

    by : (r : Result Gate ReadBackError) → RecordCalls d gate path rec r L → LeaveParts L
    by (Ok next) t = settles _ (placed true) t
    by (Err BackFailed) (inl ran) = ran_leaves (sync_call d ∷ []) false L ((tt, tt), tt) ran
    by (Err BackFailed) (inr (inl t)) = settles _ (reads (Err BackFailed)) t
    by (Err BackFailed) (inr (inr t)) = settles _ (placed false) t
    by (Err BackAbsent) t = settles _ (reads (Err BackAbsent)) t
    by (Err (BackLength recorded read)) t = settles _ (reads (Err (BackLength recorded read))) t
    by (Err (Differs recorded read)) t = settles _ (reads (Err (Differs recorded read))) t

pub record_no_acts : (d gate : ℕ) (path : List ℕ) (rec : Rec) (r : Result Gate ReadBackError) (L : List Event) → AllOn (Only (Drive d)) L → RecordCalls d gate path rec r L → NoActs L
record_no_acts d gate path rec r L on calls = drive_no_acts d L on (record_leaves d gate path rec r L calls)

-- the begin of a drive
pub begin_leaves : (p : PlanValue) (e : ℕ) (was : DriveAt) (ok : Bool) (w mid : World) → BeginTried p e was ok w mid → Went (Only (Drive e)) LeaveParts w mid
begin_leaves p e Fresh ok w mid t = went_such (λ L ran. ran_leaves (tidy_calls e None false ++ publish_calls e journal_path (new_journal p)) ok L
    (AllByRecursion-append CallLeaves (tidy_calls e None false) (publish_calls e journal_path (new_journal p)) (removals_leave e (tidied None false)) (publish_leaves e journal_path (new_journal p))) ran) t.0.went
begin_leaves p e (Begun recs gate kept) ok w mid t = went_such (λ L ran. ran_leaves (tidy_calls e (next_path p recs) kept) ok L (removals_leave e (tidied (next_path p recs) kept)) ran) t.0.went
begin_leaves p e Gone ok w mid t = absurd t
begin_leaves p e (Found recs) ok w mid t = absurd t
begin_leaves p e Sealed ok w mid t = absurd t
