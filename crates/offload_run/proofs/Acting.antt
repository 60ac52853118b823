-- What one act did, from what its parts did.
use Rattle.std.proofs.Common.{◌≡◌, ◌≢◌, ◌⊎◌, inl, inr, ℕ, ◌+◌, ◌-◌, ◌*◌, Bool, true, false, List, [], ◌∷◌, ◌++◌, length, refl, sym, ◌∙◌, ap, subst, arith, length-append}
use Rattle.std.specs.Global.{Global}
use Rattle.std.specs.List.{slice_get}
use Rattle.std.specs.Prelude.{Option, Some, None, Vec, Result, Ok, Err, IfOk, is_ok, nat_eq, if◌then◌else◌}
use Rattle.std.proofs.lemmas.Bool.Decides.{eqb_tells}
use Rattle.bay_core.specs.Paths.{journal_path}
use Rattle.bay_core.specs.World.{World}
use Rattle.bay_core.specs.Replay.{Drive}
use Rattle.bay_core.specs.Went.{Went, Only, Tried}
use Rattle.copy_plan.specs.Fields.{plan_code}
use Rattle.copy_plan.specs.declared.file.PlannedFile.{PlannedFile}
use Rattle.copy_plan.specs.Plan.{PlanValue}
use Rattle.drive_journal.specs.declared.record.Gate.{Gate}
use Rattle.drive_journal.specs.declared.record.Rec.{Rec}
use Rattle.drive_journal.specs.Calls.{tidied, tidy_calls, publish_calls}
use Rattle.drive_journal.specs.Journal.{IsShape}
use Rattle.drive_journal.specs.Look.{next_gate}
use Rattle.drive_journal.specs.Steps.{IsTidied, Turns}
use Rattle.recording.specs.Beginning.{Begins as BeginsSafely, Cleared, Rejoins}
use Rattle.recording.specs.Filing.{RecordCalls, RecordCause, Records, FailsAlone, Cleans}
use Rattle.read_back.specs.declared.back.ReadBackError.{ReadBackError}
use Rattle.seal_step.specs.declared.error.SealError.{SealError}
use Rattle.run_state.specs.declared.drive.DriveRun.{DriveRun}
use Rattle.run_state.specs.declared.drive.DriveRun.TheVariants.{Gone as GoneRun, Fresh as FreshRun, Begun as BegunRun, Found as FoundRun, Sealed as SealedRun}
use Rattle.run_state.specs.declared.phase.Phase.{Phase}
use Rattle.run_state.specs.Acts.{Says, Goes, Moves, Drops, SealsDrive, Passes, new_journal, next_path, begin_line, record_line, MovesOrDrops, BegunAloud, BeginTurn, RecordStands, RecordedAloud, RecordTurn, SealStands, SealedAloud, FoundAloud, SealTurn}
use Rattle.drive_journal.proofs.Entries.{records_few}
use Rattle.run_state.specs.Rules.{FitsPlan, HasAtLeast}
use Rattle.run_state.specs.State.{Ordered, DriveAt, Gone, Fresh, Begun, Drives, At, Journaled, at_of, files_of, drive_at, due, after_begin, after_record, after_seal}
use Rattle.offload_run.specs.Offload.{SaysOn}
use Rattle.offload_run.proofs.Places.{moves_over, drops_over, seals_over, put_back}

-- ---- a drive is begun

-- the gate behind a journal with no record
pub first_gate : (p : PlanValue) (journal : List ℕ) (n : ℕ) → n ≡ length journal → journal ≡ new_journal p → record { at = n - 1; index = 0 } ≡ next_gate p 0
first_gate p journal n counted is =
    let long : length journal ≡ length (plan_code p) + 1 = ap (λ (l : List ℕ). length l) is ∙ length-append (plan_code p) (0 ∷ []) in
    let at : n - 1 ≡ length (plan_code p) + 65 * 0 = omega (arith, long, counted) in
    λ i. record { at = at i; index = 0 }

-- a fresh drive got its journal, or was lost
pub fresh_aloud : (o : Ordered) (d : ℕ) (old : Drives) (new : At) (journal : List ℕ) (room : List Rec) (gate : Gate) (ok came : Bool) (before mid after : World) → journal ≡ new_journal o.plan → room ≡ [] → gate ≡ next_gate o.plan 0 → ok ≡ came
    → Tried d (tidy_calls d None false ++ publish_calls d journal_path journal) came before mid → BeginsSafely d journal came before mid → Cleared d came before mid
    → MovesOrDrops d ok (Begun room gate false) old new.drives → SaysOn (begin_line d (length room) (files_of o.plan) ok) (after_begin (length old.each) d) new mid after → BegunAloud o d Fresh old new before after
fresh_aloud o d old new journal room gate ok came before mid after journal_is none gate_is same tried begins cleared stands said = record {
  ok = ok;
  mid = mid;
  tried = subst (λ (k : Bool). Tried d (tidy_calls d None false ++ publish_calls d journal_path (new_journal o.plan)) k before mid × BeginsSafely d (new_journal o.plan) k before mid × Cleared d k before mid) (sym same)
      (subst (λ (j : List ℕ). Tried d (tidy_calls d None false ++ publish_calls d journal_path j) came before mid × BeginsSafely d j came before mid × Cleared d came before mid) journal_is (tried, begins, cleared));
  said = said.said;
  line = subst (λ (r : List Rec). Says (begin_line d (length r) (files_of o.plan) ok) said.said mid after) none said.was_said;
  stands = subst (λ (x : DriveAt). MovesOrDrops d ok x old new.drives) (λ i. Begun (none i) (gate_is i) false) stands;
  goes = said.goes;
}

-- a drive with records goes on, or was lost
pub rejoin_aloud : (o : Ordered) (d : ℕ) (old : Drives) (new : At) (recs : List Rec) (gate : Gate) (kept : Bool) (path : Option (List ℕ)) (ok came : Bool) (before mid after : World) → path ≡ next_path o.plan recs → ok ≡ came
    → Tried d (tidy_calls d path kept) came before mid → Rejoins d path before mid → Turns d (IsTidied (tidied path kept)) came before mid
    → MovesOrDrops d ok (Begun recs gate kept) old new.drives → SaysOn (begin_line d (length recs) (files_of o.plan) ok) (after_begin (length old.each) d) new mid after → BegunAloud o d (Begun recs gate kept) old new before after
rejoin_aloud o d old new recs gate kept path ok came before mid after path_is same tried rejoins gone stands said = record {
  ok = ok;
  mid = mid;
  tried = subst (λ (k : Bool). Tried d (tidy_calls d (next_path o.plan recs) kept) k before mid × Rejoins d (next_path o.plan recs) before mid × Turns d (IsTidied (tidied (next_path o.plan recs) kept)) k before mid) (sym same)
      (subst (λ (q : Option (List ℕ)). Tried d (tidy_calls d q kept) came before mid × Rejoins d q before mid × Turns d (IsTidied (tidied q kept)) came before mid) path_is (tried, rejoins, gone));
  said = said.said;
  line = said.was_said;
  stands = stands;
  goes = said.goes;
}

stands_over : (d : ℕ) (ok : Bool) (now : DriveAt) (old mid new : Drives) → Moves d Gone old mid → MovesOrDrops d ok now mid new → MovesOrDrops d ok now old new
stands_over d true now old mid new a m = moves_over d Gone now old mid new a m
stands_over d false now old mid new a m = drops_over d Gone old mid new a m

-- a drive that was taken out of the run was begun
pub begun_over : (o p : Ordered) (d : ℕ) (was : DriveAt) (old mid : Drives) (new : At) (before after : World) → p ≡ o → Moves d Gone old mid → BegunAloud p d was mid new before after → BegunAloud o d was old new before after
begun_over o p d was old mid new before after same taken t = subst (λ (q : Ordered). BegunAloud q d was old new before after) same (record {
  ok = t.ok;
  mid = t.mid;
  tried = t.tried;
  said = t.said;
  line = t.line;
  stands = stands_over d t.ok _ old mid new.drives taken t.stands;
  goes = subst (λ (w : ℕ). Goes t.said (after_begin w d) new) taken.each.count t.goes;
})

-- a drive that was taken out of the run is put back, and the run goes on
pub passed : (d : ℕ) (x : DriveAt) (next : Phase) (old mid : Drives) (new : At) (w : World) → x ≡ drive_at old.each d → Moves d Gone old mid → Moves d x mid new.drives → Goes true next new → Passes next old new w w
passed d x next old mid new w was taken put goes = record { drives = put_back d x old mid new.drives was taken put; goes = goes; idle = refl }

-- a drive that is neither fresh nor begun is passed over
pub begin_passed : (o : Ordered) (d : ℕ) (x : DriveRun) (old : Drives) (new : At) (w : World) → ((room : Vec Rec Global) → x ≢ FreshRun room) → ((entries : Vec Rec Global) (gate : Gate) (kept : Bool) → x ≢ BegunRun entries gate kept) → Passes (after_begin (length old.each) d) old new w w → BeginTurn o d (at_of x) old new w w
begin_passed o d GoneRun old new w a b t = t
begin_passed o d (FreshRun room) old new w a b t = absurd (a room refl)
begin_passed o d (BegunRun entries gate kept) old new w a b t = absurd (b entries gate kept refl)
begin_passed o d (FoundRun entries) old new w a b t = t
begin_passed o d SealedRun old new w a b t = t

-- ---- a file is recorded

record_stands_over : (d : ℕ) (recs : List Rec) (rec : Rec) (came : Result Gate ReadBackError) (old mid new : Drives) → Moves d Gone old mid → RecordStands d recs rec came mid new → RecordStands d recs rec came old new
record_stands_over d recs rec (Ok next) old mid new a m = moves_over d Gone _ old mid new a m
record_stands_over d recs rec (Err e) old mid new a m = drops_over d Gone old mid new a m

-- a file was recorded on a drive that was taken out of the run
pub recorded_over : (o p : Ordered) (rec : Rec) (d : ℕ) (was : Journaled) (old mid : Drives) (new : At) (before after : World) → p ≡ o → Moves d Gone old mid → RecordedAloud p rec d was mid new before after → RecordedAloud o rec d was old new before after
recorded_over o p rec d was old mid new before after same taken t = subst (λ (q : Ordered). RecordedAloud q rec d was old new before after) same (record {
  file = t.file;
  is_file = t.is_file;
  came = t.came;
  mid = t.mid;
  went = t.went;
  cause = t.cause;
  next = t.next;
  shape = t.shape;
  clean = t.clean;
  honest = t.honest;
  records = t.records;
  said = t.said;
  line = t.line;
  stands = record_stands_over d was.recs rec t.came old mid new.drives taken t.stands;
  goes = subst (λ (w : ℕ). Goes t.said (after_record w (files_of p.plan) rec d) new) taken.each.count t.goes;
})

-- whether a file is due on a drive with these records
pub due_here : (i : ℕ) (recs : List Rec) (gate : Gate) (kept : Bool) → length recs ≡ i → due i (Begun recs gate kept) ≡ Some (record { recs = recs; gate = gate; kept = kept })
due_here i recs gate kept is = step (eqb_tells (length recs) i)
  where
    step : ((nat_eq (length recs) i ≡ true) × (length recs ≡ i)) ⊎ ((nat_eq (length recs) i ≡ false) × (length recs ≢ i)) → due i (Begun recs gate kept) ≡ Some (record { recs = recs; gate = gate; kept = kept })
    step (inl is_same) = ap (λ (b : Bool). if b then Some (record { recs = recs; gate = gate; kept = kept }) else None) is_same.0
    step (inr is_other) = absurd (is_other.1 is)

pub due_later : (i : ℕ) (recs : List Rec) (gate : Gate) (kept : Bool) → length recs ≢ i → due i (Begun recs gate kept) ≡ None
due_later i recs gate kept other = step (eqb_tells (length recs) i)
  where
    step : ((nat_eq (length recs) i ≡ true) × (length recs ≡ i)) ⊎ ((nat_eq (length recs) i ≡ false) × (length recs ≢ i)) → due i (Begun recs gate kept) ≡ None
    step (inl is_same) = absurd (other is_same.1)
    step (inr is_other) = ap (λ (b : Bool). if b then Some (record { recs = recs; gate = gate; kept = kept }) else None) is_other.0

-- a drive that is not begun has no file due
pub due_none : (i : ℕ) (x : DriveRun) → ((entries : Vec Rec Global) (gate : Gate) (kept : Bool) → x ≢ BegunRun entries gate kept) → due i (at_of x) ≡ None
due_none i GoneRun other = refl
due_none i (FreshRun room) other = refl
due_none i (BegunRun entries gate kept) other = absurd (other entries gate kept refl)
due_none i (FoundRun entries) other = refl
due_none i SealedRun other = refl

-- the turn of a drive by what it stood as
pub record_turned : (o : Ordered) (rec : Rec) (d : ℕ) (x : DriveAt) (was : Option Journaled) (old : Drives) (new : At) (before after : World) → x ≡ drive_at old.each d → due rec.index x ≡ was → RecordTurn o rec d was old new before after → RecordTurn o rec d (due rec.index (drive_at old.each d)) old new before after
record_turned o rec d x was old new before after here is t = subst (λ (q : Option Journaled). RecordTurn o rec d q old new before after) (sym is ∙ ap (due rec.index) here) t

-- the gate behind one record more
pub gate_after : (p : PlanValue) (i n : ℕ) (gate next : Gate) → gate ≡ next_gate p i → n ≡ i → next ≡ record { at = gate.at + 65; index = gate.index + 1 } → next ≡ next_gate p (n + 1)
gate_after p i n gate next is same more =
    let at : gate.at + 65 ≡ length (plan_code p) + 65 * (n + 1) = let was = ap (λ (g : Gate). g.at) is in omega (arith, was, same) in
    let index : gate.index + 1 ≡ n + 1 = let was = ap (λ (g : Gate). g.index) is in omega (arith, was, same) in
    more ∙ (λ k. record { at = at k; index = index k })

next_after : (p : PlanValue) (recs : List Rec) (i : ℕ) (gate : Gate) (came : Result Gate ReadBackError) → length recs ≡ i → gate ≡ next_gate p i → IfOk came (λ next. next ≡ record { at = gate.at + 65; index = gate.index + 1 }) → IfOk came (λ next. next ≡ next_gate p (length recs + 1))
next_after p recs i gate (Err e) long is next = tt
next_after p recs i gate (Ok g) long is next = gate_after p i (length recs) gate g is long next

-- a file was recorded on a drive, or that was lost
pub recorded_aloud : (o : Ordered) (rec : Rec) (d : ℕ) (recs : List Rec) (gate : Gate) (kept : Bool) (file : PlannedFile) (came : Result Gate ReadBackError) (said : Bool) (old : Drives) (new : At) (before mid after : World)
    → slice_get o.plan.files rec.index ≡ Some file → length recs ≡ rec.index → gate ≡ next_gate o.plan rec.index → IsShape rec
    → Went (Only (Drive d)) (RecordCalls d gate.at file.path rec came) before mid → RecordCause d came before mid → IfOk came (λ next. next ≡ record { at = gate.at + 65; index = gate.index + 1 }) → Cleans d (is_ok came) before mid
    → FailsAlone d rec came before mid → Records d gate.at file.path rec (is_ok came) before mid → Says (record_line d (files_of o.plan) file.path rec came) said mid after
    → RecordStands d recs rec came old new.drives → Goes said (after_record (length old.each) (files_of o.plan) rec d) new
    → RecordedAloud o rec d (record { recs = recs; gate = gate; kept = kept }) old new before after
recorded_aloud o rec d recs gate kept file came said old new before mid after is_file long gate_is shape went cause next clean honest records line stands goes = record {
  file = file;
  is_file = is_file;
  came = came;
  mid = mid;
  went = went;
  cause = cause;
  next = next_after o.plan recs rec.index gate came long gate_is next;
  shape = shape;
  clean = clean;
  honest = honest;
  records = records;
  said = said;
  line = line;
  stands = stands;
  goes = goes;
}

-- where a drive stands on which a file was recorded, or that was lost by it
pub stands_recorded : (d : ℕ) (recs : List Rec) (rec : Rec) (came : Result Gate ReadBackError) (gate : Gate) (old mid new : Drives) → mid ≡ old → came ≡ Ok gate → Moves d (Begun (recs ++ rec ∷ []) gate false) mid new → RecordStands d recs rec came old new
stands_recorded d recs rec came gate old mid new same is m =
    subst (λ (r : Result Gate ReadBackError). RecordStands d recs rec r old new) (sym is) (subst (λ (x : Drives). Moves d (Begun (recs ++ rec ∷ []) gate false) x new) same m)

pub stands_lost : (d : ℕ) (recs : List Rec) (rec : Rec) (came : Result Gate ReadBackError) (e : ReadBackError) (old mid new : Drives) → mid ≡ old → came ≡ Err e → Drops d mid new → RecordStands d recs rec came old new
stands_lost d recs rec came e old mid new same is m =
    subst (λ (r : Result Gate ReadBackError). RecordStands d recs rec r old new) (sym is) (subst (λ (x : Drives). Drops d x new) same m)

-- a file was recorded on a drive that was taken out of the run, on which it is due
pub record_acted : (o p : Ordered) (rec : Rec) (d : ℕ) (recs : List Rec) (gate : Gate) (kept : Bool) (was : DriveAt) (old mid : Drives) (new : At) (before after : World) → Begun recs gate kept ≡ was → length recs ≡ rec.index → p ≡ o → Moves d Gone old mid
    → RecordedAloud p rec d (record { recs = recs; gate = gate; kept = kept }) mid new before after → RecordTurn o rec d (due rec.index was) old new before after
record_acted o p rec d recs gate kept was old mid new before after is long same taken t =
    subst (λ (q : Option Journaled). RecordTurn o rec d q old new before after) (sym (due_here rec.index recs gate kept long) ∙ ap (due rec.index) is) (recorded_over o p rec d (record { recs = recs; gate = gate; kept = kept }) old mid new before after same taken t)

-- ---- a drive is sealed

seal_stands_over : (d : ℕ) (came : Result Unit SealError) (old mid new : Drives) → Moves d Gone old mid → SealStands d came mid new → SealStands d came old new
seal_stands_over d (Ok u) old mid new a m = seals_over d Gone old mid new a m
seal_stands_over d (Err e) old mid new a m = drops_over d Gone old mid new a m

-- a drive with a record of each file at least has just as many
pub all_recorded : (p : PlanValue) (recs : List Rec) (gate : Gate) (kept : Bool) (was : DriveAt) → Begun recs gate kept ≡ was → FitsPlan p was → HasAtLeast (files_of p) was → length recs ≡ files_of p
all_recorded p recs gate kept was is fits all =
    let few = records_few 0 p.files recs (subst (FitsPlan p) (sym is) fits).0 in
    let most = subst (HasAtLeast (files_of p)) (sym is) all in
    omega (arith, few, most)

-- a drive that was taken out of the run was sealed, or was lost
pub sealed_over : (o p : Ordered) (d : ℕ) (recs : List Rec) (old mid : Drives) (new : At) (before after : World) → p ≡ o → Moves d Gone old mid → SealedAloud p d recs mid new before after → SealedAloud o d recs old new before after
sealed_over o p d recs old mid new before after same taken t = subst (λ (q : Ordered). SealedAloud q d recs old new before after) same (record {
  finish = t.finish;
  early = t.early;
  dated = t.dated;
  asked = t.asked;
  came = t.came;
  mid = t.mid;
  went = t.went;
  text = t.text;
  cause = t.cause;
  honest = t.honest;
  rests = t.rests;
  seals = t.seals;
  said = t.said;
  line = t.line;
  stands = seal_stands_over d t.came old mid new.drives taken t.stands;
  goes = subst (λ (w : ℕ). Goes t.said (after_seal w d) new) taken.each.count t.goes;
})

-- a drive that was taken out of the run was found sealed
pub found_over : (o p : Ordered) (d : ℕ) (old mid : Drives) (new : At) (before after : World) → p ≡ o → Moves d Gone old mid → FoundAloud p d mid new before after → FoundAloud o d old new before after
found_over o p d old mid new before after same taken t = subst (λ (q : Ordered). FoundAloud q d old new before after) same (record {
  said = t.said;
  line = t.line;
  stands = seals_over d Gone old mid new.drives taken t.stands;
  goes = subst (λ (w : ℕ). Goes t.said (after_seal w d) new) taken.each.count t.goes;
})

-- a drive on which nothing is left to be sealed is passed over
pub seal_passed : (o : Ordered) (d : ℕ) (x : DriveRun) (old : Drives) (new : At) (w : World) → ((entries : Vec Rec Global) (gate : Gate) (kept : Bool) → x ≢ BegunRun entries gate kept) → ((entries : Vec Rec Global) → x ≢ FoundRun entries) → HasAtLeast (files_of o.plan) (at_of x)
    → Passes (after_seal (length old.each) d) old new w w → SealTurn o d (at_of x) old new w w
seal_passed o d GoneRun old new w a b all t = t
seal_passed o d (FreshRun room) old new w a b all t = absurd all
seal_passed o d (BegunRun entries gate kept) old new w a b all t = absurd (a entries gate kept refl)
seal_passed o d (FoundRun entries) old new w a b all t = absurd (b entries refl)
seal_passed o d SealedRun old new w a b all t = t

-- where a drive stands that was sealed, or that was lost by it
pub stands_sealed : (d : ℕ) (came : Result Unit SealError) (u : Unit) (old mid new : Drives) → mid ≡ old → came ≡ Ok u → SealsDrive d mid new → SealStands d came old new
stands_sealed d came u old mid new same is m = subst (λ (r : Result Unit SealError). SealStands d r old new) (sym is) (subst (λ (x : Drives). SealsDrive d x new) same m)

pub stands_unsealed : (d : ℕ) (came : Result Unit SealError) (e : SealError) (old mid new : Drives) → mid ≡ old → came ≡ Err e → Drops d mid new → SealStands d came old new
stands_unsealed d came e old mid new same is m = subst (λ (r : Result Unit SealError). SealStands d r old new) (sym is) (subst (λ (x : Drives). Drops d x new) same m)

-- a drive was sealed by the list of these records
pub sealed_as : (o : Ordered) (d : ℕ) (recs given : List Rec) (old : Drives) (new : At) (before after : World) → given ≡ recs → SealedAloud o d given old new before after → SealedAloud o d recs old new before after
sealed_as o d recs given old new before after same t = subst (λ (l : List Rec). SealedAloud o d l old new before after) same t
