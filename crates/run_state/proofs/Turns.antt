-- Turns keep the rules of a run.
use Rattle.std.proofs.Common.{◌≡◌, ◌≢◌, ◌⊎◌, inl, inr, ℕ, zero, suc, ◌+◌, ◌<◌, ◌≤◌, Bool, true, false, List, [], ◌∷◌, ◌++◌, length, drop, slice_set, refl, sym, ◌∙◌, ap, subst, arith, length-append}
use Rattle.std.specs.Prelude.{nat_eq, Option, Some, None, Result, Ok, Err, IfOk, is_some, option_map, nat_lt, if◌then◌else◌}
use Rattle.std.specs.List.{slice_get}
use Rattle.std.proofs.lemmas.Bool.{false≢true}
use Rattle.bay_core.specs.World.{World}
use Rattle.block_pool.specs.Lent.{PoolState}
use Rattle.digest_set.specs.declared.triple.Triple.{Triple}
use Rattle.copy_plan.specs.declared.file.PlannedFile.{PlannedFile}
use Rattle.copy_plan.specs.Plan.{PlanValue}
use Rattle.drive_journal.specs.declared.order.Listed.{Listed}
use Rattle.drive_journal.specs.declared.record.Gate.{Gate}
use Rattle.drive_journal.specs.declared.record.Rec.{Rec}
use Rattle.drive_journal.specs.Journal.{IsRecord}
use Rattle.drive_journal.specs.Look.{next_gate}
use Rattle.drive_journal.proofs.Entries.{records_push, records_none}
use Rattle.fan_core.specs.Flags.{has, lowest}
use Rattle.fan_copier.specs.declared.copy.FileCopy.{FileCopy}
use Rattle.fan_copier.specs.declared.turn.Turn.{Turn}
use Rattle.fan_copier.specs.declared.turn.Turn.TheVariants.{Going as CopyGoes, Dropped, Copied, SourceFailed as CardFailed, Changed as CardChanged, NoDrive as NoneLeft}
use Rattle.fan_copier.specs.Copying.{size_of, live_of}
use Rattle.fan_copier.specs.Turning.{GoOn}
use Rattle.read_back.specs.declared.back.ReadBackError.{ReadBackError}
use Rattle.seal_step.specs.declared.error.SealError.{SealError}
use Rattle.run_state.specs.declared.outcome.Outcome.{Outcome}
use Rattle.run_state.specs.declared.outcome.Outcome.TheVariants.{Going, Finished, NoDrive, SourceFailed, Changed, Altered, OutFailed}
use Rattle.run_state.specs.declared.phase.Phase.{Phase}
use Rattle.run_state.specs.declared.phase.Phase.TheVariants.{Begins, File, Copies, Dates, Records, Seals, Clears, Ended}
use Rattle.run_state.specs.Acts.{Goes, Ends, Puts, Passes, BegunAloud, MovesOrDrops, begun_at, BeginTurn, FileTurn, CopyDrops, CopySettles, CopyActed, copies_on, DateTurn, other_listed, RecordStands, RecordTurn, SealStands, SealTurn, end_of, is_clear, ClearTurn}
use Rattle.run_state.specs.Rules.{FitsPlan, HasAtLeast, IsOver, AllHave, IsSizeOf, FitsCopy, FitsRecord, FitsSeal, Fits, FitDrives, IsRun, IsStart, left_at, bound}
use Rattle.run_state.specs.Runs.{Point, Alone, still, turned, Runs, starts, turns, beside}
use Rattle.run_state.specs.State.{Ordered, DriveAt, Gone, Fresh, Begun, Found, Sealed, Drives, At, Journaled, files_of, drive_at, is_gone, is_sealed, count_sealed, due, after_begin, after_file, after_record, after_seal}
use Rattle.run_state.specs.Turn.{Acted, Turned}
use Rattle.run_state.proofs.Drives.{same_or, puts_all, puts_next, moves_fit, drops_fit, seals_fit}
use Rattle.run_state.proofs.Keeping.{fewer, not_due, due_begun, begin_next, file_next, record_next, seal_next, sized_within, live_still, none_due, due_somewhere}

-- the part of the rules that no turn touches, and the drives
module _ (o : Ordered) (old new : At) (rules : IsRun o old) (fit : FitDrives o.plan new.drives) where
  -- the run goes on with what fits
  pub on : (next : Phase) → next ≢ Ended → Fits o new.drives.each next → Goes true next new → IsRun o new
  on next more fits goes = record {
    plan = rules.plan;
    some_slots = rules.some_slots;
    few_slots = rules.few_slots;
    each_listed = rules.each_listed;
    drives = fit;
    fits = subst (Fits o new.drives.each) (sym goes.0) fits;
    outcome = (λ ended. absurd (more (sym goes.0 ∙ ended)), λ more. goes.1);
  }

  -- the run has ended
  pub over : (outcome : Outcome) → outcome ≢ Going → Ends outcome new → IsRun o new
  over outcome closed ends = record {
    plan = rules.plan;
    some_slots = rules.some_slots;
    few_slots = rules.few_slots;
    each_listed = rules.each_listed;
    drives = fit;
    fits = subst (Fits o new.drives.each) (sym ends.0) tt;
    outcome = (λ ended. λ going. closed (sym ends.1 ∙ going), λ more. absurd (more ends.0));
  }

  -- either of them, by whether the line was said
  pub by_line : (said : Bool) (next : Phase) → next ≢ Ended → Fits o new.drives.each next → Goes said next new → IsRun o new
  by_line true next more fits goes = on next more fits goes
  by_line false next more fits goes = over OutFailed (λ e. absurd (cc e)) goes

-- ---- what is done next is something

-- a phase of which something is done
open_if : (b : Bool) (x y next : Phase) → next ≡ (if b then x else y) → x ≢ Ended → y ≢ Ended → next ≢ Ended
open_if true x y next is left right ended = left (sym is ∙ ended)
open_if false x y next is left right ended = right (sym is ∙ ended)

begin_open : (w d : ℕ) → after_begin w d ≢ Ended
begin_open w d = open_if (nat_lt (suc d) w) (Begins (suc d)) (File 0) (after_begin w d) refl (λ e. absurd (cc e)) (λ e. absurd (cc e))

file_open : (n i : ℕ) → after_file n i ≢ Ended
file_open n i = open_if (nat_lt (suc i) n) (File (suc i)) (Seals 0) (after_file n i) refl (λ e. absurd (cc e)) (λ e. absurd (cc e))

record_open : (w n : ℕ) (rec : Rec) (d : ℕ) → after_record w n rec d ≢ Ended
record_open w n rec d = open_if (nat_lt (suc d) w) (Records rec (suc d)) (after_file n rec.index) (after_record w n rec d) refl (λ e. absurd (cc e)) (file_open n rec.index)

seal_open : (w d : ℕ) → after_seal w d ≢ Ended
seal_open w d = open_if (nat_lt (suc d) w) (Seals (suc d)) Clears (after_seal w d) refl (λ e. absurd (cc e)) (λ e. absurd (cc e))

copies_open : (n i : ℕ) (copy : FileCopy) → copies_on n i copy ≢ Ended
copies_open n i copy = open_if (is_some (lowest (live_of copy))) (Copies i copy) (after_file n i) (copies_on n i copy) refl (λ e. absurd (cc e)) (file_open n i)

-- ---- the acts

-- what holds of each drive before this one, and of this one
before_next : (P : DriveAt → Type 0) (d : ℕ) (each : List DriveAt) → ((k : ℕ) → k < d → P (drive_at each k)) → P (drive_at each d) → (k : ℕ) → k < suc d → P (drive_at each k)
before_next P d each before here k early = step (same_or k d)
  where
    step : (k ≡ d) ⊎ (k ≢ d) → P (drive_at each k)
    step (inl e) = subst P (ap (drive_at each) (sym e)) here
    step (inr other) = before k (omega (arith, early, other))

-- a file stands where its number says
drop_at : (files : List PlannedFile) (i : ℕ) (file : PlannedFile) → slice_get files i ≡ Some file → drop i files ≡ file ∷ drop (suc i) files
drop_at [] i file is = absurd (cc is)
drop_at (f ∷ files) zero file is = let same : f ≡ file = cc in ap (λ (g : PlannedFile). g ∷ files) same
drop_at (f ∷ files) (suc i) file is = drop_at files i file is

-- the size of a file that is known by its number
size_at : (p : PlanValue) (i : ℕ) (file : PlannedFile) → slice_get p.files i ≡ Some file → IsSizeOf p i file.size
size_at p i file is = ap (option_map (λ (f : PlannedFile). f.size)) is

same_size : (p : PlanValue) (i size : ℕ) (file : PlannedFile) → IsSizeOf p i size → slice_get p.files i ≡ Some file → size ≡ file.size
same_size p i size file sized is = let both : Some size ≡ Some file.size = sym sized ∙ size_at p i file is in cc

none_if : (found : Option ℕ) → is_some found ≡ false → found ≡ None
none_if None is = refl
none_if (Some d) is = absurd (cc is)

end_closed : (sealed : ℕ) → end_of sealed ≢ Going
end_closed sealed = step (nat_eq sealed 0)
  where
    step : (b : Bool) → (if b then NoDrive else Finished) ≢ Going
    step true e = absurd (cc e)
    step false e = absurd (cc e)

module _ (o : Ordered) (old new : At) (rules : IsRun o old) where
  same_fit : new.drives ≡ old.drives → FitDrives o.plan new.drives
  same_fit same = subst (FitDrives o.plan) (sym same) rules.drives

  -- nothing was done
  passes_run : (next : Phase) (before after : World) → next ≢ Ended → Fits o old.drives.each next → Passes next old.drives new before after → IsRun o new
  passes_run next before after more fits p =
      on o old new rules (same_fit p.drives) next more (subst (λ (d : Drives). Fits o d.each next) (sym p.drives) fits) p.goes

  -- a drive was begun, or was dropped
  begun_run : (d : ℕ) (x : DriveAt) (before after : World) → drive_at old.drives.each d ≡ x → is_gone x ≡ false → is_sealed x ≡ false → FitsPlan o.plan (begun_at o.plan x) → is_sealed (begun_at o.plan x) ≡ false
      → HasAtLeast 0 (begun_at o.plan x) → Fits o old.drives.each (Begins d) → BegunAloud o d x old.drives new before after → IsRun o new
  begun_run d x before after is live unsealed fits_now more enough fits b = step b.ok b.stands
    where
      step : (ok : Bool) → MovesOrDrops d ok (begun_at o.plan x) old.drives new.drives → IsRun o new
      step true m = by_line o old new rules (moves_fit o.plan d old.drives new.drives rules.drives (begun_at o.plan x) (ap is_gone is ∙ live) (ap is_sealed is ∙ unsealed) fits_now more m)
          b.said (after_begin (length old.drives.each) d) (begin_open (length old.drives.each) d)
          (begin_next o new.drives.each (length old.drives.each) m.each.count d rules.plan.inventory.some (puts_next (HasAtLeast 0) d (begun_at o.plan x) old.drives.each new.drives.each fits.1 enough m.each)) b.goes
      step false m = by_line o old new rules (drops_fit o.plan d old.drives new.drives rules.drives (ap is_sealed is ∙ unsealed) m)
          b.said (after_begin (length old.drives.each) d) (begin_open (length old.drives.each) d)
          (begin_next o new.drives.each (length old.drives.each) m.each.count d rules.plan.inventory.some (puts_next (HasAtLeast 0) d Gone old.drives.each new.drives.each fits.1 tt m.each)) b.goes

  begin_run : (d : ℕ) (before after : World) → Fits o old.drives.each (Begins d) → (x : DriveAt) → drive_at old.drives.each d ≡ x → BeginTurn o d x old.drives new before after → IsRun o new
  begin_run d before after fits Gone is turn = passes_run (after_begin (length old.drives.each) d) before after (begin_open (length old.drives.each) d)
      (begin_next o old.drives.each (length old.drives.each) refl d rules.plan.inventory.some (before_next (HasAtLeast 0) d old.drives.each fits.1 (subst (HasAtLeast 0) (sym is) tt))) turn
  begin_run d before after fits (Found recs) is turn = passes_run (after_begin (length old.drives.each) d) before after (begin_open (length old.drives.each) d)
      (begin_next o old.drives.each (length old.drives.each) refl d rules.plan.inventory.some (before_next (HasAtLeast 0) d old.drives.each fits.1 (subst (HasAtLeast 0) (sym is) tt))) turn
  begin_run d before after fits Sealed is turn = passes_run (after_begin (length old.drives.each) d) before after (begin_open (length old.drives.each) d)
      (begin_next o old.drives.each (length old.drives.each) refl d rules.plan.inventory.some (before_next (HasAtLeast 0) d old.drives.each fits.1 (subst (HasAtLeast 0) (sym is) tt))) turn
  begin_run d before after fits Fresh is turn = begun_run d Fresh before after is refl refl (records_none o.plan.files, refl) refl (omega arith) fits turn
  begin_run d before after fits (Begun recs gate kept) is turn = begun_run d (Begun recs gate kept) before after is refl refl (subst (FitsPlan o.plan) is (rules.drives.each d)) refl (omega arith) fits turn

  -- the drives of a file were chosen
  file_run : (i : ℕ) (before after : World) → Fits o old.drives.each (File i) → FileTurn o i old.drives new before after → IsRun o new
  file_run i before after fits (inl a) = on o old new rules (same_fit a.drives) (Copies i a.copy) (λ e. absurd (cc e))
      (subst (λ (d : Drives). FitsCopy o d.each i a.copy) (sym a.drives) (record {
        card = a.opens.card;
        sized = size_at o.plan i a.file a.is_file ∙ ap (λ (size : ℕ). Some size) (sym a.opens.sized);
        slots = a.opens.slots;
        some = a.some;
        live = a.opens.live;
        have = fits.1;
      })) a.goes
  file_run i before after fits (inr (nowhere, p)) = passes_run (after_file (files_of o.plan) i) before after (file_open (files_of o.plan) i)
      (file_next o old.drives.each (length old.drives.each) refl i rules.drives.some fits.0 (λ k. not_due i (drive_at old.drives.each k) (nowhere k) (fits.1 k))) p

  -- one turn of a copy
  copy_run : (i : ℕ) (copy : FileCopy) (pool pool_after : PoolState) (before after : World) → FitsCopy o old.drives.each i copy → CopyActed o i copy old.drives new pool pool_after before after → IsRun o new
  copy_run i copy pool pool_after before after fits a = step a.came a.go_on a.settles
    where
      within : i < files_of o.plan
      within = sized_within o.plan i (size_of copy) fits.sized

      sized : IsSizeOf o.plan i (size_of a.next)
      sized = subst (IsSizeOf o.plan i) (sym a.same.1) fits.sized

      -- the drive of the copy is begun
      unsealed : (d : ℕ) → has (live_of copy) d ≡ true → is_sealed (drive_at old.drives.each d) ≡ false
      unsealed d live = by (due i (drive_at old.drives.each d)) refl
        where
          by : (found : Option Journaled) → due i (drive_at old.drives.each d) ≡ found → is_sealed (drive_at old.drives.each d) ≡ false
          by None is = absurd (false≢true (sym (ap (λ (f : Option Journaled). is_some f) is) ∙ sym (fits.live d) ∙ live))
          by (Some was) is = ap is_sealed (due_begun i (drive_at old.drives.each d) was is).0

      dropped : (d : ℕ) → (has (live_of copy) d ≡ true) × (live_of a.next ≡ slice_set (live_of copy) d false) → CopyDrops (files_of o.plan) i d a.next old.drives new a.mid after → IsRun o new
      dropped d go s = by_line o old new rules (drops_fit o.plan d old.drives new.drives rules.drives (unsealed d go.0) s.drops) s.said (copies_on (files_of o.plan) i a.next) (copies_open (files_of o.plan) i a.next)
          (choose (is_some (lowest (live_of a.next))) refl) s.goes
        where
          live : (k : ℕ) → has (live_of a.next) k ≡ is_some (due i (drive_at new.drives.each k))
          live k = ap (λ (l : List Bool). has l k) go.1 ∙ live_still i d old.drives.each new.drives.each (live_of copy) fits.live s.drops.each k

          have : AllHave i new.drives.each
          have = puts_all (HasAtLeast i) d Gone old.drives.each new.drives.each fits.have tt s.drops.each

          choose : (b : Bool) → is_some (lowest (live_of a.next)) ≡ b → Fits o new.drives.each (if b then Copies i a.next else after_file (files_of o.plan) i)
          choose true is = record {
            card = a.same.0 ∙ fits.card;
            sized = sized;
            slots = a.same.2 ∙ fits.slots;
            some = λ none. false≢true (sym (ap (λ (f : Option ℕ). is_some f) none) ∙ is);
            live = live;
            have = have;
          }
          choose false is = file_next o new.drives.each (length old.drives.each) s.drops.each.count i rules.drives.some within (none_due i new.drives.each (live_of a.next) live (none_if (lowest (live_of a.next)) is) have)

      step : (came : Turn) → GoOn came (live_of copy) (live_of a.next) → CopySettles (files_of o.plan) i came a.next old.drives new a.mid after → IsRun o new
      step CopyGoes go s = on o old new rules (same_fit s.0) (Copies i a.next) (λ e. absurd (cc e))
          (subst (λ (d : Drives). FitsCopy o d.each i a.next) (sym s.0) (record {
            card = a.same.0 ∙ fits.card;
            sized = sized;
            slots = a.same.2 ∙ fits.slots;
            some = subst (λ (l : List Bool). lowest l ≢ None) (sym go) fits.some;
            live = λ d. ap (λ (l : List Bool). has l d) go ∙ fits.live d;
            have = fits.have;
          })) s.1
      step (Dropped d) go s = dropped d go s
      step (Copied t) go s = on o old new rules (same_fit s.0) (Dates i t) (λ e. absurd (cc e))
          (subst (λ (d : Drives). Fits o d.each (Dates i t)) (sym s.0) (within, due_somewhere i old.drives.each (live_of copy) fits.live fits.some, fits.have)) s.1
      step CardFailed go s = over o old new rules (same_fit s.0) SourceFailed (λ e. absurd (cc e)) s.1
      step (CardChanged listed read) go s = over o old new rules (same_fit s.0) (Changed i listed read) (λ e. absurd (cc e)) s.1
      step NoneLeft go s = absurd s

  -- the moment of a file was asked
  date_run : (i : ℕ) (t : Triple) (before after : World) → Fits o old.drives.each (Dates i t) → (found : Option Listed) → other_listed o.listed i t ≡ found → DateTurn o i t found old.drives new before after → IsRun o new
  date_run i t before after fits None as_listed a =
      let rec : Rec = record { index = i; size = a.file.size; triple = t; hashed = a.seconds } in
      on o old new rules (same_fit a.drives) (Records rec 0) (λ e. absurd (cc e))
      (subst (λ (d : Drives). FitsRecord o d.each rec 0) (sym a.drives) (record {
        there = rules.drives.some;
        sized = size_at o.plan i a.file a.is_file;
        agrees = as_listed;
        before = λ k early. absurd (omega (arith, early));
        have = fits.2;
      })) a.goes
  date_run i t before after fits (Some l) as_listed a = over o old new rules (same_fit a.0) (Altered i l t) (λ e. absurd (cc e)) a.1

  -- a file was recorded on a drive
  record_run : (rec : Rec) (d : ℕ) (before after : World) → FitsRecord o old.drives.each rec d → (found : Option Journaled) → due rec.index (drive_at old.drives.each d) ≡ found → RecordTurn o rec d found old.drives new before after → IsRun o new
  record_run rec d before after fits None is p = passes_run (after_record (length old.drives.each) (files_of o.plan) rec d) before after (record_open (length old.drives.each) (files_of o.plan) rec d)
      (record_next o old.drives.each (length old.drives.each) refl rec d rules.drives.some (sized_within o.plan rec.index rec.size fits.sized) fits.sized fits.agrees
      (before_next (HasAtLeast (suc rec.index)) d old.drives.each fits.before (not_due rec.index (drive_at old.drives.each d) is (fits.have d))) fits.have) p
  record_run rec d before after fits (Some was) is r = step r.came r.next r.stands
    where
      begun : (drive_at old.drives.each d ≡ Begun was.recs was.gate was.kept) × (length was.recs ≡ rec.index)
      begun = due_begun rec.index (drive_at old.drives.each d) was is

      known : FitsPlan o.plan (Begun was.recs was.gate was.kept)
      known = subst (FitsPlan o.plan) begun.0 (rules.drives.each d)

      here : drop (length was.recs) o.plan.files ≡ r.file ∷ drop (suc (length was.recs)) o.plan.files
      here = drop_at o.plan.files (length was.recs) r.file (ap (slice_get o.plan.files) begun.1 ∙ r.is_file)

      longer : length (was.recs ++ rec ∷ []) ≡ length was.recs + 1
      longer = length-append was.recs (rec ∷ [])

      is_record : IsRecord (0 + length was.recs) r.file rec
      is_record = record { shape = r.shape; index = (let count = begun.1 in omega (arith, count)); size = same_size o.plan rec.index rec.size r.file fits.sized r.is_file }

      next_fits : (now : DriveAt) → HasAtLeast (suc rec.index) now → Puts d now old.drives.each new.drives.each → Fits o new.drives.each (after_record (length old.drives.each) (files_of o.plan) rec d)
      next_fits now enough p = record_next o new.drives.each (length old.drives.each) p.count rec d rules.drives.some (sized_within o.plan rec.index rec.size fits.sized) fits.sized fits.agrees
          (puts_next (HasAtLeast (suc rec.index)) d now old.drives.each new.drives.each fits.before enough p)
          (puts_all (HasAtLeast rec.index) d now old.drives.each new.drives.each fits.have (fewer rec.index (suc rec.index) now (omega arith) enough) p)

      step : (came : Result Gate ReadBackError) → IfOk came (λ next. next ≡ next_gate o.plan (length was.recs + 1)) → RecordStands d was.recs rec came old.drives new.drives → IsRun o new
      step (Ok next) gate m = by_line o old new rules
          (moves_fit o.plan d old.drives new.drives rules.drives (Begun (was.recs ++ rec ∷ []) next false) (ap is_gone begun.0) (ap is_sealed begun.0)
          (records_push 0 o.plan.files was.recs r.file (drop (suc (length was.recs)) o.plan.files) rec known.0 here is_record, gate ∙ ap (next_gate o.plan) (sym longer)) refl m)
          r.said (after_record (length old.drives.each) (files_of o.plan) rec d) (record_open (length old.drives.each) (files_of o.plan) rec d)
          (next_fits (Begun (was.recs ++ rec ∷ []) next false) (let count = begun.1 in omega (arith, count, longer)) m.each) r.goes
      step (Err e) gate m = by_line o old new rules (drops_fit o.plan d old.drives new.drives rules.drives (ap is_sealed begun.0) m)
          r.said (after_record (length old.drives.each) (files_of o.plan) rec d) (record_open (length old.drives.each) (files_of o.plan) rec d) (next_fits Gone tt m.each) r.goes

  -- a drive was sealed
  seal_fits : (d : ℕ) (now : DriveAt) → IsOver now → HasAtLeast (files_of o.plan) now → FitsSeal o old.drives.each d → Puts d now old.drives.each new.drives.each → Fits o new.drives.each (after_seal (length old.drives.each) d)
  seal_fits d now done enough fits p = seal_next o new.drives.each (length old.drives.each) p.count d (puts_next IsOver d now old.drives.each new.drives.each fits.before done p)
      (puts_all (HasAtLeast (files_of o.plan)) d now old.drives.each new.drives.each fits.have enough p)

  seal_passed : (d : ℕ) (before after : World) → FitsSeal o old.drives.each d → IsOver (drive_at old.drives.each d) → Passes (after_seal (length old.drives.each) d) old.drives new before after → IsRun o new
  seal_passed d before after fits done p = passes_run (after_seal (length old.drives.each) d) before after (seal_open (length old.drives.each) d)
      (seal_next o old.drives.each (length old.drives.each) refl d (before_next IsOver d old.drives.each fits.before done) fits.have) p

  seal_run : (d : ℕ) (before after : World) → FitsSeal o old.drives.each d → (x : DriveAt) → drive_at old.drives.each d ≡ x → SealTurn o d x old.drives new before after → IsRun o new
  seal_run d before after fits Gone is p = seal_passed d before after fits (subst IsOver (sym is) tt) p
  seal_run d before after fits Sealed is p = seal_passed d before after fits (subst IsOver (sym is) tt) p
  seal_run d before after fits Fresh is p = absurd p
  seal_run d before after fits (Found recs) is a = by_line o old new rules (seals_fit o.plan d old.drives new.drives rules.drives (ap is_gone is) a.stands) a.said
      (after_seal (length old.drives.each) d) (seal_open (length old.drives.each) d) (seal_fits d Sealed tt tt fits a.stands.each) a.goes
  seal_run d before after fits (Begun recs gate kept) is a = step a.came a.stands
    where
      step : (came : Result Unit SealError) → SealStands d came old.drives new.drives → IsRun o new
      step (Ok u) m = by_line o old new rules (seals_fit o.plan d old.drives new.drives rules.drives (ap is_gone is) m) a.said
          (after_seal (length old.drives.each) d) (seal_open (length old.drives.each) d) (seal_fits d Sealed tt tt fits m.each) a.goes
      step (Err e) m = by_line o old new rules (drops_fit o.plan d old.drives new.drives rules.drives (ap is_sealed is) m) a.said
          (after_seal (length old.drives.each) d) (seal_open (length old.drives.each) d) (seal_fits d Gone tt tt fits m.each) a.goes

  -- the run has ended
  clear_run : (before after : World) (sealed : ℕ) (due : Bool) → new.drives ≡ old.drives → ClearTurn o.copies sealed due new before after → IsRun o new
  clear_run before after sealed true same a = over o old new rules (same_fit same) (if a.said then end_of sealed else OutFailed) (closed a.said) a.ends
    where
      closed : (said : Bool) → (if said then end_of sealed else OutFailed) ≢ Going
      closed true e = end_closed sealed e
      closed false e = absurd (cc e)
  clear_run before after sealed false same a = over o old new rules (same_fit same) (end_of sealed) (end_closed sealed) a.0

  acted_run : (phase : Phase) (pool pool_after : PoolState) (before after : World) → Fits o old.drives.each phase → Acted o phase old new pool pool_after before after → IsRun o new
  acted_run (Begins d) pool pool_after before after fits a = begin_run d before after fits (drive_at old.drives.each d) refl a
  acted_run (File i) pool pool_after before after fits a = file_run i before after fits a
  acted_run (Copies i copy) pool pool_after before after fits a = copy_run i copy pool pool_after before after fits a
  acted_run (Dates i t) pool pool_after before after fits a = date_run i t before after fits (other_listed o.listed i t) refl a
  acted_run (Records rec d) pool pool_after before after fits a = record_run rec d before after fits (due rec.index (drive_at old.drives.each d)) refl a
  acted_run (Seals d) pool pool_after before after fits a = seal_run d before after fits (drive_at old.drives.each d) refl a
  acted_run Clears pool pool_after before after fits a = clear_run before after (count_sealed old.drives.each) (is_clear (count_sealed old.drives.each) o.copies) a.0 a.1
  acted_run Ended pool pool_after before after fits a = subst (IsRun o) (sym a.0) rules

-- one turn keeps the rules
pub turn_run : (o : Ordered) (old new : At) (pool pool_after : PoolState) (before after : World) → IsRun o old → Turned o old new pool pool_after before after → IsRun o new
turn_run o old new pool pool_after before after rules t = acted_run o old new rules old.phase pool pool_after before after rules.fits t

-- any number of turns do
pub runs_run : (o : Ordered) (a b : Point) → IsRun o a.at → Runs o a b → IsRun o b.at
runs_run o a b rules starts = rules
runs_run o a b rules (turns {b = m} {c = n} before t) = turn_run o m.at b.at m.pool b.pool m.world b.world (runs_run o a m rules before) t
runs_run o a b rules (beside {b = m} {c = n} before t) = subst (IsRun o) (sym t.same) (runs_run o a m rules before)

-- turns with nothing between them
pub alone_runs : (o : Ordered) (a b : Point) → Alone o a b → Runs o a b
alone_runs o a b still = starts
alone_runs o a b (turned {b = m} {c = n} before t) = turns (alone_runs o a m before) t

-- as a run is made
pub start_bound : (o : Ordered) (at : At) → IsStart o at → left_at (length at.drives.each) o.plan at.phase ≤ bound (length at.drives.each) o.plan
start_bound o at s = subst (λ (phase : Phase). left_at (length at.drives.each) o.plan phase ≤ bound (length at.drives.each) o.plan) (sym s.phase) (omega arith)

-- until a run has ended
pub left_some : (w : ℕ) (p : PlanValue) (phase : Phase) → phase ≢ Ended → 1 ≤ left_at w p phase
left_some w p (Begins d) going = omega arith
left_some w p (File i) going = omega arith
left_some w p (Copies i copy) going = omega arith
left_some w p (Dates i t) going = omega arith
left_some w p (Records rec d) going = omega arith
left_some w p (Seals d) going = omega arith
left_some w p Clears going = omega arith
left_some w p Ended going = absurd (going refl)
