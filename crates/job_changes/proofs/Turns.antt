-- The turns of a run of which no drive was begun before change its own paths alone.
use Rattle.std.proofs.Common.{◌≡◌, inl, inr, ℕ, suc, ◌≤◌, Bool, true, false, List, length, refl, sym, subst, arith}
use Rattle.std.specs.Prelude.{Option, Some, None, nat_lt, if◌then◌else◌}
use Rattle.std.specs.List.{slice_get}
use Rattle.std.proofs.lemmas.Option.{slice_get_within, get_or_from_slice_get}
use Rattle.bay_core.specs.declared.event.Event.{Event}
use Rattle.bay_core.specs.Replay.{Device, Output, Clock}
use Rattle.bay_core.specs.World.{World}
use Rattle.bay_core.specs.Went.{AllOn, Only, Went}
use Rattle.copy_plan.specs.declared.file.PlannedFile.{PlannedFile}
use Rattle.copy_plan.specs.Plan.{PlanValue}
use Rattle.copy_plan.proofs.Files.{AllByRecursion-append}
use Rattle.digest_set.specs.declared.triple.Triple.{Triple}
use Rattle.drive_journal.specs.declared.order.Listed.{Listed}
use Rattle.drive_journal.specs.declared.record.Rec.{Rec}
use Rattle.fan_copier.specs.declared.copy.FileCopy.{FileCopy}
use Rattle.fan_copier.specs.declared.turn.Turn.{Turn}
use Rattle.fan_copier.specs.declared.turn.Turn.TheVariants.{Going, Dropped, Copied, SourceFailed, Changed, NoDrive}
use Rattle.fan_copier.specs.Copying.{card_of}
use Rattle.seal_step.specs.Parts.{list_parts}
use Rattle.run_state.specs.declared.phase.Phase.{Phase}
use Rattle.run_state.specs.declared.phase.Phase.TheVariants.{Begins, File, Copies, Dates, Records, Seals, Clears, Ended}
use Rattle.run_state.specs.Acts.{Goes, Puts, begun_at, MovesOrDrops, BeginTurn, CopySettles, CopyActed, other_listed, DateTurn, RecordedAloud, RecordTurn, SealTurn, is_clear, ClearTurn}
use Rattle.run_state.specs.Runs.{Point, Alone, still, turned, IsPlanned}
use Rattle.run_state.specs.State.{Ordered, DriveAt, Gone, Fresh, Begun, Found, Sealed, Drives, At, Journaled, files_of, drive_at, count_sealed, due, after_begin}
use Rattle.run_state.specs.Turn.{Acted}
use Rattle.run_reads.proofs.Following.{ComesNext, turn_comes}
use Rattle.run_reads.proofs.Since.{Since, since_none, since_more, since_same}
use Rattle.job_reads.proofs.Turning.{IsNew}
use Rattle.job_changes.specs.Changes.{IsOwnChange}
use Rattle.job_changes.proofs.Acts.{AllOwn, begin_own, seal_own, record_own, copy_own, off_own}

-- ---- the drives that are still to be begun were not begun before

abbrev pub AreNewFrom : Phase → Drives → Type 0
AreNewFrom (Begins e) drives = (k : ℕ) → e ≤ k → IsNew (drive_at drives.each k)
AreNewFrom _ drives = Unit {0}

-- once the first file is to be copied, no drive is begun any more
abbrev IsBegin : Phase → Type 0
IsBegin (Begins e) = Unit {0}
IsBegin _ = ⊥

not_back : (was now : Phase) (drives : Drives) → (IsBegin was → ⊥) → ComesNext was now → AreNewFrom now drives
not_back (Begins e) now drives other comes = absurd (other tt)
not_back (File i) (Begins k) drives other comes = absurd comes
not_back (Copies i copy) (Begins k) drives other comes = absurd comes
not_back (Dates i t) (Begins k) drives other comes = absurd comes
not_back (Records rec e) (Begins k) drives other comes = absurd comes
not_back (Seals e) (Begins k) drives other comes = absurd comes
not_back Clears (Begins k) drives other comes = absurd comes
not_back Ended (Begins k) drives other comes = absurd comes
not_back was now drives other comes = tt

module _ (old : Drives) (new : At) (e : ℕ) (fresh : (k : ℕ) → e ≤ k → IsNew (drive_at old.each k)) where
  put_new : (x : DriveAt) → Puts e x old.each new.drives.each → (k : ℕ) → suc e ≤ k → IsNew (drive_at new.drives.each k)
  put_new x puts k low = subst IsNew (sym (puts.others k (λ same. omega (arith, low, same)))) (fresh k (omega (arith, low)))

  moved_new : (ok : Bool) (x : DriveAt) → MovesOrDrops e ok x old new.drives → (k : ℕ) → suc e ≤ k → IsNew (drive_at new.drives.each k)
  moved_new true x m = put_new x m.each
  moved_new false x m = put_new Gone m.each

  same_new : new.drives ≡ old → (k : ℕ) → suc e ≤ k → IsNew (drive_at new.drives.each k)
  same_new same k low = subst (λ (drives : Drives). IsNew (drive_at drives.each k)) (sym same) (fresh k (omega (arith, low)))

  next_new : ((k : ℕ) → suc e ≤ k → IsNew (drive_at new.drives.each k)) → (more : Bool) → AreNewFrom (if more then Begins (suc e) else File 0) new.drives
  next_new later true = later
  next_new later false = tt

  goes_new : (said : Bool) → Goes said (after_begin (length old.each) e) new → ((k : ℕ) → suc e ≤ k → IsNew (drive_at new.drives.each k)) → AreNewFrom new.phase new.drives
  goes_new true goes later = subst (λ (phase : Phase). AreNewFrom phase new.drives) (sym goes.0) (next_new later (nat_lt (suc e) (length old.each)))
  goes_new false goes later = subst (λ (phase : Phase). AreNewFrom phase new.drives) (sym goes.0) tt

module _ (o : Ordered) (b c : Point) where
  begun_new : (e : ℕ) (was : DriveAt) → ((k : ℕ) → e ≤ k → IsNew (drive_at b.at.drives.each k)) → BeginTurn o e was b.at.drives c.at b.world c.world → AreNewFrom c.at.phase c.at.drives
  begun_new e Fresh fresh t = goes_new b.at.drives c.at e fresh t.said t.goes (moved_new b.at.drives c.at e fresh t.ok (begun_at o.plan Fresh) t.stands)
  begun_new e (Begun recs gate kept) fresh t = goes_new b.at.drives c.at e fresh t.said t.goes (moved_new b.at.drives c.at e fresh t.ok (begun_at o.plan (Begun recs gate kept)) t.stands)
  begun_new e Gone fresh t = goes_new b.at.drives c.at e fresh true t.goes (same_new b.at.drives c.at e fresh t.drives)
  begun_new e (Found recs) fresh t = goes_new b.at.drives c.at e fresh true t.goes (same_new b.at.drives c.at e fresh t.drives)
  begun_new e Sealed fresh t = goes_new b.at.drives c.at e fresh true t.goes (same_new b.at.drives c.at e fresh t.drives)

  turn_new : (phase : Phase) → b.at.phase ≡ phase → AreNewFrom phase b.at.drives → Acted o phase b.at c.at b.pool c.pool b.world c.world → AreNewFrom c.at.phase c.at.drives
  turn_new (Begins e) is fresh t = begun_new e (drive_at b.at.drives.each e) fresh t
  turn_new (File i) is fresh t = not_back (File i) c.at.phase c.at.drives (λ never. never) (turn_comes o b c (File i) is t)
  turn_new (Copies i copy) is fresh t = not_back (Copies i copy) c.at.phase c.at.drives (λ never. never) (turn_comes o b c (Copies i copy) is t)
  turn_new (Dates i x) is fresh t = not_back (Dates i x) c.at.phase c.at.drives (λ never. never) (turn_comes o b c (Dates i x) is t)
  turn_new (Records rec e) is fresh t = not_back (Records rec e) c.at.phase c.at.drives (λ never. never) (turn_comes o b c (Records rec e) is t)
  turn_new (Seals e) is fresh t = not_back (Seals e) c.at.phase c.at.drives (λ never. never) (turn_comes o b c (Seals e) is t)
  turn_new Clears is fresh t = not_back Clears c.at.phase c.at.drives (λ never. never) (turn_comes o b c Clears is t)
  turn_new Ended is fresh t = not_back Ended c.at.phase c.at.drives (λ never. never) (turn_comes o b c Ended is t)

-- ---- what each turn changes

planned_at : (p : PlanValue) (i : ℕ) (file : PlannedFile) → slice_get p.files i ≡ Some file → IsPlanned p file.path
planned_at p i file is = (file, (i, slice_get_within p.files i file is, get_or_from_slice_get p.files i file file is), refl)

module _ (o : Ordered) (a : Point) where
  abbrev Owns : World → Type 0
  Owns w = Since (AllOwn o.plan) a.world w

  more : {On : Device → Type 0} {P : List Event → Type 0} {w new : World} → Went On P w new → ((L : List Event) → AllOn On L → P L → AllOwn o.plan L) → Owns w → Owns new
  more went so far = since_more far went (λ A B was on such. AllByRecursion-append (IsOwnChange o.plan) A B was (so B on such))

  line : {P : List Event → Type 0} {w new : World} → Went (Only Output) P w new → Owns w → Owns new
  line went far = more went (λ L on such. off_own o.plan (Only Output) (λ d is. absurd (cc is)) L on) far

  clock : {P : List Event → Type 0} {w new : World} → Went (Only Clock) P w new → Owns w → Owns new
  clock went far = more went (λ L on such. off_own o.plan (Only Clock) (λ d is. absurd (cc is)) L on) far

  begin_owns : (b c : Point) (e : ℕ) (was : DriveAt) → IsNew was → BeginTurn o e was b.at.drives c.at b.world c.world → Owns b.world → Owns c.world
  begin_owns b c e Fresh fresh t far = line t.line.went (more t.tried.0.went (λ L on ran. begin_own o.plan e t.ok L ran) far)
  begin_owns b c e Gone fresh t far = since_same t.idle far
  begin_owns b c e (Begun recs gate kept) fresh t far = absurd fresh
  begin_owns b c e (Found recs) fresh t far = absurd fresh
  begin_owns b c e Sealed fresh t far = absurd fresh

  settles_owns : (b c : Point) (i : ℕ) (came : Turn) (next : FileCopy) (mid : World) → CopySettles (files_of o.plan) i came next b.at.drives c.at mid c.world → Owns mid → Owns c.world
  settles_owns b c i Going next mid s far = since_same s.2 far
  settles_owns b c i (Dropped e) next mid s far = line s.line.went far
  settles_owns b c i (Copied t) next mid s far = since_same s.2 far
  settles_owns b c i SourceFailed next mid s far = since_same s.2 far
  settles_owns b c i (Changed listed read) next mid s far = since_same s.2 far
  settles_owns b c i NoDrive next mid s far = absurd s

  copied_owns : (b c : Point) (i : ℕ) (copy : FileCopy) → CopyActed o i copy b.at.drives c.at b.pool c.pool b.world c.world → Owns b.world → Owns c.world
  copied_owns b c i copy t far = settles_owns b c i t.came t.next t.mid t.settles (more t.touches (λ L on are. copy_own o.plan (card_of copy) t.file.path L are) far)

  date_owns : (b c : Point) (i : ℕ) (t : Triple) (other : Option Listed) → DateTurn o i t other b.at.drives c.at b.world c.world → Owns b.world → Owns c.world
  date_owns b c i t None act far = clock act.asked far
  date_owns b c i t (Some l) act far = since_same act.2 far

  aloud_owns : (b c : Point) (rec : Rec) (e : ℕ) (was : Journaled) → RecordedAloud o rec e was b.at.drives c.at b.world c.world → Owns b.world → Owns c.world
  aloud_owns b c rec e was t far =
      line t.line.went (more t.went (λ L on calls. record_own o.plan e was.gate.at t.file.path rec (planned_at o.plan rec.index t.file t.is_file) t.came L calls) far)

  recorded_owns : (b c : Point) (rec : Rec) (e : ℕ) (was : Option Journaled) → RecordTurn o rec e was b.at.drives c.at b.world c.world → Owns b.world → Owns c.world
  recorded_owns b c rec e None t far = since_same t.idle far
  recorded_owns b c rec e (Some was) t far = aloud_owns b c rec e was t far

  sealed_owns : (b c : Point) (e : ℕ) (x : DriveAt) → SealTurn o e x b.at.drives c.at b.world c.world → Owns b.world → Owns c.world
  sealed_owns b c e (Begun recs gate kept) t far = line t.line.went (more t.went (λ L on calls. seal_own o.plan e (list_parts o.plan recs t.finish) t.came L calls) (clock t.asked far))
  sealed_owns b c e (Found recs) t far = line t.line.went far
  sealed_owns b c e Fresh t far = absurd t
  sealed_owns b c e Gone t far = since_same t.idle far
  sealed_owns b c e Sealed t far = since_same t.idle far

  clear_owns : (b c : Point) (required sealed : ℕ) (is_due : Bool) → ClearTurn required sealed is_due c.at b.world c.world → Owns b.world → Owns c.world
  clear_owns b c required sealed true t far = line t.line.went far
  clear_owns b c required sealed false t far = since_same t.1 far

  turn_owns : (b c : Point) (phase : Phase) → AreNewFrom phase b.at.drives → Acted o phase b.at c.at b.pool c.pool b.world c.world → Owns b.world → Owns c.world
  turn_owns b c (Begins e) fresh t far = begin_owns b c e (drive_at b.at.drives.each e) (fresh e (omega arith)) t far
  turn_owns b c (File i) fresh (inl t) far = since_same t.idle far
  turn_owns b c (File i) fresh (inr t) far = since_same t.1.idle far
  turn_owns b c (Copies i copy) fresh t far = copied_owns b c i copy t far
  turn_owns b c (Dates i x) fresh t far = date_owns b c i x (other_listed o.listed i x) t far
  turn_owns b c (Records rec e) fresh t far = recorded_owns b c rec e (due rec.index (drive_at b.at.drives.each e)) t far
  turn_owns b c (Seals e) fresh t far = sealed_owns b c e (drive_at b.at.drives.each e) t far
  turn_owns b c Clears fresh t far = clear_owns b c o.copies (count_sealed b.at.drives.each) (is_clear (count_sealed b.at.drives.each) o.copies) t.1 far
  turn_owns b c Ended fresh t far = since_same t.2 far

  -- over any number of turns
  stay_new : AreNewFrom a.at.phase a.at.drives → (b : Point) → Alone o a b → AreNewFrom b.at.phase b.at.drives
  stay_new fresh b still = fresh
  stay_new fresh b (turned {b = x} so_far t) = turn_new o x b x.at.phase refl (stay_new fresh x so_far) t

  pub turns_own : AreNewFrom a.at.phase a.at.drives → (b : Point) → Alone o a b → Owns b.world
  turns_own fresh b still = since_none a.world tt
  turns_own fresh b (turned {b = x} so_far t) = turn_owns x b x.at.phase (stay_new fresh x so_far) t (turns_own fresh x so_far)
