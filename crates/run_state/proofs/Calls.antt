-- What a turn calls and says.
use Rattle.std.proofs.Common.{◌≡◌, ◌≢◌, inl, inr, ℕ, ◌^◌, ◌<◌, Bool, true, false, List, [], ◌∷◌, ◌++◌, length, refl, sym, ◌∙◌, ap, subst, arith}
use Rattle.std.specs.Prelude.{Option, Some, None, is_some}
use Rattle.std.specs.List.{slice_get}
use Rattle.std.proofs.lemmas.Bool.{false≢true}
use Rattle.std.proofs.lemmas.Option.{slice_get_within, get_or_from_slice_get}
use Rattle.bay_core.specs.declared.event.Event.{Event}
use Rattle.bay_core.specs.declared.event.Event.TheVariants.{AttachSource, AttachDrive, AttachFailed, SourceList, SourceRead, DriveList, DriveRead, Write, Sync, Rename, Remove, Moment, Pick, Say}
use Rattle.bay_core.specs.Replay.{Device, Source, Drive, Output, Clock, device_of}
use Rattle.bay_core.specs.Went.{AllOn, Only, Ran, Went, say_call}
use Rattle.bay_core.specs.World.{World}
use Rattle.bay_core.proofs.Runs.{all_on, went_none, went_such, went_then}
use Rattle.block_pool.specs.Lent.{PoolState}
use Rattle.copy_plan.specs.declared.file.PlannedFile.{PlannedFile}
use Rattle.copy_plan.specs.Plan.{PlanValue, list_of}
use Rattle.digest_set.specs.declared.triple.Triple.{Triple}
use Rattle.drive_journal.specs.declared.order.Listed.{Listed}
use Rattle.drive_journal.specs.declared.record.Rec.{Rec}
use Rattle.fan_core.specs.Flags.{has}
use Rattle.fan_copier.specs.declared.copy.FileCopy.{FileCopy}
use Rattle.fan_copier.specs.declared.turn.Turn.{Turn}
use Rattle.fan_copier.specs.declared.turn.Turn.TheVariants.{Going as CopyGoes, Dropped, Copied, SourceFailed as CardFailed, Changed as CardChanged, NoDrive as NoneLeft}
use Rattle.fan_copier.specs.Copying.{card_of, live_of}
use Rattle.fan_copier.specs.Turning.{Touches, IsCopyCall, AreCopyCalls, GoOn}
use Rattle.report_text.specs.Run.{sealed_text, clear_text}
use Rattle.report_text.specs.Losses.{dropped_fault_text}
use Rattle.run_state.specs.declared.phase.Phase.{Phase}
use Rattle.run_state.specs.declared.phase.Phase.TheVariants.{Begins, File, Copies, Dates, Records, Seals, Clears, Ended}
use Rattle.run_state.specs.Acts.{Says, Passes, records_at, begin_line, BegunAloud, BeginTurn, FileTurn, CopyDrops, CopySettles, CopyActed, other_listed, DateTurn, record_line, RecordTurn, seal_line, SealTurn, is_clear, ClearTurn}
use Rattle.run_state.specs.Calls.{IsOfRun, IsAboutNoneOver, IsTurnCall, AreTurnCalls}
use Rattle.run_state.specs.Rules.{IsOver, FitsCopy, Fits, IsRun}
use Rattle.run_state.specs.Runs.{IsPlanned, is_about}
use Rattle.run_state.specs.State.{Ordered, DriveAt, Gone, Fresh, Begun, Found, Sealed, Drives, At, Journaled, IsCalled, files_of, drive_at, is_gone, count_sealed, due, after_begin, after_file, after_record, after_seal}
use Rattle.run_state.specs.Turn.{Acted, Turned}
use Rattle.run_state.proofs.Drives.{there}
use Rattle.run_state.proofs.Keeping.{due_begun}
use Rattle.run_state.proofs.Lines.{fault_off, begin_off, record_off, sealed_off, seal_off, clear_off}

-- ---- drives

pub called_if_due : (i : ℕ) (x : DriveAt) → is_some (due i x) ≡ true → IsCalled x
called_if_due i Gone some = absurd (false≢true some)
called_if_due i Fresh some = tt
called_if_due i (Begun recs gate kept) some = tt
called_if_due i (Found recs) some = absurd (false≢true some)
called_if_due i Sealed some = absurd (false≢true some)

pub called_not_gone : (x : DriveAt) → IsCalled x → is_gone x ≡ false
called_not_gone Gone called = absurd called
called_not_gone Fresh called = refl
called_not_gone (Begun recs gate kept) called = refl
called_not_gone (Found recs) called = absurd called
called_not_gone Sealed called = absurd called

pub called_not_over : (x : DriveAt) → IsCalled x → IsOver x → ⊥
called_not_over Gone called over = called
called_not_over Fresh called over = over
called_not_over (Begun recs gate kept) called over = over
called_not_over (Found recs) called over = over
called_not_over Sealed called over = called

-- ---- calls

module _ (o : Ordered) (drives : Drives) where
  none_calls : AreTurnCalls o drives []
  unfolding AreTurnCalls
  none_calls = tt

  calls_then : (A B : List Event) → AreTurnCalls o drives A → AreTurnCalls o drives B → AreTurnCalls o drives (A ++ B)
  unfolding AreTurnCalls
  calls_then [] B a b = b
  calls_then (e ∷ A) B a b = (a.0, calls_then A B a.1 b)

  -- a call that is neither on a card nor on the output
  one_quiet : (e : Event) → ((s : ℕ) → device_of e ≢ Source s) → device_of e ≢ Output → IsTurnCall o drives e
  one_quiet (SourceList s got) off silent = absurd (off s refl)
  one_quiet (SourceRead s path at want got) off silent = absurd (off s refl)
  one_quiet (Say line ok) off silent = absurd (silent refl)
  one_quiet (AttachSource s place) off silent = tt
  one_quiet (AttachDrive d place) off silent = tt
  one_quiet (AttachFailed place) off silent = tt
  one_quiet (DriveList d got) off silent = tt
  one_quiet (DriveRead d path at want got) off silent = tt
  one_quiet (Write d path at bytes ok) off silent = tt
  one_quiet (Sync d ok) off silent = tt
  one_quiet (Rename d from to ok) off silent = tt
  one_quiet (Remove d path ok) off silent = tt
  one_quiet (Moment t) off silent = tt
  one_quiet (Pick n) off silent = tt

  quiet_calls : (On : Device → Type 0) → ((y : Device) → On y → (s : ℕ) → y ≢ Source s) → ((y : Device) → On y → y ≢ Output) → (L : List Event) → AllOn On L → AreTurnCalls o drives L
  unfolding AllOn AreTurnCalls
  quiet_calls On off silent [] on = tt
  quiet_calls On off silent (e ∷ L) on = (one_quiet e (off (device_of e) on.0) (silent (device_of e) on.0), quiet_calls On off silent L on.1)

  -- a call of a copy
  one_copied : (s : ℕ) (path : List ℕ) → s ≡ o.source → IsPlanned o.plan path → (e : Event) → IsCopyCall s path e → IsTurnCall o drives e
  one_copied s path card planned (Pick p) is = tt
  one_copied s path card planned (SourceRead e read at want got) is = (is.0 ∙ card, subst (IsPlanned o.plan) (sym is.1) planned)
  one_copied s path card planned (DriveRead d read at want got) is = tt
  one_copied s path card planned (Write d written at bytes ok) is = tt
  one_copied s path card planned (AttachSource e place) is = tt
  one_copied s path card planned (AttachDrive d place) is = tt
  one_copied s path card planned (AttachFailed place) is = tt
  one_copied s path card planned (SourceList e got) is = absurd is
  one_copied s path card planned (DriveList d got) is = tt
  one_copied s path card planned (Sync d ok) is = tt
  one_copied s path card planned (Rename d from to ok) is = tt
  one_copied s path card planned (Remove d removed ok) is = tt
  one_copied s path card planned (Moment t) is = tt
  one_copied s path card planned (Say line ok) is = absurd is

  copied_calls : (s : ℕ) (path : List ℕ) → s ≡ o.source → IsPlanned o.plan path → (L : List Event) → AreCopyCalls s path L → AreTurnCalls o drives L
  unfolding AreCopyCalls AreTurnCalls
  copied_calls s path card planned [] are = tt
  copied_calls s path card planned (e ∷ L) are = (one_copied s path card planned e are.0, copied_calls s path card planned L are.1)

  -- the call of a line
  said_calls : (line : List ℕ) (ok : Bool) → IsAboutNoneOver drives line → (L : List Event) → Ran (say_call line ∷ []) ok L → AreTurnCalls o drives L
  unfolding Ran AreTurnCalls
  said_calls line true about L (rest, is, none) = subst (AreTurnCalls o drives) (sym (is ∙ ap (λ (l : List Event). Say line true ∷ l) none)) (about, tt)
  said_calls line false about L (inl none) = subst (AreTurnCalls o drives) (sym none) tt
  said_calls line false about L (inr (inl last)) = subst (AreTurnCalls o drives) (sym last) (about, tt)
  said_calls line false about L (inr (inr (rest, is, more))) = absurd more

  -- ---- from one world to another

  abbrev Own : World → World → Type 0
  Own old new = Went (IsOfRun o drives) (AreTurnCalls o drives) old new

  own : (On : Device → Type 0) (P : List Event → Type 0) {old new : World} → ((y : Device) → On y → IsOfRun o drives y) → ((L : List Event) → AllOn On L → P L → AreTurnCalls o drives L) → Went On P old new → Own old new
  own On P {old} {new} mine such went = record {
    told = λ all now.
        let m = went.told all now in
        record { before = m.before; since = m.since; was = m.was; is = m.is; on = all_on mine m.since m.on; such = such m.since m.on m.such };
    later = went.later;
    others = λ x apart. went.others x (λ on. apart (mine x on));
    attached = went.attached;
  }

  pub own_idle : {old new : World} → new ≡ old → Own old new
  own_idle {old} {new} same = subst (λ (w : World). Own old w) (sym same) (went_such (λ L none. subst (AreTurnCalls o drives) (sym none) none_calls) (went_none (IsOfRun o drives) old))

  pub own_then : {old mid new : World} → Own old mid → Own mid new → Own old new
  own_then one two = went_such (λ L t. subst (AreTurnCalls o drives) (sym t.is) (calls_then t.first t.second t.here t.there)) (went_then one two)

  pub own_drive : (e : ℕ) {P : List Event → Type 0} {old new : World} → IsCalled (drive_at drives.each e) → Went (Only (Drive e)) P old new → Own old new
  own_drive e {P} called went =
      own (Only (Drive e)) P (λ y on. subst (IsOfRun o drives) (sym on) called)
      (λ L on such. quiet_calls (Only (Drive e)) (λ y here s is. absurd (cc (sym here ∙ is))) (λ y here is. absurd (cc (sym here ∙ is))) L on) went

  pub own_clock : {P : List Event → Type 0} {old new : World} → Went (Only Clock) P old new → Own old new
  own_clock {P} went =
      own (Only Clock) P (λ y on. subst (IsOfRun o drives) (sym on) tt)
      (λ L on such. quiet_calls (Only Clock) (λ y here s is. absurd (cc (sym here ∙ is))) (λ y here is. absurd (cc (sym here ∙ is))) L on) went

  pub own_said : (line : List ℕ) (ok : Bool) {old new : World} → IsAboutNoneOver drives line → Says line ok old new → Own old new
  own_said line ok about said =
      own (Only Output) (Ran (say_call line ∷ []) ok) (λ y on. subst (IsOfRun o drives) (sym on) tt) (λ L on such. said_calls line ok about L such) said.went

  pub own_copied : (s : ℕ) (live : List Bool) (path : List ℕ) {old new : World} → s ≡ o.source → IsPlanned o.plan path → ((d : ℕ) → has live d ≡ true → IsCalled (drive_at drives.each d)) → Went (Touches s live) (AreCopyCalls s path) old new → Own old new
  own_copied s live path card planned called went = own (Touches s live) (AreCopyCalls s path) mine (λ L on such. copied_calls s path card planned L such) went
    where
      mine : (y : Device) → Touches s live y → IsOfRun o drives y
      mine y (inl is) = subst (IsOfRun o drives) (sym is) card
      mine y (inr (inl is)) = subst (IsOfRun o drives) (sym is) tt
      mine y (inr (inr (d, there, is))) = subst (IsOfRun o drives) (sym is) (called d there)

-- ---- the acts

planned_at : (p : PlanValue) (i : ℕ) (file : PlannedFile) → slice_get p.files i ≡ Some file → IsPlanned p file.path
planned_at p i file is = (file, (i, slice_get_within p.files i file is, get_or_from_slice_get p.files i file file is), refl)

module _ (o : Ordered) (old new : At) (rules : IsRun o old) where
  abbrev Calls : World → World → Type 0
  Calls before after = Went (IsOfRun o old.drives) (AreTurnCalls o old.drives) before after

  -- a drive on which something is left to be done
  record IsLive (e : ℕ) : Type 0 where
    not_gone : is_gone (drive_at old.drives.each e) ≡ false
    not_over : IsOver (drive_at old.drives.each e) → ⊥

  short : (e : ℕ) → IsLive e → e < 2 ^ 64
  short e live = let few = rules.drives.few in let low = there old.drives.each e live.not_gone in omega (arith, few, low)

  live_at : (e : ℕ) (x : DriveAt) → drive_at old.drives.each e ≡ x → is_gone x ≡ false → (IsOver x → ⊥) → IsLive e
  live_at e x is not_gone not_over = record { not_gone = ap is_gone is ∙ not_gone; not_over = λ over. not_over (subst IsOver is over) }

  live_if_called : (e : ℕ) → IsCalled (drive_at old.drives.each e) → IsLive e
  live_if_called e called = record { not_gone = called_not_gone (drive_at old.drives.each e) called; not_over = called_not_over (drive_at old.drives.each e) called }

  -- a line about none but such a drive was said
  said_live : (e : ℕ) (line : List ℕ) (ok : Bool) {before after : World} → IsLive e → ((k : ℕ) → k < 2 ^ 64 → e < 2 ^ 64 → k ≢ e → is_about k line ≡ false) → Says line ok before after → Calls before after
  said_live e line ok live off said =
      own_said o old.drives line ok (λ k low over. off k low (short e live) (λ same. live.not_over (subst (λ (j : ℕ). IsOver (drive_at old.drives.each j)) same over))) said

  called : (e : ℕ) (x : DriveAt) → drive_at old.drives.each e ≡ x → IsCalled x → IsCalled (drive_at old.drives.each e)
  called e x is may = subst IsCalled (sym is) may

  passes_calls : (next : Phase) (before after : World) → Passes next old.drives new before after → Calls before after
  passes_calls next before after p = own_idle o old.drives p.idle

  -- the line of a drive that was begun, or was lost by it
  begun_said : (d : ℕ) (x : DriveAt) (before after : World) → drive_at old.drives.each d ≡ x → IsCalled x → (a : BegunAloud o d x old.drives new before after) → Calls a.mid after
  begun_said d x before after is may a =
      said_live d (begin_line d (length (records_at x)) (files_of o.plan) a.ok) a.said (live_if_called d (called d x is may))
      (λ k low also other. begin_off k d low also other (length (records_at x)) (files_of o.plan) a.ok) a.line

  begin_calls : (d : ℕ) (before after : World) (x : DriveAt) → drive_at old.drives.each d ≡ x → BeginTurn o d x old.drives new before after → Calls before after
  begin_calls d before after Gone is p = passes_calls (after_begin (length old.drives.each) d) before after p
  begin_calls d before after (Found recs) is p = passes_calls (after_begin (length old.drives.each) d) before after p
  begin_calls d before after Sealed is p = passes_calls (after_begin (length old.drives.each) d) before after p
  begin_calls d before after Fresh is a = own_then o old.drives (own_drive o old.drives d (called d Fresh is tt) a.tried.0.went) (begun_said d Fresh before after is tt a)
  begin_calls d before after (Begun recs gate kept) is a =
      own_then o old.drives (own_drive o old.drives d (called d (Begun recs gate kept) is tt) a.tried.0.went) (begun_said d (Begun recs gate kept) before after is tt a)

  file_calls : (i : ℕ) (before after : World) → FileTurn o i old.drives new before after → Calls before after
  file_calls i before after (inl a) = own_idle o old.drives a.idle
  file_calls i before after (inr (none, p)) = passes_calls (after_file (files_of o.plan) i) before after p

  copy_calls : (i : ℕ) (copy : FileCopy) (pool pool_after : PoolState) (before after : World) → FitsCopy o old.drives.each i copy → CopyActed o i copy old.drives new pool pool_after before after → Calls before after
  copy_calls i copy pool pool_after before after fits a = own_then o old.drives touched (settled a.came a.go_on a.settles)
    where
      live : (d : ℕ) → has (live_of copy) d ≡ true → IsCalled (drive_at old.drives.each d)
      live d is = called_if_due i (drive_at old.drives.each d) (sym (fits.live d) ∙ is)

      touched : Calls before a.mid
      touched = own_copied o old.drives (card_of copy) (live_of copy) a.file.path fits.card (planned_at o.plan i a.file a.is_file) live a.touches

      dropped : (d : ℕ) → has (live_of copy) d ≡ true → CopyDrops (files_of o.plan) i d a.next old.drives new a.mid after → Calls a.mid after
      dropped d is s = said_live d (dropped_fault_text d) s.said (live_if_called d (live d is)) (λ k low also other. fault_off k d low also other) s.line

      settled : (came : Turn) → GoOn came (live_of copy) (live_of a.next) → CopySettles (files_of o.plan) i came a.next old.drives new a.mid after → Calls a.mid after
      settled CopyGoes go s = own_idle o old.drives s.2
      settled (Dropped d) go s = dropped d go.0 s
      settled (Copied t) go s = own_idle o old.drives s.2
      settled CardFailed go s = own_idle o old.drives s.2
      settled (CardChanged listed read) go s = own_idle o old.drives s.2
      settled NoneLeft go s = absurd s

  date_calls : (i : ℕ) (t : Triple) (before after : World) (found : Option Listed) → DateTurn o i t found old.drives new before after → Calls before after
  date_calls i t before after None a = own_clock o old.drives a.asked
  date_calls i t before after (Some l) a = own_idle o old.drives a.2

  record_calls : (rec : Rec) (d : ℕ) (before after : World) (found : Option Journaled) → due rec.index (drive_at old.drives.each d) ≡ found → RecordTurn o rec d found old.drives new before after → Calls before after
  record_calls rec d before after None is p = passes_calls (after_record (length old.drives.each) (files_of o.plan) rec d) before after p
  record_calls rec d before after (Some was) is a =
      let begun = (due_begun rec.index (drive_at old.drives.each d) was is).0 in
      own_then o old.drives (own_drive o old.drives d (called d (Begun was.recs was.gate was.kept) begun tt) a.went)
      (said_live d (record_line d (files_of o.plan) a.file.path rec a.came) a.said (live_at d (Begun was.recs was.gate was.kept) begun refl (λ over. over)) (λ k low also other. record_off k d low also other (files_of o.plan) a.file.path rec a.came) a.line)

  seal_calls : (d : ℕ) (before after : World) (x : DriveAt) → drive_at old.drives.each d ≡ x → SealTurn o d x old.drives new before after → Calls before after
  seal_calls d before after Gone is p = passes_calls (after_seal (length old.drives.each) d) before after p
  seal_calls d before after Sealed is p = passes_calls (after_seal (length old.drives.each) d) before after p
  seal_calls d before after Fresh is never = absurd never
  seal_calls d before after (Found recs) is a =
      said_live d (sealed_text d (files_of o.plan) (list_of o.plan)) a.said (live_at d (Found recs) is refl (λ over. over)) (λ k low also other. sealed_off k d low also other (files_of o.plan) (list_of o.plan)) a.line
  seal_calls d before after (Begun recs gate kept) is a =
      own_then o old.drives (own_clock o old.drives a.asked)
      (own_then o old.drives (own_drive o old.drives d (called d (Begun recs gate kept) is tt) a.went)
      (said_live d (seal_line d o.plan a.came) a.said (live_at d (Begun recs gate kept) is refl (λ over. over)) (λ k low also other. seal_off k d low also other o.plan a.came) a.line))

  clear_calls : (required sealed : ℕ) (due : Bool) (before after : World) → ClearTurn required sealed due new before after → Calls before after
  clear_calls required sealed true before after a = own_said o old.drives (clear_text sealed required) a.said (λ k low over. clear_off k sealed required) a.line
  clear_calls required sealed false before after a = own_idle o old.drives a.1

  acted_calls : (phase : Phase) (pool pool_after : PoolState) (before after : World) → Fits o old.drives.each phase → Acted o phase old new pool pool_after before after → Calls before after
  acted_calls (Begins d) pool pool_after before after fits a = begin_calls d before after (drive_at old.drives.each d) refl a
  acted_calls (File i) pool pool_after before after fits a = file_calls i before after a
  acted_calls (Copies i copy) pool pool_after before after fits a = copy_calls i copy pool pool_after before after fits a
  acted_calls (Dates i t) pool pool_after before after fits a = date_calls i t before after (other_listed o.listed i t) a
  acted_calls (Records rec d) pool pool_after before after fits a = record_calls rec d before after (due rec.index (drive_at old.drives.each d)) refl a
  acted_calls (Seals d) pool pool_after before after fits a = seal_calls d before after (drive_at old.drives.each d) refl a
  acted_calls Clears pool pool_after before after fits a = clear_calls o.copies (count_sealed old.drives.each) (is_clear (count_sealed old.drives.each) o.copies) before after a.1
  acted_calls Ended pool pool_after before after fits a = own_idle o old.drives a.2

-- one turn calls its own
pub turn_calls : (o : Ordered) (old new : At) (pool pool_after : PoolState) (before after : World) → IsRun o old → Turned o old new pool pool_after before after → Went (IsOfRun o old.drives) (AreTurnCalls o old.drives) before after
turn_calls o old new pool pool_after before after rules t = acted_calls o old new rules old.phase pool pool_after before after rules.fits t
