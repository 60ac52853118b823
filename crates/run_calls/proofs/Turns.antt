-- The calls of one turn of a run: none failed, or the last one; and then at most a line.
use Rattle.std.proofs.Common.{◌≡◌, ◌≢◌, ◌⊎◌, inl, inr, ℕ, ◌^◌, ◌<◌, Bool, true, false, List, [], ◌∷◌, ◌++◌, length, refl, sym, ap, ◌∙◌, subst, arith, append-nil}
use Rattle.std.specs.Prelude.{Option, Some, None, codes, Result, Ok, Err, if◌then◌else◌}
use Rattle.std.proofs.lemmas.Bool.{cases_eq, false≢true}
use Rattle.std.proofs.lemmas.List.{get_or-set_same}
use Rattle.bay_core.specs.declared.event.Event.{Event}
use Rattle.bay_core.specs.declared.event.Event.TheVariants.{Say, Moment}
use Rattle.bay_core.specs.Paths.{journal_path}
use Rattle.bay_core.specs.Replay.{Device, Source, Drive, Output, Clock}
use Rattle.bay_core.specs.Went.{AllOn, Went, Only, Then, NoCall, IsCall, Ran, say_call}
use Rattle.bay_core.specs.World.{World}
use Rattle.bay_core.proofs.Runs.{went_none, went_such, went_on, went_then}
use Rattle.block_pool.specs.Lent.{PoolState}
use Rattle.copy_plan.specs.Plan.{PlanValue, list_of}
use Rattle.digest_set.specs.declared.triple.Triple.{Triple}
use Rattle.drive_journal.specs.declared.order.Listed.{Listed}
use Rattle.drive_journal.specs.declared.record.Gate.{Gate}
use Rattle.drive_journal.specs.declared.record.Rec.{Rec}
use Rattle.drive_journal.specs.Calls.{tidied, tidy_calls, publish_calls}
use Rattle.fan_core.specs.Flags.{has}
use Rattle.fan_copier.specs.declared.copy.FileCopy.{FileCopy}
use Rattle.fan_copier.specs.declared.turn.Turn.{Turn}
use Rattle.fan_copier.specs.declared.turn.Turn.TheVariants.{Going as CopyGoes, Dropped, Copied, SourceFailed as CardFailed, Changed as CardChanged, NoDrive as NoneLeft}
use Rattle.fan_copier.specs.Copying.{card_of, size_of, live_of, standing, Copying}
use Rattle.fan_copier.specs.Turning.{Turned as CopyTurned, Touches, GoOn, TurnCalls, doing}
use Rattle.read_back.specs.declared.back.ReadBackError.{ReadBackError}
use Rattle.read_back.specs.declared.back.ReadBackError.TheVariants.{DriveFailed as BackFailed, Absent as BackAbsent, Length as BackLength, Differs}
use Rattle.recording.specs.Filing.{RecordCalls}
use Rattle.report_text.specs.Run.{begun_text, sealed_text, clear_text}
use Rattle.report_text.specs.Losses.{dropped_fault_text}
use Rattle.seal_step.specs.declared.error.SealError.{SealError}
use Rattle.seal_step.specs.declared.error.SealError.TheVariants.{DriveFailed as SealFailed, Absent as ListAbsent, Byte as ListByte, Length as ListLength}
use Rattle.seal_step.specs.Calls.{SealCalls}
use Rattle.seal_step.specs.Parts.{list_parts}
use Rattle.run_state.specs.declared.outcome.Outcome.TheVariants.{SourceFailed, OutFailed}
use Rattle.run_state.specs.declared.phase.Phase.{Phase}
use Rattle.run_state.specs.declared.phase.Phase.TheVariants.{Begins, File, Copies, Dates, Records, Seals, Clears, Ended}
use Rattle.run_state.specs.Acts.{Says, Goes, Ends, Drops, next_path, new_journal, begun_at, records_at, begin_line, MovesOrDrops, BegunAloud, BeginTurn, FileTurn, copies_on, CopySettles, CopyActed, other_listed, DateTurn, record_line, RecordStands, RecordTurn, seal_line, SealStands, SealTurn, end_of, is_clear, ClearTurn}
use Rattle.run_state.specs.Rules.{IsRun, Fits, FitsCopy}
use Rattle.run_state.specs.Runs.{begins_with, is_about}
use Rattle.run_state.specs.State.{Ordered, DriveAt, Gone, Fresh, Begun, Found, Sealed, At, Journaled, files_of, drive_at, is_gone, count_sealed, due, after_begin, after_record, after_seal}
use Rattle.run_state.specs.Turn.{Acted}
use Rattle.run_state.proofs.Calls.{called_if_due, called_not_gone}
use Rattle.run_state.proofs.Drives.{there}
use Rattle.run_state.proofs.Keeping.{due_begun}
use Rattle.run_state.proofs.Lines.{fault_off, record_off, seal_off}
use Rattle.run_ends.proofs.Lines.{not_about}
use Rattle.run_calls.specs.Failures.{IsDropped, IsToldNext}
use Rattle.run_calls.proofs.Failing.{NoneFails, LastFails, none_then, last_then, ran_none, ran_last, tidy_on, begin_on, AreCallsOn}
use Rattle.run_calls.proofs.Acts.{record_fails, SealFails, seal_fails, copy_fails, CopyFails}
use Rattle.run_calls.proofs.Lists.{IsMute, IsAny, with_on}

-- how the calls of a turn end, before its line: none failed; the last failed, on a drive, whose loss is said then; or on a card, and then the run has ended
abbrev pub EndsBy : At → List Event → List Event → Type 0
EndsBy new calls line = NoneFails calls ⊎ ((d : ℕ) × LastFails (Drive d) calls × IsToldNext d new line × IsDropped d new.drives) ⊎ ((s : ℕ) × LastFails (Source s) calls × (line ≡ []) × Ends SourceFailed new)

-- the line of a turn, if there is one: where it was not said the run has ended by it; and a drive whose line `dropped` it is was dropped
abbrev pub LineIs : At → List Event → Type 0
LineIs new line = (line ≡ []) ⊎ ((text : List ℕ) × (ok : Bool) × (line ≡ Say text ok ∷ []) × (ok ≡ false → Ends OutFailed new) × ((k : ℕ) → k < 8 → begins_with (codes "dropped") k text ≡ true → IsDropped k new.drives))

-- the calls of a turn after which the run stands here
pub record OneTurn (new : At) (B : List Event) : Type 0 where
  pub calls : List Event
  pub line : List Event
  pub is : B ≡ calls ++ line
  pub mute : AllOn IsMute calls
  pub ends : EndsBy new calls line
  pub said : LineIs new line

-- where a file is copied, the copy knows its bytes
abbrev pub CopyKnown : Phase → PoolState → World → Type 0
CopyKnown (Copies i copy) pool w = (bytes : List ℕ) × Copying copy pool w bytes
CopyKnown _ pool w = Unit {0}

no_mute : AllOn IsMute []
unfolding AllOn
no_mute = tt

-- ---- the line

said_or : (text : List ℕ) (said : Bool) (B : List Event) → Ran (say_call text ∷ []) said B → ((B ≡ []) × (said ≡ false)) ⊎ (B ≡ Say text said ∷ [])
unfolding Ran
said_or text true B (rest, is, none) = inr (is ∙ ap (λ (l : List Event). Say text true ∷ l) none)
said_or text false B (inl none) = inl (none, refl)
said_or text false B (inr (inl one)) = inr one
said_or text false B (inr (inr (rest, is, more))) = absurd more

goes_out : (said : Bool) (next : Phase) (new : At) → Goes said next new → said ≡ false → Ends OutFailed new
goes_out false next new g is = g
goes_out true next new g is = absurd (false≢true (sym is))

drive_mute : (d : ℕ) (y : Device) → Only (Drive d) y → IsMute y
drive_mute d y on = λ is. absurd (cc (sym on ∙ is))

clock_mute : (y : Device) → Only Clock y → IsMute y
clock_mute y on = λ is. absurd (cc (sym on ∙ is))

module _ (new : At) where
  abbrev Turns : World → World → Type 0
  Turns before after = Went IsAny (OneTurn new) before after

  no_turn : (L : List Event) → NoCall L → OneTurn new L
  no_turn L none = record { calls = []; line = []; is = none; mute = no_mute; ends = inl tt; said = inl refl }

  idle : {before after : World} → after ≡ before → Turns before after
  idle {before} {after} same = subst (λ (w : World). Turns before w) (sym same) (went_such no_turn (went_none IsAny before))

  -- calls without a line
  abbrev QuietEnds : List Event → Type 0
  QuietEnds L = NoneFails L ⊎ ((s : ℕ) × LastFails (Source s) L × Ends SourceFailed new)

  quiet : {P : List Event → Type 0} {before mid after : World} → ((L : List Event) → P L → QuietEnds L) → Went IsMute P before mid → after ≡ mid → Turns before after
  quiet {P} {before} {mid} {after} so went same = subst (λ (w : World). Turns before w) (sym same) (went_such one (with_on went))
    where
      by : (L : List Event) → QuietEnds L → EndsBy new L []
      by L (inl none) = inl none
      by L (inr (s, last, ends)) = inr (inr (s, last, refl, ends))

      one : (L : List Event) → AllOn IsMute L × P L → OneTurn new L
      one L t = record { calls = L; line = []; is = sym (append-nil L); mute = t.0; ends = by L (so L t.1); said = inl refl }

  -- calls, and then a line
  abbrev SpokenEnds : List ℕ → List Event → Type 0
  SpokenEnds text L = NoneFails L ⊎ ((d : ℕ) × LastFails (Drive d) L × IsDropped d new.drives × (text ≡ dropped_fault_text d))

  spoken : {P : List Event → Type 0} {before mid after : World} (text : List ℕ) (said : Bool) → ((L : List Event) → P L → SpokenEnds text L) → Went IsMute P before mid → Says text said mid after → (said ≡ false → Ends OutFailed new)
      → ((k : ℕ) → k < 8 → begins_with (codes "dropped") k text ≡ true → IsDropped k new.drives) → Turns before after
  spoken {P} {before} {mid} {after} text said so went line out drops = went_such one (went_then (with_on went) (with_on line.went))
    where
      told : (d : ℕ) → text ≡ dropped_fault_text d → (B : List Event) → ((B ≡ []) × (said ≡ false)) ⊎ (B ≡ Say text said ∷ []) → IsToldNext d new B
      told d fault B (inl none) = subst (IsToldNext d new) (sym none.0) (out none.1)
      told d fault B (inr one) = subst (IsToldNext d new) (sym one) (said, ap (λ (t : List ℕ). Say t said) fault)

      is_line : (B : List Event) → ((B ≡ []) × (said ≡ false)) ⊎ (B ≡ Say text said ∷ []) → LineIs new B
      is_line B (inl none) = inl none.0
      is_line B (inr one) = inr (text, said, one, out, drops)

      ends : (A B : List Event) → ((B ≡ []) × (said ≡ false)) ⊎ (B ≡ Say text said ∷ []) → SpokenEnds text A → EndsBy new A B
      ends A B how (inl none) = inl none
      ends A B how (inr (d, last, dropped, fault)) = inr (inl (d, last, told d fault B how, dropped))

      one : (L : List Event) → Then (λ A. AllOn IsMute A × P A) (λ B. AllOn (Only Output) B × Ran (say_call text ∷ []) said B) L → OneTurn new L
      one L t =
          let how = said_or text said t.second t.there.1 in
          record { calls = t.first; line = t.second; is = t.is; mute = t.here.0; ends = ends t.first t.second how (so t.first t.here.1); said = is_line t.second how }

  no_call_ends : (text : List ℕ) (L : List Event) → NoCall L → SpokenEnds text L
  no_call_ends text L none = inl (subst NoneFails (sym none) tt)

  -- a line alone
  line_alone : {before after : World} (text : List ℕ) (said : Bool) → Says text said before after → (said ≡ false → Ends OutFailed new) → ((k : ℕ) → begins_with (codes "dropped") k text ≡ false) → Turns before after
  line_alone {before} text said line out other =
      spoken text said (no_call_ends text) (went_none IsMute before) line out (λ k low begins. absurd (false≢true (sym (other k) ∙ begins)))

-- ---- the acts

-- the moment of a list, and then the calls of a sealing
abbrev SealBehind : ℕ → PlanValue → List Rec → ℕ → Result Unit SealError → List Event → Type 0
SealBehind d p recs finish came L = Then (IsCall (Moment finish)) (SealCalls d (list_of p) (list_parts p recs finish) came) L

module _ (o : Ordered) (old new : At) (rules : IsRun o old) where
  was_dropped : (d : ℕ) → is_gone (drive_at old.drives.each d) ≡ false → Drops d old.drives new.drives → IsDropped d new.drives
  was_dropped d live m =
      let within = there old.drives.each d live in
      let few = rules.drives.few in
      let eight = rules.drives.sets.1 in
      (m.each.here, ap (λ (set : List Bool). has set d) m.dropped ∙ get_or-set_same old.drives.dropped d true false (omega (arith, within, few, eight)))

  low : (d : ℕ) → is_gone (drive_at old.drives.each d) ≡ false → d < 2 ^ 64
  low d live = let within = there old.drives.each d live in let few = rules.drives.few in omega (arith, within, few)

  -- the line of a drive that was dropped is that of no other
  lost_line : (d : ℕ) (text : List ℕ) → is_gone (drive_at old.drives.each d) ≡ false → ((k : ℕ) → k < 2 ^ 64 → d < 2 ^ 64 → k ≢ d → is_about k text ≡ false) → Drops d old.drives new.drives
      → (k : ℕ) → k < 8 → begins_with (codes "dropped") k text ≡ true → IsDropped k new.drives
  lost_line d text live off m k small begins = elim (cases_eq k d) [
    | inl same ↦ subst (λ (n : ℕ). IsDropped n new.drives) (sym same) (was_dropped d live m)
    | inr differ ↦ absurd (false≢true (sym (not_about k text (off k (omega (arith, small)) (low d live) differ)) ∙ begins))
  ]

  begun_turn : (d : ℕ) (x : DriveAt) (before after : World) → drive_at old.drives.each d ≡ x → is_gone x ≡ false → (cs : List (Bool → Event)) → AreCallsOn (Drive d) cs → (a : BegunAloud o d x old.drives new before after)
      → Went (Only (Drive d)) (Ran cs a.ok) before a.mid → Turns new before after
  begun_turn d x before after is there_is cs on a went = by a.ok went a.line a.stands
    where
      live : is_gone (drive_at old.drives.each d) ≡ false
      live = ap is_gone is ∙ there_is

      out : a.said ≡ false → Ends OutFailed new
      out = goes_out a.said (after_begin (length old.drives.each) d) new a.goes

      by : (ok : Bool) → Went (Only (Drive d)) (Ran cs ok) before a.mid → Says (begin_line d (length (records_at x)) (files_of o.plan) ok) a.said a.mid after → MovesOrDrops d ok (begun_at o.plan x) old.drives new.drives → Turns new before after
      by true went line stands =
          spoken new (begun_text d (length (records_at x)) (files_of o.plan)) a.said (λ L ran. inl (ran_none (Drive d) cs L on ran)) (went_on (drive_mute d) went) line out (λ k small begins. absurd (false≢true begins))
      by false went line stands =
          spoken new (dropped_fault_text d) a.said (λ L ran. inr (d, ran_last (Drive d) cs L on ran, was_dropped d live stands, refl)) (went_on (drive_mute d) went) line out
          (lost_line d (dropped_fault_text d) live (λ k small also other. fault_off k d small also other) stands)

  begin_turn : (d : ℕ) (before after : World) (x : DriveAt) → drive_at old.drives.each d ≡ x → BeginTurn o d x old.drives new before after → Turns new before after
  begin_turn d before after Gone is p = idle new p.idle
  begin_turn d before after (Found recs) is p = idle new p.idle
  begin_turn d before after Sealed is p = idle new p.idle
  begin_turn d before after Fresh is a =
      begun_turn d Fresh before after is refl (tidy_calls d None false ++ publish_calls d journal_path (new_journal o.plan)) (begin_on d (tidied None false) journal_path (new_journal o.plan)) a a.tried.0.went
  begin_turn d before after (Begun recs gate kept) is a =
      begun_turn d (Begun recs gate kept) before after is refl (tidy_calls d (next_path o.plan recs) kept) (tidy_on d (tidied (next_path o.plan recs) kept)) a a.tried.0.went

  file_turn : (i : ℕ) (before after : World) → FileTurn o i old.drives new before after → Turns new before after
  file_turn i before after (inl a) = idle new a.idle
  file_turn i before after (inr (none, p)) = idle new p.idle

  copy_mute : (s : ℕ) (live : List Bool) (y : Device) → Touches s live y → IsMute y
  copy_mute s live y (inl is) = λ out. absurd (cc (sym is ∙ out))
  copy_mute s live y (inr (inl is)) = λ out. absurd (cc (sym is ∙ out))
  copy_mute s live y (inr (inr (d, on, is))) = λ out. absurd (cc (sym is ∙ out))

  copy_turn : (i : ℕ) (copy : FileCopy) (pool pool_after : PoolState) (before after : World) → FitsCopy o old.drives.each i copy → (bytes : List ℕ) → Copying copy pool before bytes → CopyActed o i copy old.drives new pool pool_after before after → Turns new before after
  copy_turn i copy pool pool_after before after fits bytes copying a = settled a.came a.go_on a.settles (λ L calls. copy_fails (card_of copy) a.file.path (size_of copy) (standing copy) (standing a.next) bytes t.given (doing (standing copy) t.pick) a.came L t.stands calls)
    where
      t : CopyTurned a.file.path copy a.next a.between before a.mid bytes a.came
      t = a.turned bytes copying

      went : Went IsMute (TurnCalls (card_of copy) a.file.path (size_of copy) (standing copy) (standing a.next) bytes t.given (doing (standing copy) t.pick) a.came) before a.mid
      went = went_on (copy_mute (card_of copy) (live_of copy)) t.calls

      live : (d : ℕ) → has (live_of copy) d ≡ true → is_gone (drive_at old.drives.each d) ≡ false
      live d on = called_not_gone (drive_at old.drives.each d) (called_if_due i (drive_at old.drives.each d) (sym (fits.live d) ∙ on))

      settled : (came : Turn) → GoOn came (live_of copy) (live_of a.next) → CopySettles (files_of o.plan) i came a.next old.drives new a.mid after → ((L : List Event) → TurnCalls (card_of copy) a.file.path (size_of copy) (standing copy) (standing a.next) bytes t.given (doing (standing copy) t.pick) a.came L → CopyFails (card_of copy) came L) → Turns new before after
      settled CopyGoes go s fails = quiet new (λ L calls. inl (fails L calls)) went s.2
      settled (Dropped d) go s fails =
          spoken new (dropped_fault_text d) s.said (λ L calls. inr (d, fails L calls, was_dropped d (live d go.0) s.drops, refl)) went s.line (goes_out s.said (copies_on (files_of o.plan) i a.next) new s.goes)
          (lost_line d (dropped_fault_text d) (live d go.0) (λ k small also other. fault_off k d small also other) s.drops)
      settled (Copied x) go s fails = quiet new (λ L calls. inl (fails L calls)) went s.2
      settled CardFailed go s fails = quiet new (λ L calls. inr (card_of copy, fails L calls, s.1)) went s.2
      settled (CardChanged listed read) go s fails = quiet new (λ L calls. inl (fails L calls)) went s.2
      settled NoneLeft go s fails = absurd s

  date_turn : (i : ℕ) (t : Triple) (before after : World) (found : Option Listed) → DateTurn o i t found old.drives new before after → Turns new before after
  date_turn i t before after None a = quiet new ends (went_on clock_mute a.asked) refl
    where
      ends : (L : List Event) → IsCall (Moment a.seconds) L → QuietEnds new L
      ends L is = inl (subst NoneFails (sym is) ((refl, refl), tt))
  date_turn i t before after (Some l) a = idle new a.2

  record_turn : (rec : Rec) (d : ℕ) (before after : World) (found : Option Journaled) → due rec.index (drive_at old.drives.each d) ≡ found → RecordTurn o rec d found old.drives new before after → Turns new before after
  record_turn rec d before after None is p = idle new p.idle
  record_turn rec d before after (Some was) is a = by a.came a.went a.line a.stands
    where
      live : is_gone (drive_at old.drives.each d) ≡ false
      live = ap is_gone (due_begun rec.index (drive_at old.drives.each d) was is).0

      out : a.said ≡ false → Ends OutFailed new
      out = goes_out a.said (after_record (length old.drives.each) (files_of o.plan) rec d) new a.goes

      -- one that was lost by what was read back
      read_otherwise : (e : ReadBackError) → ((L : List Event) → RecordCalls d was.gate.at a.file.path rec (Err e) L → NoneFails L) → Went (Only (Drive d)) (RecordCalls d was.gate.at a.file.path rec (Err e)) before a.mid
          → Says (record_line d (files_of o.plan) a.file.path rec (Err e)) a.said a.mid after → Drops d old.drives new.drives → Turns new before after
      read_otherwise e none went line stands =
          spoken new (record_line d (files_of o.plan) a.file.path rec (Err e)) a.said (λ L calls. inl (none L calls)) (went_on (drive_mute d) went) line out
          (lost_line d (record_line d (files_of o.plan) a.file.path rec (Err e)) live (λ k small also other. record_off k d small also other (files_of o.plan) a.file.path rec (Err e)) stands)

      by : (came : Result Gate ReadBackError) → Went (Only (Drive d)) (RecordCalls d was.gate.at a.file.path rec came) before a.mid → Says (record_line d (files_of o.plan) a.file.path rec came) a.said a.mid after
          → RecordStands d was.recs rec came old.drives new.drives → Turns new before after
      by (Ok next) went line stands =
          spoken new (record_line d (files_of o.plan) a.file.path rec (Ok next)) a.said (λ L calls. inl (record_fails d rec was.gate.at a.file.path (Ok next) L calls)) (went_on (drive_mute d) went) line out (λ k small begins. absurd (false≢true begins))
      by (Err BackFailed) went line stands =
          spoken new (dropped_fault_text d) a.said (λ L calls. inr (d, record_fails d rec was.gate.at a.file.path (Err BackFailed) L calls, was_dropped d live stands, refl)) (went_on (drive_mute d) went) line out
          (lost_line d (dropped_fault_text d) live (λ k small also other. fault_off k d small also other) stands)
      by (Err BackAbsent) went line stands = read_otherwise BackAbsent (record_fails d rec was.gate.at a.file.path (Err BackAbsent)) went line stands
      by (Err (BackLength x y)) went line stands = read_otherwise (BackLength x y) (record_fails d rec was.gate.at a.file.path (Err (BackLength x y))) went line stands
      by (Err (Differs x y)) went line stands = read_otherwise (Differs x y) (record_fails d rec was.gate.at a.file.path (Err (Differs x y))) went line stands

  seal_turn : (d : ℕ) (before after : World) (x : DriveAt) → drive_at old.drives.each d ≡ x → SealTurn o d x old.drives new before after → Turns new before after
  seal_turn d before after Gone is p = idle new p.idle
  seal_turn d before after Sealed is p = idle new p.idle
  seal_turn d before after Fresh is never = absurd never
  seal_turn d before after (Found recs) is a =
      line_alone new (sealed_text d (files_of o.plan) (list_of o.plan)) a.said a.line (goes_out a.said (after_seal (length old.drives.each) d) new a.goes) (λ k. refl)
  seal_turn d before after (Begun recs gate kept) is a = by a.came a.went a.line a.stands
    where
      live : is_gone (drive_at old.drives.each d) ≡ false
      live = ap is_gone is

      out : a.said ≡ false → Ends OutFailed new
      out = goes_out a.said (after_seal (length old.drives.each) d) new a.goes

      behind : (came : Result Unit SealError) → Went (Only (Drive d)) (SealCalls d (list_of o.plan) (list_parts o.plan recs a.finish) came) a.dated a.mid → Went IsMute (SealBehind d o.plan recs a.finish came) before a.mid
      behind came went = went_then (went_on clock_mute a.asked) (went_on (drive_mute d) went)

      none_behind : (came : Result Unit SealError) → ((L : List Event) → SealCalls d (list_of o.plan) (list_parts o.plan recs a.finish) came L → NoneFails L) → (L : List Event) → SealBehind d o.plan recs a.finish came L → NoneFails L
      none_behind came so L t = subst NoneFails (sym t.is) (none_then t.first t.second (subst NoneFails (sym t.here) ((refl, refl), tt)) (so t.second t.there))

      last_behind : (came : Result Unit SealError) → ((L : List Event) → SealCalls d (list_of o.plan) (list_parts o.plan recs a.finish) came L → LastFails (Drive d) L) → (L : List Event) → SealBehind d o.plan recs a.finish came L → LastFails (Drive d) L
      last_behind came so L t = subst (LastFails (Drive d)) (sym t.is) (last_then (Drive d) t.first t.second (subst NoneFails (sym t.here) ((refl, refl), tt)) (so t.second t.there))

      fails : (came : Result Unit SealError) (L : List Event) → SealCalls d (list_of o.plan) (list_parts o.plan recs a.finish) came L → SealFails d came L
      fails came L calls = seal_fails d (list_of o.plan) (list_parts o.plan recs a.finish) came L calls

      read_otherwise : (e : SealError) → ((L : List Event) → SealCalls d (list_of o.plan) (list_parts o.plan recs a.finish) (Err e) L → NoneFails L) → Went (Only (Drive d)) (SealCalls d (list_of o.plan) (list_parts o.plan recs a.finish) (Err e)) a.dated a.mid
          → Says (seal_line d o.plan (Err e)) a.said a.mid after → Drops d old.drives new.drives → Turns new before after
      read_otherwise e none went line stands =
          spoken new (seal_line d o.plan (Err e)) a.said (λ L calls. inl (none_behind (Err e) none L calls)) (behind (Err e) went) line out
          (lost_line d (seal_line d o.plan (Err e)) live (λ k small also other. seal_off k d small also other o.plan (Err e)) stands)

      by : (came : Result Unit SealError) → Went (Only (Drive d)) (SealCalls d (list_of o.plan) (list_parts o.plan recs a.finish) came) a.dated a.mid → Says (seal_line d o.plan came) a.said a.mid after → SealStands d came old.drives new.drives → Turns new before after
      by (Ok u) went line stands =
          spoken new (seal_line d o.plan (Ok u)) a.said (λ L calls. inl (none_behind (Ok u) (fails (Ok u)) L calls)) (behind (Ok u) went) line out (λ k small begins. absurd (false≢true begins))
      by (Err SealFailed) went line stands =
          spoken new (dropped_fault_text d) a.said (λ L calls. inr (d, last_behind (Err SealFailed) (fails (Err SealFailed)) L calls, was_dropped d live stands, refl)) (behind (Err SealFailed) went) line out
          (lost_line d (dropped_fault_text d) live (λ k small also other. fault_off k d small also other) stands)
      by (Err ListAbsent) went line stands = read_otherwise ListAbsent (fails (Err ListAbsent)) went line stands
      by (Err (ListLength x y)) went line stands = read_otherwise (ListLength x y) (fails (Err (ListLength x y))) went line stands
      by (Err (ListByte p x y)) went line stands = read_otherwise (ListByte p x y) (fails (Err (ListByte p x y))) went line stands

  clear_turn : (required sealed : ℕ) (is_due : Bool) (before after : World) → ClearTurn required sealed is_due new before after → Turns new before after
  clear_turn required sealed true before after a = line_alone new (clear_text sealed required) a.said a.line (by a.said a.ends) (λ k. refl)
    where
      by : (said : Bool) → Ends (if said then end_of sealed else OutFailed) new → said ≡ false → Ends OutFailed new
      by false ends is = ends
      by true ends is = absurd (false≢true (sym is))
  clear_turn required sealed false before after a = idle new a.1

  pub acted_turn : (phase : Phase) (pool pool_after : PoolState) (before after : World) → Fits o old.drives.each phase → CopyKnown phase pool before → Acted o phase old new pool pool_after before after → Turns new before after
  acted_turn (Begins d) pool pool_after before after fits known a = begin_turn d before after (drive_at old.drives.each d) refl a
  acted_turn (File i) pool pool_after before after fits known a = file_turn i before after a
  acted_turn (Copies i copy) pool pool_after before after fits (bytes, copying) a = copy_turn i copy pool pool_after before after fits bytes copying a
  acted_turn (Dates i t) pool pool_after before after fits known a = date_turn i t before after (other_listed o.listed i t) a
  acted_turn (Records rec d) pool pool_after before after fits known a = record_turn rec d before after (due rec.index (drive_at old.drives.each d)) refl a
  acted_turn (Seals d) pool pool_after before after fits known a = seal_turn d before after (drive_at old.drives.each d) refl a
  acted_turn Clears pool pool_after before after fits known a = clear_turn o.copies (count_sealed old.drives.each) (is_clear (count_sealed old.drives.each) o.copies) before after a.1
  acted_turn Ended pool pool_after before after fits known a = idle new a.2
