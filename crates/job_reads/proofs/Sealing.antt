-- Before each line `sealed` of the turns of a run the list was read back.
use Rattle.std.proofs.Common.{◌≡◌, inl, inr, ℕ, ◌+◌, ◌^◌, ◌<◌, ◌≤◌, Bool, true, false, List, [], ◌∷◌, ◌++◌, length, map, refl, sym, ap, ◌∙◌, subst, arith, append_assoc}
use Rattle.std.specs.Prelude.{Option, Some, None, Result, Ok, Err, codes}
use Rattle.std.proofs.lemmas.Bool.{cases_eq, false≢true}
use Rattle.bay_core.specs.declared.event.Event.{Event}
use Rattle.bay_core.specs.declared.event.Event.TheVariants.{Sync, Rename, Moment}
use Rattle.bay_core.specs.Paths.{new_path}
use Rattle.bay_core.specs.Replay.{Device, Drive, Output, Clock}
use Rattle.bay_core.specs.Went.{Only, Went}
use Rattle.bay_core.specs.World.{World}
use Rattle.bay_core.proofs.Runs.{all_ran}
use Rattle.copy_plan.specs.Plan.{PlanValue, list_of}
use Rattle.digest_set.specs.declared.triple.Triple.{Triple}
use Rattle.drive_journal.specs.declared.order.Listed.{Listed}
use Rattle.drive_journal.specs.declared.record.Gate.{Gate}
use Rattle.drive_journal.specs.declared.record.Rec.{Rec}
use Rattle.drive_journal.specs.Record.{closed_record}
use Rattle.drive_journal.proofs.Entries.{records_few}
use Rattle.fan_copier.specs.declared.copy.FileCopy.{FileCopy}
use Rattle.fan_copier.specs.declared.turn.Turn.{Turn}
use Rattle.fan_copier.specs.declared.turn.Turn.TheVariants.{Going as CopyGoes, Dropped, Copied, SourceFailed as CardFailed, Changed as CardChanged, NoDrive as NoneLeft}
use Rattle.fan_copier.specs.Copying.{card_of, live_of}
use Rattle.fan_copier.specs.Turning.{Touches}
use Rattle.read_back.specs.declared.back.ReadBackError.{ReadBackError}
use Rattle.read_back.specs.Back.{WholeCalls}
use Rattle.report_text.specs.Run.{sealed_text, clear_text}
use Rattle.report_text.specs.Losses.{dropped_fault_text}
use Rattle.seal_step.specs.declared.error.SealError.{SealError}
use Rattle.seal_step.specs.Calls.{SealCalls}
use Rattle.seal_step.specs.Parts.{list_parts, naming}
use Rattle.run_state.specs.declared.phase.Phase.{Phase}
use Rattle.run_state.specs.declared.phase.Phase.TheVariants.{Begins, File, Copies, Dates, Records, Seals, Clears, Ended}
use Rattle.run_state.specs.Acts.{Says, Puts, MovesOrDrops, begun_at, begin_line, records_at, BegunAloud, BeginTurn, CopySettles, CopyActed, other_listed, DateTurn, RecordStands, record_line, RecordTurn, SealStands, seal_line, SealedAloud, SealTurn, is_clear, ClearTurn}
use Rattle.run_state.specs.Rules.{FitsPlan, HasAtLeast, Fits, IsRun, IsStart}
use Rattle.run_state.specs.Runs.{Point, Alone, still, turned, Runs, begins_with}
use Rattle.run_state.specs.State.{Ordered, DriveAt, Gone, Fresh, Begun, Found, Sealed, Drives, At, Journaled, files_of, drive_at, is_gone, count_sealed, due}
use Rattle.run_state.specs.Turn.{Acted}
use Rattle.run_ends.proofs.Drives.{of_run, low}
use Rattle.run_ends.proofs.Later.{later_then, later_went, joined_went, Silent, silent_went, silent_same, silent_then}
use Rattle.run_ends.proofs.Saying.{EachSince, since_none, since_silent, since_said, since_same}
use Rattle.run_ends.proofs.Way.{Way, way}
use Rattle.run_reads.proofs.Lines.{begin_other, fault_other, record_other, seal_other, clear_other, done_not_sealed, sealed_of}
use Rattle.run_reads.proofs.Since.{Since, since_at}
use Rattle.run_reads.proofs.Standing.{begin_went}
use Rattle.job_losses.specs.Drops.{records_in}
use Rattle.job_losses.proofs.Written.{IsUnbegun, WrittenOf, AreWritten, written}
use Rattle.job_reads.specs.Backs.{IsListReadBack}

-- ---- no drive is found sealed

abbrev pub IsNotFound : DriveAt → Type 0
IsNotFound (Found recs) = ⊥
IsNotFound _ = Unit {0}

abbrev NoneFound : List DriveAt → Type 0
NoneFound each = (d : ℕ) → IsNotFound (drive_at each d)

found_puts : (e : ℕ) (x : DriveAt) (old new : List DriveAt) → Puts e x old new → IsNotFound x → NoneFound old → NoneFound new
found_puts e x old new p is none d = elim (cases_eq d e) [
  | inl same ↦ subst (λ (n : ℕ). IsNotFound (drive_at new n)) (sym same) (subst IsNotFound (sym p.here) is)
  | inr ne ↦ subst IsNotFound (sym (p.others d ne)) (none d)
]

found_same : (old new : Drives) → new ≡ old → NoneFound old.each → NoneFound new.each
found_same old new same none = subst (λ (x : Drives). NoneFound x.each) (sym same) none

found_moves : (p : PlanValue) (e : ℕ) (ok : Bool) (was : DriveAt) (old new : Drives) → IsNotFound (begun_at p was) → MovesOrDrops e ok (begun_at p was) old new → NoneFound old.each → NoneFound new.each
found_moves p e true was old new is m none = found_puts e (begun_at p was) old.each new.each m.each is none
found_moves p e false was old new is m none = found_puts e Gone old.each new.each m.each tt none

module _ (o : Ordered) (b c : Point) (none : NoneFound b.at.drives.each) where
  found_begin : (e : ℕ) (was : DriveAt) → BeginTurn o e was b.at.drives c.at b.world c.world → NoneFound c.at.drives.each
  found_begin e Fresh t = found_moves o.plan e t.ok Fresh b.at.drives c.at.drives tt t.stands none
  found_begin e (Begun recs gate kept) t = found_moves o.plan e t.ok (Begun recs gate kept) b.at.drives c.at.drives tt t.stands none
  found_begin e Gone t = found_same b.at.drives c.at.drives t.drives none
  found_begin e (Found recs) t = found_same b.at.drives c.at.drives t.drives none
  found_begin e Sealed t = found_same b.at.drives c.at.drives t.drives none

  found_copy : (i : ℕ) (came : Turn) (next : FileCopy) (mid : World) → CopySettles (files_of o.plan) i came next b.at.drives c.at mid c.world → NoneFound c.at.drives.each
  found_copy i CopyGoes next mid s = found_same b.at.drives c.at.drives s.0 none
  found_copy i (Dropped e) next mid s = found_puts e Gone b.at.drives.each c.at.drives.each s.drops.each tt none
  found_copy i (Copied t) next mid s = found_same b.at.drives c.at.drives s.0 none
  found_copy i CardFailed next mid s = found_same b.at.drives c.at.drives s.0 none
  found_copy i (CardChanged p q) next mid s = found_same b.at.drives c.at.drives s.0 none
  found_copy i NoneLeft next mid s = absurd s

  found_date : (i : ℕ) (t : Triple) (other : Option Listed) → DateTurn o i t other b.at.drives c.at b.world c.world → NoneFound c.at.drives.each
  found_date i t None act = found_same b.at.drives c.at.drives act.drives none
  found_date i t (Some l) act = found_same b.at.drives c.at.drives act.0 none

  found_record : (rec : Rec) (e : ℕ) (was : Option Journaled) → RecordTurn o rec e was b.at.drives c.at b.world c.world → NoneFound c.at.drives.each
  found_record rec e None t = found_same b.at.drives c.at.drives t.drives none
  found_record rec e (Some was) t = by t.came t.stands
    where
      by : (came : Result Gate ReadBackError) → RecordStands e was.recs rec came b.at.drives c.at.drives → NoneFound c.at.drives.each
      by (Ok next) m = found_puts e (Begun (was.recs ++ rec ∷ []) next false) b.at.drives.each c.at.drives.each m.each tt none
      by (Err y) m = found_puts e Gone b.at.drives.each c.at.drives.each m.each tt none

  found_seal : (e : ℕ) (x : DriveAt) → SealTurn o e x b.at.drives c.at b.world c.world → NoneFound c.at.drives.each
  found_seal e (Begun recs gate kept) t = by t.came t.stands
    where
      by : (came : Result Unit SealError) → SealStands e came b.at.drives c.at.drives → NoneFound c.at.drives.each
      by (Ok v) m = found_puts e Sealed b.at.drives.each c.at.drives.each m.each tt none
      by (Err y) m = found_puts e Gone b.at.drives.each c.at.drives.each m.each tt none
  found_seal e (Found recs) t = found_puts e Sealed b.at.drives.each c.at.drives.each t.stands.each tt none
  found_seal e Fresh t = absurd t
  found_seal e Gone t = found_same b.at.drives c.at.drives t.drives none
  found_seal e Sealed t = found_same b.at.drives c.at.drives t.drives none

  found_turn : (phase : Phase) → Acted o phase b.at c.at b.pool c.pool b.world c.world → NoneFound c.at.drives.each
  found_turn (Begins e) t = found_begin e (drive_at b.at.drives.each e) t
  found_turn (File i) (inl t) = found_same b.at.drives c.at.drives t.drives none
  found_turn (File i) (inr t) = found_same b.at.drives c.at.drives t.1.drives none
  found_turn (Copies i copy) t = found_copy i t.came t.next t.mid t.settles
  found_turn (Dates i x) t = found_date i x (other_listed o.listed i x) t
  found_turn (Records rec e) t = found_record rec e (due rec.index (drive_at b.at.drives.each e)) t
  found_turn (Seals e) t = found_seal e (drive_at b.at.drives.each e) t
  found_turn Clears t = found_same b.at.drives c.at.drives t.0 none
  found_turn Ended t = found_same b.at.drives c.at.drives (ap (λ (x : At). x.drives) t.0) none

none_found : (o : Ordered) (a b : Point) → NoneFound a.at.drives.each → Alone o a b → NoneFound b.at.drives.each
none_found o a b none still = none
none_found o a b none (turned {b = x} so_far t) = found_turn o x b (none_found o a x none so_far) x.at.phase t

-- ---- calls and lines

drive_silent : (e : ℕ) (y : Device) → Only (Drive e) y → y ≡ Output → ⊥
drive_silent e y on is = absurd (cc (sym on ∙ is))

clock_silent : (y : Device) → Only Clock y → y ≡ Output → ⊥
clock_silent y on is = absurd (cc (sym on ∙ is))

copy_silent : (s : ℕ) (live : List Bool) (y : Device) → Touches s live y → y ≡ Output → ⊥
copy_silent s live y (inl card) is = absurd (cc (sym card ∙ is))
copy_silent s live y (inr (inl pick)) is = absurd (cc (sym pick ∙ is))
copy_silent s live y (inr (inr (d, on, drive))) is = absurd (cc (sym drive ∙ is))

-- calls behind one call
behind_one : (e : Event) (A M F S B C L : List Event) → F ≡ A ++ M → M ≡ e ∷ [] → L ≡ F ++ S → S ≡ B ++ C → L ≡ A ++ e ∷ (B ++ C)
behind_one e A M F S B C L first one rest split =
    let front : F ≡ A ++ e ∷ [] = first ∙ ap (λ (l : List Event). A ++ l) one in
    let whole : L ≡ (A ++ e ∷ []) ++ (B ++ C) = rest ∙ ap (λ (l : List Event). F ++ l) split ∙ ap (λ (l : List Event). l ++ (B ++ C)) front in
    whole ∙ append_assoc A (e ∷ []) (B ++ C)

module _ (o : Ordered) (a : Point) where
  -- a line `sealed` is that of the plan's list, which was read back
  abbrev pub SealedSo : List Event → List ℕ → Bool → Type 0
  SealedSo before line ok = (d : ℕ) → d < 2 ^ 64 → begins_with (codes "sealed") d line ≡ true → (line ≡ sealed_text d (files_of o.plan) (list_of o.plan)) × IsListReadBack o.plan d before

  module _ (m c : Point) (w : Way o a m) (wrote : AreWritten a m.at.drives m.world) (none : NoneFound m.at.drives.each) (each : EachSince SealedSo a.world m.world) where
    -- another line
    told : {mid : World} (text : List ℕ) (said : Bool) → ((d : ℕ) → begins_with (codes "sealed") d text ≡ false) → Silent m.world mid → Says text said mid c.world → EachSince SealedSo a.world c.world
    told text said other silent line =
        since_said SealedSo text said (later_then w.later silent.later) line (λ past L was now d low_d begins. absurd (false≢true (sym (other d) ∙ begins))) (since_silent SealedSo w.later silent each)

    passed : c.world ≡ m.world → EachSince SealedSo a.world c.world
    passed idle = since_same SealedSo a.world idle each

    silently : Silent m.world c.world → EachSince SealedSo a.world c.world
    silently silent = since_silent SealedSo w.later silent each

    begun : (e : ℕ) (was : DriveAt) → BegunAloud o e was m.at.drives c.at m.world c.world → EachSince SealedSo a.world c.world
    begun e was act =
        told (begin_line e (length (records_at was)) (files_of o.plan) act.ok) act.said (begin_other e (length (records_at was)) (files_of o.plan) act.ok).not_sealed
        (silent_went (begin_went o.plan e was act.ok m.world act.mid act.tried) (drive_silent e)) act.line

    begin_turn : (e : ℕ) (was : DriveAt) → BeginTurn o e was m.at.drives c.at m.world c.world → EachSince SealedSo a.world c.world
    begin_turn e Fresh t = begun e Fresh t
    begin_turn e (Begun recs gate kept) t = begun e (Begun recs gate kept) t
    begin_turn e Gone t = passed t.idle
    begin_turn e (Found recs) t = passed t.idle
    begin_turn e Sealed t = passed t.idle

    copied : (i : ℕ) (copy : FileCopy) → CopyActed o i copy m.at.drives c.at m.pool c.pool m.world c.world → EachSince SealedSo a.world c.world
    copied i copy act = by act.came act.settles
      where
        silent : Silent m.world act.mid
        silent = silent_went act.touches (copy_silent (card_of copy) (live_of copy))

        still_silent : c.world ≡ act.mid → EachSince SealedSo a.world c.world
        still_silent idle = silently (silent_then silent (silent_same idle))

        by : (came : Turn) → CopySettles (files_of o.plan) i came act.next m.at.drives c.at act.mid c.world → EachSince SealedSo a.world c.world
        by CopyGoes s = still_silent s.2
        by (Dropped e) s = told (dropped_fault_text e) s.said (fault_other e).not_sealed silent s.line
        by (Copied x) s = still_silent s.2
        by CardFailed s = still_silent s.2
        by (CardChanged listed read) s = still_silent s.2
        by NoneLeft s = absurd s

    date_turn : (i : ℕ) (t : Triple) (other : Option Listed) → DateTurn o i t other m.at.drives c.at m.world c.world → EachSince SealedSo a.world c.world
    date_turn i t None act = silently (silent_went act.asked clock_silent)
    date_turn i t (Some l) act = passed act.2

    record_other_line : (e : ℕ) (path : List ℕ) (rec : Rec) (came : Result Gate ReadBackError) (d : ℕ) → begins_with (codes "sealed") d (record_line e (files_of o.plan) path rec came) ≡ false
    record_other_line e path rec (Ok next) d = done_not_sealed d e (rec.index + 1) (files_of o.plan) path
    record_other_line e path rec (Err y) d = (record_other e (files_of o.plan) path rec y).not_sealed d

    record_turn : (rec : Rec) (e : ℕ) (was : Option Journaled) → RecordTurn o rec e was m.at.drives c.at m.world c.world → EachSince SealedSo a.world c.world
    record_turn rec e None t = passed t.idle
    record_turn rec e (Some was) act =
        told (record_line e (files_of o.plan) act.file.path rec act.came) act.said (record_other_line e act.file.path rec act.came) (silent_went act.went (drive_silent e)) act.line

    -- ---- a sealing

    module _ (e : ℕ) (recs : List Rec) (gate : Gate) (kept : Bool) (is : drive_at m.at.drives.each e ≡ Begun recs gate kept) (fits : Fits o m.at.drives.each (Seals e)) (act : SealedAloud o e recs m.at.drives c.at m.world c.world) where
      there : is_gone (drive_at m.at.drives.each e) ≡ false
      there = ap is_gone is

      low_e : e < 2 ^ 64
      low_e = low o m.at w.run e (of_run m.at.drives e there)

      silent_sealed : Silent m.world act.mid
      silent_sealed = silent_then (silent_went act.asked clock_silent) (silent_went act.went (drive_silent e))

      fit : FitsPlan o.plan (Begun recs gate kept)
      fit = subst (FitsPlan o.plan) is (w.run.drives.each e)

      -- the drive has a record of each file
      full : length recs ≡ length o.plan.files
      full =
          let few = records_few 0 o.plan.files recs fit.0 in
          let all : length o.plan.files ≤ length recs = subst (HasAtLeast (files_of o.plan)) is (fits.have e) in
          omega (arith, few, all)

      -- and these were written to it
      wrote_them : (past front : List Event) → a.world.events ≡ Some past → m.world.events ≡ Some (past ++ front) → records_in e front ≡ map closed_record recs
      wrote_them past front start was = since_at (subst (λ (x : DriveAt). Since (WrittenOf e x) a.world m.world) is (wrote e)) past front start was

      list_back : (v : Unit) → Went (Only (Drive e)) (SealCalls e (list_of o.plan) (list_parts o.plan recs act.finish) (Ok v)) act.dated act.mid → (past L : List Event) → a.world.events ≡ Some past → act.mid.events ≡ Some (past ++ L) → IsListReadBack o.plan e L
      list_back v went past L start now =
          let j = joined_went (later_then w.later (later_went act.asked)) went past L start now in
          let k = joined_went w.later act.asked past j.front start j.was in
          let such = j.such.1 in
          let named : such.there.second ≡ Rename e new_path (list_of o.plan) true ∷ (Sync e true ∷ []) = all_ran (naming e (list_of o.plan)) such.there.second such.there.there in
          record {
            front = k.front;
            drafts = such.first;
            back = such.there.first;
            recs = recs;
            finish = act.finish;
            calls =
                behind_one (Moment act.finish) k.front k.since j.front j.since such.first such.second L k.is k.such.1 j.is such.is
                ∙ ap (λ (l : List Event). k.front ++ Moment act.finish ∷ (such.first ++ l)) (such.there.is ∙ ap (λ (l : List Event). such.there.first ++ l) named);
            recorded = wrote_them past k.front start k.was;
            each = fit.0;
            full = full;
            drafted = such.here;
            whole = subst (λ (text : List ℕ). WholeCalls e new_path (length text) text such.there.first) act.text such.there.here;
          }

      sealed : EachSince SealedSo a.world c.world
      sealed = by act.came act.went act.line
        where
          by : (came : Result Unit SealError) → Went (Only (Drive e)) (SealCalls e (list_of o.plan) (list_parts o.plan recs act.finish) came) act.dated act.mid → Says (seal_line e o.plan came) act.said act.mid c.world → EachSince SealedSo a.world c.world
          by (Ok v) went line =
              since_said SealedSo (sealed_text e (files_of o.plan) (list_of o.plan)) act.said (later_then w.later silent_sealed.later) line
              (λ past L was now d low_d begins.
              let same : e ≡ d = sealed_of e d (files_of o.plan) (list_of o.plan) low_e low_d begins in
              subst (λ (k : ℕ). (sealed_text e (files_of o.plan) (list_of o.plan) ≡ sealed_text k (files_of o.plan) (list_of o.plan)) × IsListReadBack o.plan k L) same (refl, list_back v went past L was now))
              (since_silent SealedSo w.later silent_sealed each)
          by (Err y) went line = told (seal_line e o.plan (Err y)) act.said (seal_other e o.plan y).not_sealed silent_sealed line

    seal_turn : (e : ℕ) (x : DriveAt) → drive_at m.at.drives.each e ≡ x → Fits o m.at.drives.each (Seals e) → SealTurn o e x m.at.drives c.at m.world c.world → EachSince SealedSo a.world c.world
    seal_turn e (Begun recs gate kept) is fits act = sealed e recs gate kept is fits act
    seal_turn e (Found recs) is fits act = absurd (subst IsNotFound is (none e))
    seal_turn e Fresh is fits t = absurd t
    seal_turn e Gone is fits t = passed t.idle
    seal_turn e Sealed is fits t = passed t.idle

    clear_turn : (required count : ℕ) (is_due : Bool) → ClearTurn required count is_due c.at m.world c.world → EachSince SealedSo a.world c.world
    clear_turn required count true t = told (clear_text count required) t.said (clear_other count required).not_sealed (silent_same refl) t.line
    clear_turn required count false t = passed t.1

    turn_seals : (phase : Phase) → Fits o m.at.drives.each phase → Acted o phase m.at c.at m.pool c.pool m.world c.world → EachSince SealedSo a.world c.world
    turn_seals (Begins e) fits t = begin_turn e (drive_at m.at.drives.each e) t
    turn_seals (File i) fits (inl t) = passed t.idle
    turn_seals (File i) fits (inr t) = passed t.1.idle
    turn_seals (Copies i copy) fits t = copied i copy t
    turn_seals (Dates i x) fits t = date_turn i x (other_listed o.listed i x) t
    turn_seals (Records rec e) fits t = record_turn rec e (due rec.index (drive_at m.at.drives.each e)) t
    turn_seals (Seals e) fits t = seal_turn e (drive_at m.at.drives.each e) refl fits t
    turn_seals Clears fits t = clear_turn o.copies (count_sealed m.at.drives.each) (is_clear (count_sealed m.at.drives.each) o.copies) t.1
    turn_seals Ended fits t = passed t.2

  -- ---- any number of turns

  module _ (rules : (b : Point) → IsRun o a.at → Runs o a b → IsRun o b.at) (alone : (b : Point) → Alone o a b → Runs o a b) (s : IsStart o a.at) (unbegun : (d : ℕ) → IsUnbegun (drive_at a.at.drives.each d)) (unfound : (d : ℕ) → IsNotFound (drive_at a.at.drives.each d)) where
    pub turns_seal : (b : Point) → Alone o a b → EachSince SealedSo a.world b.world
    turns_seal b still = since_none SealedSo a.world
    turns_seal b (turned {b = x} so_far t) =
        let w = way o a rules s x (alone x so_far) in
        turn_seals x b w (written a o unbegun x so_far) (none_found o a x unfound so_far) (turns_seal x so_far) x.at.phase w.run.fits t
