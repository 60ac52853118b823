-- Each line `dropped` of the turns of a run has its cause.
use Rattle.std.proofs.Common.{◌≡◌, inl, inr, ℕ, ◌^◌, ◌<◌, ◌≤◌, Bool, true, false, List, [], ◌∷◌, ◌++◌, length, map, refl, sym, ap, ◌∙◌, subst, arith, append_assoc}
use Rattle.std.specs.Prelude.{Option, Some, None, Result, Ok, Err, codes}
use Rattle.std.specs.List.{flat_map}
use Rattle.std.proofs.lemmas.Bool.{false≢true}
use Rattle.bay_core.specs.declared.event.Event.{Event}
use Rattle.bay_core.specs.declared.event.Event.TheVariants.{Moment}
use Rattle.bay_core.specs.Paths.{part_path}
use Rattle.bay_core.specs.Replay.{Device, Drive, Output, Clock}
use Rattle.bay_core.specs.Went.{AllOn, Only, Went}
use Rattle.bay_core.specs.World.{World, Rose}
use Rattle.copy_plan.specs.Plan.{PlanValue, IsPlan, list_of}
use Rattle.digest_set.specs.declared.triple.Triple.{Triple}
use Rattle.digest_set.specs.Triple.{triple}
use Rattle.drive_journal.specs.declared.order.Listed.{Listed}
use Rattle.drive_journal.specs.declared.record.Gate.{Gate}
use Rattle.drive_journal.specs.declared.record.Rec.{Rec}
use Rattle.drive_journal.specs.Record.{closed_record}
use Rattle.drive_journal.proofs.Entries.{records_few}
use Rattle.fan_copier.specs.declared.copy.FileCopy.{FileCopy}
use Rattle.fan_copier.specs.declared.turn.Turn.{Turn}
use Rattle.fan_copier.specs.declared.turn.Turn.TheVariants.{Going as CopyGoes, Dropped, Copied, SourceFailed as CardFailed, Changed as CardChanged, NoDrive as NoneLeft}
use Rattle.fan_copier.specs.Copying.{card_of, live_of}
use Rattle.fan_copier.specs.Turning.{Touches, GoOn, TurnCause}
use Rattle.read_back.specs.declared.back.ReadBackError.{ReadBackError}
use Rattle.read_back.specs.declared.back.ReadBackError.TheVariants.{DriveFailed as BackFailed, Absent as BackAbsent, Length as BackLength, Differs}
use Rattle.read_back.specs.Back.{ReadBackCalls}
use Rattle.recording.specs.Filing.{BackCalls, Settles, RecordCalls, RecordCause}
use Rattle.report_text.specs.Run.{sealed_text, clear_text}
use Rattle.report_text.specs.Losses.{dropped_fault_text}
use Rattle.seal_step.specs.declared.error.SealError.{SealError}
use Rattle.seal_step.specs.declared.error.SealError.TheVariants.{DriveFailed as SealFailed, Absent as ListAbsent, Byte as ListByte, Length as ListLength}
use Rattle.seal_step.specs.Calls.{Drafts, SealCalls, SealCause}
use Rattle.seal_step.specs.Parts.{list_parts, joined}
use Rattle.seal_step.specs.Reading.{BackCalls as ListCalls}
use Rattle.run_state.specs.declared.phase.Phase.{Phase}
use Rattle.run_state.specs.declared.phase.Phase.TheVariants.{Begins, File, Copies, Dates, Records, Seals, Clears, Ended}
use Rattle.run_state.specs.Acts.{Says, BeginTried, begin_line, records_at, BegunAloud, BeginTurn, CopySettles, CopyActed, other_listed, DateTurn, record_line, RecordedAloud, RecordTurn, seal_line, SealedAloud, SealTurn, is_clear, ClearTurn}
use Rattle.run_state.specs.Rules.{FitsPlan, HasAtLeast, Fits, IsRun}
use Rattle.run_state.specs.Runs.{Point, Alone, still, turned, Runs, begins_with}
use Rattle.run_state.specs.State.{Ordered, DriveAt, Gone, Fresh, Begun, Found, Sealed, Journaled, files_of, drive_at, is_gone, is_of_run, count_sealed, due}
use Rattle.run_state.specs.Turn.{Acted}
use Rattle.run_ends.specs.Losses.{Loss, ByFault, ByAbsence, ByLength, ByDigests, ByByte, loss_text}
use Rattle.run_ends.proofs.Drives.{of_run, low, due_there, due_is}
use Rattle.run_ends.proofs.Later.{later_then, later_went, joined_went, Silent, silent_went, silent_same, silent_then}
use Rattle.run_ends.proofs.Lines.{loss_of}
use Rattle.run_ends.proofs.Saying.{EachSince, since_none, since_silent, since_said, since_same}
use Rattle.run_ends.proofs.Way.{Way, way, came_at, came_later}
use Rattle.run_reads.specs.Parts.{Starts}
use Rattle.run_reads.specs.Reads.{got_in, card_given}
use Rattle.run_reads.proofs.Cards.{reads_then, reads_off}
use Rattle.run_reads.proofs.Places.{some_same}
use Rattle.run_reads.proofs.Since.{Since, since_at}
use Rattle.run_reads.proofs.Standing.{begin_went, drive_off, FileDated, CoreAt, runs_core, start_core}
use Rattle.job_losses.specs.Drops.{PartSaw, records_in, ListSaw, Saw}
use Rattle.job_losses.proofs.Told.{Grows, grows_went, grows_then, rose_in}
use Rattle.job_losses.proofs.Written.{IsUnbegun, WrittenOf, AreWritten, written}

-- What shows a loss of drive d in the turns of a run by this plan, between two moments: that its count rose between them; or what the calls before saw.
abbrev pub ShowsThere : World → World → PlanValue → ℕ → Loss → List Event → Type 0
ShowsThere first last p d ByFault before = Rose (first.faults (Drive d)) (last.faults (Drive d))
ShowsThere first last p d (ByAbsence path) before = Saw p d (ByAbsence path) before
ShowsThere first last p d (ByLength recorded read path) before = Saw p d (ByLength recorded read path) before
ShowsThere first last p d (ByDigests recorded read path) before = Saw p d (ByDigests recorded read path) before
ShowsThere first last p d (ByByte at written read path) before = Saw p d (ByByte at written read path) before

drive_silent : (e : ℕ) (y : Device) → Only (Drive e) y → y ≡ Output → ⊥
drive_silent e y on is = absurd (cc (sym on ∙ is))

clock_silent : (y : Device) → Only Clock y → y ≡ Output → ⊥
clock_silent y on is = absurd (cc (sym on ∙ is))

copy_silent : (s : ℕ) (live : List Bool) (y : Device) → Touches s live y → y ≡ Output → ⊥
copy_silent s live y (inl card) is = absurd (cc (sym card ∙ is))
copy_silent s live y (inr (inl pick)) is = absurd (cc (sym pick ∙ is))
copy_silent s live y (inr (inr (d, on, drive))) is = absurd (cc (sym drive ∙ is))

begin_cause : (p : PlanValue) (d : ℕ) (was : DriveAt) (w mid : World) → BeginTried p d was false w mid → Rose (w.faults (Drive d)) (mid.faults (Drive d))
begin_cause p d Fresh w mid t = t.0.cause refl
begin_cause p d (Begun recs gate kept) w mid t = t.0.cause refl
begin_cause p d Gone w mid t = absurd t
begin_cause p d (Found recs) w mid t = absurd t
begin_cause p d Sealed w mid t = absurd t

-- calls behind one call
behind_one : (e : Event) (A M F S B C L : List Event) → F ≡ A ++ M → M ≡ e ∷ [] → L ≡ F ++ S → S ≡ B ++ C → L ≡ A ++ e ∷ (B ++ C)
behind_one e A M F S B C L first one rest split =
    let front : F ≡ A ++ e ∷ [] = first ∙ ap (λ (l : List Event). A ++ l) one in
    let whole : L ≡ (A ++ e ∷ []) ++ (B ++ C) = rest ∙ ap (λ (l : List Event). F ++ l) split ∙ ap (λ (l : List Event). l ++ (B ++ C)) front in
    whole ∙ append_assoc A (e ∷ []) (B ++ C)

module _ (o : Ordered) (a : Point) (card : o.source ≡ 0) (first last : World) where
  -- the line is that of a loss of drive d, one of the run, which is shown
  pub record Caused (d : ℕ) (line : List ℕ) (before : List Event) : Type 0 where
    pub loss : Loss
    pub says : line ≡ loss_text d loss
    pub of : is_of_run a.at.drives d ≡ true
    pub shows : ShowsThere first last o.plan d loss before

  -- so it is of a line `dropped`
  abbrev pub DropsSo : List Event → List ℕ → Bool → Type 0
  DropsSo before line ok = (d : ℕ) → d < 2 ^ 64 → begins_with (codes "dropped") d line ≡ true → Caused d line before

  module _ (plan : IsPlan o.plan) (early : Grows first a.world) (m c : Point) (w : Way o a m) (wrote : AreWritten a m.at.drives m.world) (late : Grows c.world last) (each : EachSince DropsSo a.world m.world) where
    -- ---- lines

    -- another line
    told : {mid : World} (text : List ℕ) (said : Bool) → ((d : ℕ) → begins_with (codes "dropped") d text ≡ false) → Silent m.world mid → Says text said mid c.world → EachSince DropsSo a.world c.world
    told text said other silent line =
        since_said DropsSo text said (later_then w.later silent.later) line (λ past L was now d low_d begins. absurd (false≢true (sym (other d) ∙ begins))) (since_silent DropsSo w.later silent each)

    -- the line of a loss
    lost : {mid : World} (e : ℕ) (loss : Loss) (said : Bool) → is_gone (drive_at m.at.drives.each e) ≡ false → Silent m.world mid → Says (loss_text e loss) said mid c.world
        → ((past L : List Event) → a.world.events ≡ Some past → mid.events ≡ Some (past ++ L) → ShowsThere first last o.plan e loss L) → EachSince DropsSo a.world c.world
    lost {mid} e loss said there silent line shows = since_said DropsSo (loss_text e loss) said (later_then w.later silent.later) line right (since_silent DropsSo w.later silent each)
      where
        low_e : e < 2 ^ 64
        low_e = low o m.at w.run e (of_run m.at.drives e there)

        of : is_of_run a.at.drives e ≡ true
        of = sym (w.of_run e) ∙ of_run m.at.drives e there

        right : (past L : List Event) → a.world.events ≡ Some past → mid.events ≡ Some (past ++ L) → DropsSo L (loss_text e loss) said
        right past L was now d low_d begins =
            subst (λ (k : ℕ). Caused k (loss_text e loss) L) (loss_of e d loss low_e low_d begins) (record { loss = loss; says = refl; of = of; shows = shows past L was now })

    -- by a fault, where the count of the drive rose in the turn
    lost_by_fault : {mid : World} (e : ℕ) (said : Bool) → is_gone (drive_at m.at.drives.each e) ≡ false → Silent m.world mid → Says (dropped_fault_text e) said mid c.world → Rose (m.world.faults (Drive e)) (mid.faults (Drive e)) → EachSince DropsSo a.world c.world
    lost_by_fault {mid} e said there silent line rose =
        let before : Grows first m.world = grows_then early (record { each = w.later.faults }) in
        let after : Grows mid last = grows_then (grows_went line.went) late in
        lost e ByFault said there silent line (λ past L was now. rose_in (Drive e) before after rose)

    passed : c.world ≡ m.world → EachSince DropsSo a.world c.world
    passed idle = since_same DropsSo a.world idle each

    silently : Silent m.world c.world → EachSince DropsSo a.world c.world
    silently silent = since_silent DropsSo w.later silent each

    -- ---- a begin

    begun : (e : ℕ) (was : DriveAt) → drive_at m.at.drives.each e ≡ was → is_gone was ≡ false → BegunAloud o e was m.at.drives c.at m.world c.world → EachSince DropsSo a.world c.world
    begun e was is there act = by act.ok act.tried act.line
      where
        by : (ok : Bool) → BeginTried o.plan e was ok m.world act.mid → Says (begin_line e (length (records_at was)) (files_of o.plan) ok) act.said act.mid c.world → EachSince DropsSo a.world c.world
        by true tried line = told (begin_line e (length (records_at was)) (files_of o.plan) true) act.said (λ d. refl) (silent_went (begin_went o.plan e was true m.world act.mid tried) (drive_silent e)) line
        by false tried line = lost_by_fault e act.said (ap is_gone is ∙ there) (silent_went (begin_went o.plan e was false m.world act.mid tried) (drive_silent e)) line (begin_cause o.plan e was m.world act.mid tried)

    begin_turn : (e : ℕ) (was : DriveAt) → drive_at m.at.drives.each e ≡ was → BeginTurn o e was m.at.drives c.at m.world c.world → EachSince DropsSo a.world c.world
    begin_turn e Fresh is t = begun e Fresh is refl t
    begin_turn e (Begun recs gate kept) is t = begun e (Begun recs gate kept) is refl t
    begin_turn e Gone is t = passed t.idle
    begin_turn e (Found recs) is t = passed t.idle
    begin_turn e Sealed is t = passed t.idle

    -- ---- a copy

    copied : (i : ℕ) (copy : FileCopy) → Fits o m.at.drives.each (Copies i copy) → CopyActed o i copy m.at.drives c.at m.pool c.pool m.world c.world → EachSince DropsSo a.world c.world
    copied i copy fits act = by act.came act.go_on act.cause act.settles
      where
        silent : Silent m.world act.mid
        silent = silent_went act.touches (copy_silent (card_of copy) (live_of copy))

        still_silent : c.world ≡ act.mid → EachSince DropsSo a.world c.world
        still_silent idle = silently (silent_then silent (silent_same idle))

        by : (came : Turn) → GoOn came (live_of copy) (live_of act.next) → TurnCause (card_of copy) came m.world act.mid → CopySettles (files_of o.plan) i came act.next m.at.drives c.at act.mid c.world → EachSince DropsSo a.world c.world
        by CopyGoes go t s = still_silent s.2
        by (Dropped e) go t s = lost_by_fault e s.said (due_there i (drive_at m.at.drives.each e) (sym (fits.live e) ∙ go.0)) silent s.line t
        by (Copied x) go t s = still_silent s.2
        by CardFailed go t s = still_silent s.2
        by (CardChanged listed read) go t s = still_silent s.2
        by NoneLeft go t s = absurd s

    date_turn : (i : ℕ) (t : Triple) (other : Option Listed) → DateTurn o i t other m.at.drives c.at m.world c.world → EachSince DropsSo a.world c.world
    date_turn i t None act = silently (silent_went act.asked clock_silent)
    date_turn i t (Some l) act = passed act.2

    -- ---- a recording

    module _ (rec : Rec) (e : ℕ) (gives : FileDated o plan a rec m.world) (was : Journaled) (is : due rec.index (drive_at m.at.drives.each e) ≡ Some was) (act : RecordedAloud o rec e was m.at.drives c.at m.world c.world) where
      there_due : is_gone (drive_at m.at.drives.each e) ≡ false
      there_due = due_there rec.index (drive_at m.at.drives.each e) (due_is rec.index (drive_at m.at.drives.each e) was is)

      silent_recorded : Silent m.world act.mid
      silent_recorded = silent_went act.went (drive_silent e)

      same_file : gives.gave.file ≡ act.file
      same_file = some_same gives.gave.file act.file (sym gives.gave.is_file ∙ act.is_file)

      -- the digests are those of what the card gave
      card_gave : (past front since L : List Event) → a.world.events ≡ Some past → m.world.events ≡ Some (past ++ front) → L ≡ front ++ since → AllOn (Only (Drive e)) since → rec.triple ≡ triple (card_given 0 act.file.path L)
      card_gave past front since L start was split on =
          let path : List ℕ = gives.gave.file.path in
          let none = reads_then o.source path front since (reads_off o.source path (Only (Drive e)) (drive_off o.source e) since on) in
          let saw = since_at gives.gave.reads past front start was in
          saw.2 ∙ ap (λ (K : List Event). triple (flat_map got_in K)) (sym none) ∙ ap (λ (l : List Event). triple (card_given o.source path l)) (sym split)
          ∙ (λ i. triple (card_given (card i) ((same_file i).path) L))

      -- what the last calls saw
      part_saw : (y : ReadBackError) → Went (Only (Drive e)) (Settles e (BackCalls e rec (Err y))) m.world act.mid → (past L : List Event) → a.world.events ≡ Some past → act.mid.events ≡ Some (past ++ L) → PartSaw o.plan e act.file.path y L
      part_saw y went past L start now =
          let j = joined_went w.later went past L start now in
          let such = j.such.1 in
          let sized = gives.sized act.file act.is_file in
          let digests = card_gave past j.front j.since L start j.was j.is j.such.0 in
          record {
            index = rec.index;
            file = act.file;
            is_file = act.is_file;
            is_path = refl;
            front = j.front;
            back = such.second;
            calls = j.is ∙ ap (λ (l : List Event). j.front ++ l) (such.is ∙ ap (λ (l : List Event). l ++ such.second) such.here);
            bytes = such.there.0;
            saw = subst (λ (t : Triple). ReadBackCalls e part_path act.file.size t (Err y) such.there.0 such.second) digests
                (subst (λ (n : ℕ). ReadBackCalls e part_path n rec.triple (Err y) such.there.0 such.second) sized such.there.1);
          }

      recorded : EachSince DropsSo a.world c.world
      recorded = by act.came act.went act.cause act.line
        where
          by : (came : Result Gate ReadBackError) → Went (Only (Drive e)) (RecordCalls e was.gate.at act.file.path rec came) m.world act.mid → RecordCause e came m.world act.mid
              → Says (record_line e (files_of o.plan) act.file.path rec came) act.said act.mid c.world → EachSince DropsSo a.world c.world
          by (Ok next) went cause line = told (record_line e (files_of o.plan) act.file.path rec (Ok next)) act.said (λ d. refl) silent_recorded line
          by (Err BackFailed) went cause line = lost_by_fault e act.said there_due silent_recorded line (cause refl)
          by (Err BackAbsent) went cause line = lost e (ByAbsence act.file.path) act.said there_due silent_recorded line (λ past L was now. inl (part_saw BackAbsent went past L was now))
          by (Err (BackLength x y)) went cause line = lost e (ByLength x y act.file.path) act.said there_due silent_recorded line (λ past L was now. inl (part_saw (BackLength x y) went past L was now))
          by (Err (Differs x y)) went cause line = lost e (ByDigests x y act.file.path) act.said there_due silent_recorded line (λ past L was now. part_saw (Differs x y) went past L was now)

    record_turn : (rec : Rec) (e : ℕ) → FileDated o plan a rec m.world → (was : Option Journaled) → due rec.index (drive_at m.at.drives.each e) ≡ was → RecordTurn o rec e was m.at.drives c.at m.world c.world → EachSince DropsSo a.world c.world
    record_turn rec e gives None is t = passed t.idle
    record_turn rec e gives (Some was) is act = recorded rec e gives was is act

    -- ---- a sealing

    module _ (e : ℕ) (recs : List Rec) (gate : Gate) (kept : Bool) (is : drive_at m.at.drives.each e ≡ Begun recs gate kept) (fits : Fits o m.at.drives.each (Seals e)) (act : SealedAloud o e recs m.at.drives c.at m.world c.world) where
      there_sealed : is_gone (drive_at m.at.drives.each e) ≡ false
      there_sealed = ap is_gone is

      silent_sealed : Silent m.world act.mid
      silent_sealed = silent_then (silent_went act.asked clock_silent) (silent_went act.went (drive_silent e))

      -- the drive has a record of each file
      full : length recs ≡ length o.plan.files
      full =
          let fit : FitsPlan o.plan (Begun recs gate kept) = subst (FitsPlan o.plan) is (w.run.drives.each e) in
          let few = records_few 0 o.plan.files recs fit.0 in
          let all : length o.plan.files ≤ length recs = subst (HasAtLeast (files_of o.plan)) is (fits.have e) in
          omega (arith, few, all)

      -- and these were written to it
      wrote_them : (past front : List Event) → a.world.events ≡ Some past → m.world.events ≡ Some (past ++ front) → records_in e front ≡ map closed_record recs
      wrote_them past front start was = since_at (subst (λ (x : DriveAt). Since (WrittenOf e x) a.world m.world) is (wrote e)) past front start was

      -- what the last calls saw
      list_saw : (y : SealError) → Went (Only (Drive e)) (Drafts e (list_parts o.plan recs act.finish) (ListCalls e (joined (list_parts o.plan recs act.finish)) (Err y))) act.dated act.mid
          → (past L : List Event) → a.world.events ≡ Some past → act.mid.events ≡ Some (past ++ L) → ListSaw o.plan e (list_of o.plan) y L
      list_saw y went past L start now =
          let j = joined_went (later_then w.later (later_went act.asked)) went past L start now in
          let k = joined_went w.later act.asked past j.front start j.was in
          let such = j.such.1 in
          record {
            is_path = refl;
            recs = recs;
            full = full;
            finish = act.finish;
            front = k.front;
            drafts = such.first;
            back = such.second;
            calls = behind_one (Moment act.finish) k.front k.since j.front j.since such.first such.second L k.is k.such.1 j.is such.is;
            recorded = wrote_them past k.front start k.was;
            drafted = such.here;
            saw = subst (λ (text : List ℕ). ListCalls e text (Err y) such.second) act.text such.there;
          }

      sealed : EachSince DropsSo a.world c.world
      sealed = by act.came act.went act.cause act.line
        where
          by : (came : Result Unit SealError) → Went (Only (Drive e)) (SealCalls e (list_of o.plan) (list_parts o.plan recs act.finish) came) act.dated act.mid → SealCause e came act.dated act.mid
              → Says (seal_line e o.plan came) act.said act.mid c.world → EachSince DropsSo a.world c.world
          by (Ok v) went cause line = told (seal_line e o.plan (Ok v)) act.said (λ d. refl) silent_sealed line
          by (Err SealFailed) went cause line =
              lost_by_fault e act.said there_sealed silent_sealed line (let before = act.asked.later (Drive e) in let rose = cause refl in omega (arith, before, rose))
          by (Err ListAbsent) went cause line = lost e (ByAbsence (list_of o.plan)) act.said there_sealed silent_sealed line (λ past L was now. inr (list_saw ListAbsent went past L was now))
          by (Err (ListLength x y)) went cause line = lost e (ByLength x y (list_of o.plan)) act.said there_sealed silent_sealed line (λ past L was now. inr (list_saw (ListLength x y) went past L was now))
          by (Err (ListByte p x y)) went cause line = lost e (ByByte p x y (list_of o.plan)) act.said there_sealed silent_sealed line (λ past L was now. list_saw (ListByte p x y) went past L was now)

    seal_turn : (e : ℕ) (x : DriveAt) → drive_at m.at.drives.each e ≡ x → Fits o m.at.drives.each (Seals e) → SealTurn o e x m.at.drives c.at m.world c.world → EachSince DropsSo a.world c.world
    seal_turn e (Begun recs gate kept) is fits act = sealed e recs gate kept is fits act
    seal_turn e (Found recs) is fits act = told (sealed_text e (files_of o.plan) (list_of o.plan)) act.said (λ d. refl) (silent_same refl) act.line
    seal_turn e Fresh is fits t = absurd t
    seal_turn e Gone is fits t = passed t.idle
    seal_turn e Sealed is fits t = passed t.idle

    clear_turn : (required count : ℕ) (is_due : Bool) → ClearTurn required count is_due c.at m.world c.world → EachSince DropsSo a.world c.world
    clear_turn required count true t = told (clear_text count required) t.said (λ d. refl) (silent_same refl) t.line
    clear_turn required count false t = passed t.1

    turn_drops : (phase : Phase) → Fits o m.at.drives.each phase → CoreAt o plan a phase m.at.drives m.pool m.world → Acted o phase m.at c.at m.pool c.pool m.world c.world → EachSince DropsSo a.world c.world
    turn_drops (Begins e) fits core t = begin_turn e (drive_at m.at.drives.each e) refl t
    turn_drops (File i) fits core (inl t) = passed t.idle
    turn_drops (File i) fits core (inr t) = passed t.1.idle
    turn_drops (Copies i copy) fits core t = copied i copy fits t
    turn_drops (Dates i x) fits core t = date_turn i x (other_listed o.listed i x) t
    turn_drops (Records rec e) fits core t = record_turn rec e core.1 (due rec.index (drive_at m.at.drives.each e)) refl t
    turn_drops (Seals e) fits core t = seal_turn e (drive_at m.at.drives.each e) refl fits t
    turn_drops Clears fits core t = clear_turn o.copies (count_sealed m.at.drives.each) (is_clear (count_sealed m.at.drives.each) o.copies) t.1
    turn_drops Ended fits core t = passed t.2

  -- ---- any number of turns

  module _ (rules : (b : Point) → IsRun o a.at → Runs o a b → IsRun o b.at) (alone : (b : Point) → Alone o a b → Runs o a b) (s : Starts o a) (none : (d : ℕ) → IsUnbegun (drive_at a.at.drives.each d)) (early : Grows first a.world) where
    -- each line `dropped` among the calls since the run was made
    pub turns_drop : (b : Point) → Alone o a b → Grows b.world last → EachSince DropsSo a.world b.world
    turns_drop b still late = since_none DropsSo a.world
    turns_drop b (turned {b = x} so_far t) late =
        let runs = alone x so_far in
        let w = way o a rules s.run x runs in
        let later = came_later o a x b (came_at o a x b w t) in
        let before = turns_drop x so_far (grows_then (record { each = later.faults }) late) in
        turn_drops s.run.run.plan early x b w (written a o none x so_far) late before x.at.phase w.run.fits (runs_core o s.run.run.plan a x (start_core o s.run.run.plan a s) runs) t
