-- Each line of a run has its cause before it.
use Rattle.std.proofs.Common.{◌≡◌, inl, inr, ℕ, ◌+◌, ◌^◌, ◌<◌, ◌≤◌, Bool, true, false, List, [], ◌∷◌, ◌++◌, length, refl, sym, ap, ◌∙◌, subst, arith, append_assoc, append-nil}
use Rattle.std.specs.Prelude.{not, ◌||◌, Option, Some, None, Result, Ok, Err, codes}
use Rattle.std.specs.List.{slice_get, flat_map, AllByRecursion}
use Rattle.std.proofs.lemmas.Bool.{cases_eq, false≢true}
use Rattle.bay_core.specs.declared.event.Event.{Event}
use Rattle.bay_core.specs.declared.event.Event.TheVariants.{Sync, Moment, Say}
use Rattle.bay_core.specs.Paths.{part_path}
use Rattle.bay_core.specs.Replay.{Device, Drive, Output, Clock}
use Rattle.bay_core.specs.World.{World}
use Rattle.bay_core.specs.Went.{AllOn, Only, Went}
use Rattle.bay_core.proofs.Runs.{all_ran}
use Rattle.block_pool.specs.Lent.{PoolState}
use Rattle.copy_plan.specs.declared.file.PlannedFile.{PlannedFile}
use Rattle.copy_plan.specs.Plan.{IsPlan, list_of}
use Rattle.copy_plan.proofs.Above.{map_all}
use Rattle.copy_plan.proofs.Files.{AllByRecursion-append}
use Rattle.drive_journal.specs.declared.order.Listed.{Listed}
use Rattle.drive_journal.specs.declared.record.Gate.{Gate}
use Rattle.drive_journal.specs.declared.record.Rec.{Rec}
use Rattle.drive_journal.specs.Calls.{place_calls, open_calls}
use Rattle.drive_journal.specs.Journal.{AreRecords}
use Rattle.drive_journal.specs.Look.{next_gate}
use Rattle.drive_journal.specs.Record.{closed_record}
use Rattle.drive_journal.proofs.Entries.{records_few}
use Rattle.digest_set.specs.Triple.{triple}
use Rattle.fan_core.specs.Flags.{has, no_drives}
use Rattle.fan_core.proofs.Rules.{none_lowest}
use Rattle.fan_copier.specs.declared.copy.FileCopy.{FileCopy}
use Rattle.fan_copier.specs.declared.turn.Turn.{Turn}
use Rattle.fan_copier.specs.declared.turn.Turn.TheVariants.{Going, Dropped, Copied, SourceFailed, Changed, NoDrive}
use Rattle.fan_copier.specs.Copying.{card_of, live_of}
use Rattle.fan_copier.specs.Turning.{Touches}
use Rattle.read_back.specs.declared.back.ReadBackError.{ReadBackError}
use Rattle.read_back.specs.Back.{WholeCalls}
use Rattle.recording.specs.Filing.{RecordCalls}
use Rattle.report_text.specs.Run.{done_text, sealed_text, clear_text}
use Rattle.report_text.specs.Losses.{dropped_fault_text}
use Rattle.seal_step.specs.declared.error.SealError.{SealError}
use Rattle.seal_step.specs.Calls.{SealCalls}
use Rattle.seal_step.specs.Parts.{list_parts}
use Rattle.run_state.specs.declared.phase.Phase.{Phase}
use Rattle.run_state.specs.declared.phase.Phase.TheVariants.{Begins, File, Copies, Dates, Records, Seals, Clears, Ended}
use Rattle.run_state.specs.Acts.{Says, Puts, records_at, begin_line, begun_at, MovesOrDrops, BegunAloud, BeginTurn, CopySettles, CopyActed, other_listed, DateTurn, record_line, RecordStands, RecordTurn, seal_line, SealStands, SealedAloud, SealTurn, is_clear, ClearTurn}
use Rattle.run_state.specs.Rules.{FitsPlan, HasAtLeast, Fits, IsRun}
use Rattle.run_state.specs.Runs.{Point, Runs, starts, turns, beside, Beside, AreBeside, begins_with}
use Rattle.run_state.specs.State.{Ordered, DriveAt, Gone, Fresh, Begun, Found, Sealed, Drives, At, Journaled, files_of, drive_at, is_gone, is_of_run, count_sealed, due}
use Rattle.run_state.specs.Turn.{Acted}
use Rattle.run_state.proofs.Turns.{runs_run}
use Rattle.run_reads.specs.Parts.{Starts}
use Rattle.run_reads.specs.Reads.{got_in, card_given}
use Rattle.run_reads.specs.Backs.{IsDated, IsTheRecord, recording_calls, IsReadBack, IsDoneRightly, IsMadeOn, IsListReadBack, IsSealedRightly, AreSaidRightly, LinesReadBack}
use Rattle.run_reads.proofs.Since.{Since, since_none, since_more, since_such, since_same, since_both, since_at}
use Rattle.run_reads.proofs.Cards.{reads_then, reads_off}
use Rattle.run_reads.proofs.Dating.{dated_more}
use Rattle.run_reads.proofs.Following.{turn_comes, AreSoFar, made_next, so_far_next, AreOf, of_before, of_last, choose}
use Rattle.run_reads.proofs.Places.{below, some_same, drive_past, drive_within, due_some, IsDue}
use Rattle.run_reads.proofs.OfRun.{AreStill, runs_still}
use Rattle.run_reads.proofs.Lines.{IsOther, begin_other, fault_other, record_other, seal_other, clear_other, done_not_sealed, sealed_not_done, done_of, sealed_of, about_done, about_sealed, split_at, no_say, line_beside, one_say}
use Rattle.run_reads.proofs.Standing.{AnyCalls, drive_off, begin_went, FileGave, FileDated, Core, CoreAt, runs_core, start_core}

-- ---- the record that is being made

-- it is the one of its file
abbrev pub OneAt : (ℕ → Rec) → Phase → Type 0
OneAt record_of (Records rec e) = rec ≡ record_of rec.index
OneAt record_of _ = Unit {0}

module _ (o : Ordered) (a : Point) (Date : PlannedFile → ℕ → List Event → Type 0) where
  -- it has its date
  abbrev pub DatedAt : Phase → World → Type 0
  DatedAt (Records rec e) w = (f : PlannedFile) → slice_get o.plan.files rec.index ≡ Some f → Since (Date f rec.hashed) a.world w
  DatedAt _ w = Unit {0}

-- calls on a drive leave a date as it was
abbrev pub DatesStay : (PlannedFile → ℕ → List Event → Type 0) → Type 0
DatesStay Date = (f : PlannedFile) (seconds e : ℕ) (A B : List Event) → Date f seconds A → AllOn (Only (Drive e)) B → Date f seconds (A ++ B)

-- Date says how the date of a record is asked; record_of gives the record of each file
module _ (o : Ordered) (plan : IsPlan o.plan) (a : Point) (Date : PlannedFile → ℕ → List Event → Type 0) (record_of : ℕ → Rec) where
  abbrev Such : PlannedFile → Rec → List Event → Type 0
  Such = IsTheRecord Date record_of

  -- ---- the records of a drive

  -- those with which drive e was found, and behind them those that were made there since
  pub record AreMade (e : ℕ) (recs : List Rec) (L : List Event) : Type 0 where
    pub made : List Rec
    pub is : recs ≡ records_at (drive_at a.at.drives.each e) ++ made
    pub on_drive : AllByRecursion (IsMadeOn Such o e L) made

  made_more : (e : ℕ) (recs : List Rec) (A B : List Event) → AreMade e recs A → AreMade e recs (A ++ B)
  made_more e recs A B h = record {
    made = h.made;
    is = h.is;
    on_drive = map_all (IsMadeOn Such o e A) (IsMadeOn Such o e (A ++ B))
        (λ rec m. record { file = m.file; is_file = m.is_file; front = m.front; back = m.back ++ B; is = ap (λ (l : List Event). l ++ B) m.is ∙ append_assoc m.front m.back B; read = m.read }) h.made h.on_drive;
  }

  -- the records of a drive that stands so, and what else it keeps from the start
  abbrev HistoryOf : ℕ → DriveAt → List Event → Type 0
  HistoryOf e Gone L = Unit {0}
  HistoryOf e Fresh L = drive_at a.at.drives.each e ≡ Fresh
  HistoryOf e (Begun recs gate kept) L = AreMade e recs L
  HistoryOf e (Found recs) L = drive_at a.at.drives.each e ≡ Found recs
  HistoryOf e Sealed L = Unit {0}

  history_more : (e : ℕ) (x : DriveAt) (A B : List Event) → HistoryOf e x A → HistoryOf e x (A ++ B)
  history_more e Gone A B h = tt
  history_more e Fresh A B h = h
  history_more e (Begun recs gate kept) A B h = made_more e recs A B h
  history_more e (Found recs) A B h = h
  history_more e Sealed A B h = tt

  history_went : {On : Device → Type 0} {P : List Event → Type 0} {w new : World} (e : ℕ) (x : DriveAt) → Went On P w new → Since (HistoryOf e x) a.world w → Since (HistoryOf e x) a.world new
  history_went e x went h = since_more h went (λ A B so on such. history_more e x A B so)

  -- the moment was asked last, behind calls that made these records
  record AskedLast (e : ℕ) (recs : List Rec) (finish : ℕ) (L : List Event) : Type 0 where
    front : List Event
    is : L ≡ front ++ Moment finish ∷ []
    recorded : AreMade e recs front

  -- ---- lines that are right

  -- a line that is said rightly behind these calls, whosever it is
  record IsRight (line : List ℕ) (before : List Event) : Type 0 where
    done : (e : ℕ) → is_of_run a.at.drives e ≡ true → begins_with (codes "done") e line ≡ true → IsDoneRightly Such o e line before
    sealed : (e : ℕ) → is_of_run a.at.drives e ≡ true → begins_with (codes "sealed") e line ≡ true → IsSealedRightly Such o a e line before

  other_right : (line : List ℕ) (before : List Event) → IsOther line → IsRight line before
  other_right line before other = record {
    done = λ e of is. absurd (false≢true (sym (other.not_done e) ∙ is));
    sealed = λ e of is. absurd (false≢true (sym (other.not_sealed e) ∙ is));
  }

  lines_more : (A B : List Event) → AreSaidRightly Such o a A → ((front after : List Event) (line : List ℕ) (ok : Bool) → B ≡ front ++ Say line ok ∷ after → IsRight line (A ++ front)) → AreSaidRightly Such o a (A ++ B)
  lines_more A B old new = record {
    done = λ e of before after line ok at begins. elim (split_at A B before after (Say line ok) at) [
      | inl found ↦ old.done e of before found.0 line ok found.1 begins
      | inr found ↦ subst (IsDoneRightly Such o e line) (sym found.1) ((new found.0 after line ok found.2).done e of begins)
    ];
    sealed = λ e of before after line ok at begins. elim (split_at A B before after (Say line ok) at) [
      | inl found ↦ old.sealed e of before found.0 line ok found.1 begins
      | inr found ↦ subst (IsSealedRightly Such o a e line) (sym found.1) ((new found.0 after line ok found.2).sealed e of begins)
    ];
  }

  -- calls without a line
  silent : {On : Device → Type 0} {P : List Event → Type 0} {w new : World} → Went On P w new → ((y : Device) → On y → y ≡ Output → ⊥) → Since (AreSaidRightly Such o a) a.world w → Since (AreSaidRightly Such o a) a.world new
  silent {On} went off old = since_more old went (λ A B so on such. lines_more A B so (λ front after line ok at. absurd (no_say On off front after line ok (subst (AllOn On) at on))))

  -- one line, which is right
  said : (line : List ℕ) (ok : Bool) {w new : World} → Says line ok w new → Since (λ L. AreSaidRightly Such o a L × IsRight line L) a.world w → Since (AreSaidRightly Such o a) a.world new
  said line ok says old = since_more old says.went (λ A B so on such. lines_more A B so.0 (λ front after l how at.
      let one = one_say line ok B such front after l how at in
      let place : A ++ front ≡ A = ap (λ (K : List Event). A ++ K) one.0 ∙ append-nil A in
      subst (IsRight l) (sym place) (subst (λ (x : List ℕ). IsRight x A) (sym one.1) so.1)))

  said_other : (line : List ℕ) (ok : Bool) {w new : World} → IsOther line → Says line ok w new → Since (AreSaidRightly Such o a) a.world w → Since (AreSaidRightly Such o a) a.world new
  said_other line ok other says old = said line ok says (since_such (λ L so. (so, other_right line L other)) old)

  drive_silent : (e : ℕ) (y : Device) → Only (Drive e) y → y ≡ Output → ⊥
  drive_silent e y on is = absurd (cc (sym on ∙ is))

  clock_silent : (y : Device) → Only Clock y → y ≡ Output → ⊥
  clock_silent y on is = absurd (cc (sym on ∙ is))

  copy_silent : (s : ℕ) (live : List Bool) (y : Device) → Touches s live y → y ≡ Output → ⊥
  copy_silent s live y (inl card) is = absurd (cc (sym card ∙ is))
  copy_silent s live y (inr (inl pick)) is = absurd (cc (sym pick ∙ is))
  copy_silent s live y (inr (inr (d, on, drive))) is = absurd (cc (sym drive ∙ is))

  -- ---- what is kept

  pub record Kept (b : Point) : Type 0 where
    pub history : (d : ℕ) → Since (HistoryOf d (drive_at b.at.drives.each d)) a.world b.world
    pub lines : Since (AreSaidRightly Such o a) a.world b.world

  -- the drives are as before
  kept_same : (b c : Point) → c.at.drives ≡ b.at.drives → ((d : ℕ) → Since (HistoryOf d (drive_at b.at.drives.each d)) a.world c.world) → Since (AreSaidRightly Such o a) a.world c.world → Kept c
  kept_same b c same history lines = record { history = λ d. subst (λ (x : Drives). Since (HistoryOf d (drive_at x.each d)) a.world c.world) (sym same) (history d); lines = lines }

  kept_idle : (b c : Point) → Kept b → c.at.drives ≡ b.at.drives → c.world ≡ b.world → Kept c
  kept_idle b c k same idle = kept_same b c same (λ d. since_same idle (k.history d)) (since_same idle k.lines)

  -- one drive stands otherwise
  kept_puts : (b c : Point) (e : ℕ) (x : DriveAt) → Puts e x b.at.drives.each c.at.drives.each → Since (HistoryOf e x) a.world c.world → ((d : ℕ) → Since (HistoryOf d (drive_at b.at.drives.each d)) a.world c.world) → Since (AreSaidRightly Such o a) a.world c.world → Kept c
  kept_puts b c e x puts here others lines = record { history = λ d. by d; lines = lines }
    where
      by : (d : ℕ) → Since (HistoryOf d (drive_at c.at.drives.each d)) a.world c.world
      by d = elim (cases_eq d e) [
        | inl same ↦ subst (λ (n : ℕ). Since (HistoryOf n (drive_at c.at.drives.each n)) a.world c.world) (sym same) (subst (λ (y : DriveAt). Since (HistoryOf e y) a.world c.world) (sym puts.here) here)
        | inr ne ↦ subst (λ (y : DriveAt). Since (HistoryOf d y) a.world c.world) (sym (puts.others d ne)) (others d)
      ]

  none_since : {P : List Event → Type 0} {w : World} → Since P a.world w → Since (λ L. Unit {0}) a.world w
  none_since p = since_such (λ L x. tt) p

  -- the drives are as before, and no line was said
  kept_silent : {On : Device → Type 0} {P : List Event → Type 0} {w : World} (b c : Point) → Kept b → c.at.drives ≡ b.at.drives → Went On P b.world w → ((y : Device) → On y → y ≡ Output → ⊥) → c.world ≡ w → Kept c
  kept_silent b c k same went off idle = kept_same b c same (λ d. since_same idle (history_went d (drive_at b.at.drives.each d) went (k.history d))) (since_same idle (silent went off k.lines))

  -- a drive was dropped, and its line said
  kept_dropped : (b c : Point) (e : ℕ) (line : List ℕ) (ok : Bool) {mid : World} → Puts e Gone b.at.drives.each c.at.drives.each → IsOther line → Says line ok mid c.world
      → ((d : ℕ) → Since (HistoryOf d (drive_at b.at.drives.each d)) a.world mid) → Since (AreSaidRightly Such o a) a.world mid → Kept c
  kept_dropped b c e line ok puts other says history lines =
      let all : (d : ℕ) → Since (HistoryOf d (drive_at b.at.drives.each d)) a.world c.world = λ d. history_went d (drive_at b.at.drives.each d) says.went (history d) in
      kept_puts b c e Gone puts (none_since (all e)) all (said_other line ok other says lines)

  -- ---- the begins

  module _ (b c : Point) (k : Kept b) (e : ℕ) where
    begun_history : (was : DriveAt) (L : List Event) → HistoryOf e was L → HistoryOf e (begun_at o.plan was) L
    begun_history Fresh L h = record { made = []; is = sym (ap (λ (x : DriveAt). records_at x ++ []) h); on_drive = tt }
    begun_history (Begun recs gate kept) L h = h
    begun_history Gone L h = tt
    begun_history (Found recs) L h = h
    begun_history Sealed L h = tt

    begun : (was : DriveAt) → drive_at b.at.drives.each e ≡ was → BegunAloud o e was b.at.drives c.at b.world c.world → Kept c
    begun was is act = by act.ok act.stands
      where
        went : Went (Only (Drive e)) AnyCalls b.world act.mid
        went = begin_went o.plan e was act.ok b.world act.mid act.tried

        lines : Since (AreSaidRightly Such o a) a.world c.world
        lines = said_other (begin_line e (length (records_at was)) (files_of o.plan) act.ok) act.said (begin_other e (length (records_at was)) (files_of o.plan) act.ok) act.line (silent went (drive_silent e) k.lines)

        all : (d : ℕ) → Since (HistoryOf d (drive_at b.at.drives.each d)) a.world c.world
        all d = history_went d (drive_at b.at.drives.each d) act.line.went (history_went d (drive_at b.at.drives.each d) went (k.history d))

        by : (ok : Bool) → MovesOrDrops e ok (begun_at o.plan was) b.at.drives c.at.drives → Kept c
        by true m = kept_puts b c e (begun_at o.plan was) m.each (since_such (λ L h. begun_history was L (subst (λ (x : DriveAt). HistoryOf e x L) is h)) (all e)) all lines
        by false m = kept_puts b c e Gone m.each (none_since (all e)) all lines

    begin_turn : (was : DriveAt) → drive_at b.at.drives.each e ≡ was → BeginTurn o e was b.at.drives c.at b.world c.world → Kept c
    begin_turn Fresh is t = begun Fresh is t
    begin_turn (Begun recs gate kept) is t = begun (Begun recs gate kept) is t
    begin_turn Gone is t = kept_idle b c k t.drives t.idle
    begin_turn (Found recs) is t = kept_idle b c k t.drives t.idle
    begin_turn Sealed is t = kept_idle b c k t.drives t.idle

  -- ---- a turn of a copy

  copy_turn : (b c : Point) (i : ℕ) (copy : FileCopy) → Kept b → CopyActed o i copy b.at.drives c.at b.pool c.pool b.world c.world → Kept c
  copy_turn b c i copy k act = by act.came act.settles
    where
      off : (y : Device) → Touches (card_of copy) (live_of copy) y → y ≡ Output → ⊥
      off = copy_silent (card_of copy) (live_of copy)

      by : (came : Turn) → CopySettles (files_of o.plan) i came act.next b.at.drives c.at act.mid c.world → Kept c
      by Going s = kept_silent b c k s.0 act.touches off s.2
      by (Dropped e) s = kept_dropped b c e (dropped_fault_text e) s.said s.drops.each (fault_other e) s.line
          (λ d. history_went d (drive_at b.at.drives.each d) act.touches (k.history d)) (silent act.touches off k.lines)
      by (Copied t) s = kept_silent b c k s.0 act.touches off s.2
      by SourceFailed s = kept_silent b c k s.0 act.touches off s.2
      by (Changed p q) s = kept_silent b c k s.0 act.touches off s.2
      by NoDrive s = absurd s

  -- ---- the recording of a file

  module _ (b c : Point) (rules : IsRun o b.at) (k : Kept b) (low : (e : ℕ) → is_of_run a.at.drives e ≡ true → e < 2 ^ 64) where
    -- a drive of the run has a short number
    low_now : (e : ℕ) → is_gone (drive_at b.at.drives.each e) ≡ false → e < 2 ^ 64
    low_now e there = let within = drive_within b.at.drives.each e there in let few = rules.drives.few in omega (arith, within, few)

    record_turn : DatesStay Date → (rec : Rec) (e : ℕ) → FileDated o plan a rec b.world → DatedAt o a Date (Records rec e) b.world → OneAt record_of (Records rec e) → (was : Option Journaled) → due rec.index (drive_at b.at.drives.each e) ≡ was → RecordTurn o rec e was b.at.drives c.at b.world c.world → Kept c
    record_turn stay rec e gives dated one None is t = kept_idle b c k t.drives t.idle
    record_turn stay rec e gives dated one (Some was) is act = by act.came act.went act.stands act.line
      where
        at_e : IsDue rec.index (drive_at b.at.drives.each e) was
        at_e = due_some rec.index (drive_at b.at.drives.each e) was is

        there : is_gone (drive_at b.at.drives.each e) ≡ false
        there = ap is_gone at_e.is

        gate : was.gate ≡ next_gate o.plan (length was.recs)
        gate = let fits : FitsPlan o.plan (Begun was.recs was.gate was.kept) = subst (FitsPlan o.plan) at_e.is (rules.drives.each e) in fits.1

        gave : FileGave o plan a rec.index rec.triple b.world
        gave = gives.gave

        same_file : gave.file ≡ act.file
        same_file = some_same gave.file act.file (sym gave.is_file ∙ act.is_file)

        -- the file was read back where it was recorded
        back : (next : Gate) → Went (Only (Drive e)) (RecordCalls e was.gate.at act.file.path rec (Ok next)) b.world act.mid → Since (IsReadBack Such o e rec.index act.file rec) a.world act.mid
        back next went = since_more (since_both gave.reads (dated act.file act.is_file)) went (λ A B so on such.
            let rest = such.there in
            let tail = all_ran (place_calls e was.gate.at act.file.path (closed_record rec) ++ open_calls e was.gate.at) rest.second rest.there in
            let shape : B ≡ Sync e true ∷ (rest.first ++ recording_calls e was.gate.at act.file.path rec) = such.is ∙ ap (λ (l : List Event). l ++ such.second) such.here ∙ ap (λ (l : List Event). Sync e true ∷ l) (rest.is ∙ ap (λ (l : List Event). rest.first ++ l) tail) in
            let place : was.gate.at ≡ (next_gate o.plan rec.index).at = ap (λ (g : Gate). g.at) gate ∙ ap (λ (n : ℕ). (next_gate o.plan n).at) at_e.count in
            record {
              front = A;
              back = rest.first;
              bytes = rest.here.0;
              calls = ap (λ (l : List Event). A ++ l) shape ∙ ap (λ (n : ℕ). A ++ Sync e true ∷ (rest.first ++ recording_calls e n act.file.path rec)) place;
              whole = subst (λ (n : ℕ). WholeCalls e part_path n rest.here.0 rest.first) (gives.sized act.file act.is_file) rest.here.1.0;
              numbers = (refl, gives.sized act.file act.is_file);
              digests = rest.here.1.1;
              card = subst (λ (f : PlannedFile). rec.triple ≡ triple (card_given o.source f.path (A ++ B))) same_file
                  (so.0.2 ∙ ap (λ (K : List Event). triple (flat_map got_in K)) (sym (reads_then o.source gave.file.path A B (reads_off o.source gave.file.path (Only (Drive e)) (drive_off o.source e) B on))));
              such = (one, stay act.file rec.hashed e A B so.1 on);
            })

        mid_lines : Since (AreSaidRightly Such o a) a.world act.mid
        mid_lines = silent act.went (drive_silent e) k.lines

        mid_history : (d : ℕ) → Since (HistoryOf d (drive_at b.at.drives.each d)) a.world act.mid
        mid_history d = history_went d (drive_at b.at.drives.each d) act.went (k.history d)

        -- so its line is right
        right : (L : List Event) → IsReadBack Such o e rec.index act.file rec L → IsRight (done_text e (rec.index + 1) (files_of o.plan) act.file.path) L
        right L read = record {
          done = λ d of begins.
              let same : e ≡ d = done_of e d (rec.index + 1) (files_of o.plan) act.file.path (low_now e there) (low d of) begins in
              subst (λ (n : ℕ). IsDoneRightly Such o n (done_text e (rec.index + 1) (files_of o.plan) act.file.path) L) same (record { index = rec.index; file = act.file; is_file = act.is_file; says = refl; rec = rec; back = read });
          sealed = λ d of begins. absurd (false≢true (sym (done_not_sealed d e (rec.index + 1) (files_of o.plan) act.file.path) ∙ begins));
        }

        -- and the drive has one record more
        more : (L : List Event) → AreMade e was.recs L → IsReadBack Such o e rec.index act.file rec L → AreMade e (was.recs ++ rec ∷ []) L
        more L h read = record {
          made = h.made ++ rec ∷ [];
          is = ap (λ (l : List Rec). l ++ rec ∷ []) h.is ∙ append_assoc (records_at (drive_at a.at.drives.each e)) h.made (rec ∷ []);
          on_drive = AllByRecursion-append (IsMadeOn Such o e L) h.made (rec ∷ []) h.on_drive (record { file = act.file; is_file = act.is_file; front = L; back = []; is = sym (append-nil L); read = read }, tt);
        }

        by : (came : Result Gate ReadBackError) → Went (Only (Drive e)) (RecordCalls e was.gate.at act.file.path rec came) b.world act.mid → RecordStands e was.recs rec came b.at.drives c.at.drives
            → Says (record_line e (files_of o.plan) act.file.path rec came) act.said act.mid c.world → Kept c
        by (Ok next) went m line =
            let read = back next went in
            let all : (d : ℕ) → Since (HistoryOf d (drive_at b.at.drives.each d)) a.world c.world = λ d. history_went d (drive_at b.at.drives.each d) line.went (mid_history d) in
            kept_puts b c e (Begun (was.recs ++ rec ∷ []) next false) m.each
            (history_went e (Begun (was.recs ++ rec ∷ []) next false) line.went (since_such (λ L h. more L (subst (λ (x : DriveAt). HistoryOf e x L) at_e.is h.0) h.1) (since_both (mid_history e) read))) all
            (said (done_text e (rec.index + 1) (files_of o.plan) act.file.path) act.said line (since_such (λ L h. (h.0, right L h.1)) (since_both mid_lines read)))
        by (Err y) went m line = kept_dropped b c e (record_line e (files_of o.plan) act.file.path rec (Err y)) act.said m.each (record_other e (files_of o.plan) act.file.path rec y) line mid_history mid_lines

    -- ---- the sealing

    sealed_aloud : (e : ℕ) (recs : List Rec) (gate : Gate) (kept : Bool) → drive_at b.at.drives.each e ≡ Begun recs gate kept → Fits o b.at.drives.each (Seals e) → SealedAloud o e recs b.at.drives c.at b.world c.world → Kept c
    sealed_aloud e recs gate kept is fits act = by act.came act.went act.stands act.line
      where
        there : is_gone (drive_at b.at.drives.each e) ≡ false
        there = ap is_gone is

        -- they are of all files
        are : AreRecords 0 o.plan.files recs
        are = let fit : FitsPlan o.plan (Begun recs gate kept) = subst (FitsPlan o.plan) is (rules.drives.each e) in fit.0

        full : length recs ≡ length o.plan.files
        full =
            let few = records_few 0 o.plan.files recs are in
            let all : length o.plan.files ≤ length recs = subst (HasAtLeast (files_of o.plan)) is (fits.have e) in
            omega (arith, few, all)

        mid_lines : Since (AreSaidRightly Such o a) a.world act.mid
        mid_lines = silent act.went (drive_silent e) (silent act.asked clock_silent k.lines)

        mid_history : (d : ℕ) → Since (HistoryOf d (drive_at b.at.drives.each d)) a.world act.mid
        mid_history d = history_went d (drive_at b.at.drives.each d) act.went (history_went d (drive_at b.at.drives.each d) act.asked (k.history d))

        asked : Since (AskedLast e recs act.finish) a.world act.dated
        asked = since_more (k.history e) act.asked (λ A B so on such. record { front = A; is = ap (λ (l : List Event). A ++ l) such; recorded = subst (λ (x : DriveAt). HistoryOf e x A) is so })

        back : (done : Result Unit SealError) → done ≡ Ok tt → Went (Only (Drive e)) (SealCalls e (list_of o.plan) (list_parts o.plan recs act.finish) done) act.dated act.mid → Since (IsListReadBack Such o a e) a.world act.mid
        back done ok went = since_more asked went (λ A B so on such. record {
          front = so.front;
          sealing = B;
          finish = act.finish;
          early = act.early;
          recs = recs;
          recorded = record { made = so.recorded.made; is = so.recorded.is; each = are; full = full; on_drive = so.recorded.on_drive };
          calls = ap (λ (l : List Event). l ++ B) so.is ∙ append_assoc so.front (Moment act.finish ∷ []) B;
          text = act.text;
          sealed = subst (λ (r : Result Unit SealError). SealCalls e (list_of o.plan) (list_parts o.plan recs act.finish) r B) ok such;
        })

        right : (L : List Event) → IsListReadBack Such o a e L → IsRight (sealed_text e (files_of o.plan) (list_of o.plan)) L
        right L read = record {
          done = λ d of begins. absurd (false≢true (sym (sealed_not_done d e (files_of o.plan) (list_of o.plan)) ∙ begins));
          sealed = λ d of begins.
              let same : e ≡ d = sealed_of e d (files_of o.plan) (list_of o.plan) (low_now e there) (low d of) begins in
              subst (λ (n : ℕ). IsSealedRightly Such o a n (sealed_text e (files_of o.plan) (list_of o.plan)) L) same (record { says = refl; back = inr read });
        }

        by : (came : Result Unit SealError) → Went (Only (Drive e)) (SealCalls e (list_of o.plan) (list_parts o.plan recs act.finish) came) act.dated act.mid → SealStands e came b.at.drives c.at.drives → Says (seal_line e o.plan came) act.said act.mid c.world → Kept c
        by (Ok v) went m line =
            let all : (d : ℕ) → Since (HistoryOf d (drive_at b.at.drives.each d)) a.world c.world = λ d. history_went d (drive_at b.at.drives.each d) line.went (mid_history d) in
            kept_puts b c e Sealed m.each (none_since (all e)) all
            (said (sealed_text e (files_of o.plan) (list_of o.plan)) act.said line (since_such (λ L h. (h.0, right L h.1)) (since_both mid_lines (back (Ok v) refl went))))
        by (Err y) went m line = kept_dropped b c e (seal_line e o.plan (Err y)) act.said m.each (seal_other e o.plan y) line mid_history mid_lines

    seal_turn : (e : ℕ) (x : DriveAt) → drive_at b.at.drives.each e ≡ x → Fits o b.at.drives.each (Seals e) → SealTurn o e x b.at.drives c.at b.world c.world → Kept c
    seal_turn e Fresh is fits t = absurd t
    seal_turn e Gone is fits t = kept_idle b c k t.drives t.idle
    seal_turn e Sealed is fits t = kept_idle b c k t.drives t.idle
    seal_turn e (Begun recs gate kept) is fits act = sealed_aloud e recs gate kept is fits act
    seal_turn e (Found recs) is fits act =
        let all : (d : ℕ) → Since (HistoryOf d (drive_at b.at.drives.each d)) a.world c.world = λ d. history_went d (drive_at b.at.drives.each d) act.line.went (k.history d) in
        kept_puts b c e Sealed act.stands.each (none_since (all e)) all
        (said (sealed_text e (files_of o.plan) (list_of o.plan)) act.said act.line (since_such (λ L h. (h.0, found L (subst (λ (x : DriveAt). HistoryOf e x L) is h.1))) (since_both k.lines (k.history e))))
      where
        found : (L : List Event) → drive_at a.at.drives.each e ≡ Found recs → IsRight (sealed_text e (files_of o.plan) (list_of o.plan)) L
        found L was = record {
          done = λ d of begins. absurd (false≢true (sym (sealed_not_done d e (files_of o.plan) (list_of o.plan)) ∙ begins));
          sealed = λ d of begins.
              let same : e ≡ d = sealed_of e d (files_of o.plan) (list_of o.plan) (low_now e (ap is_gone is)) (low d of) begins in
              subst (λ (n : ℕ). IsSealedRightly Such o a n (sealed_text e (files_of o.plan) (list_of o.plan)) L) same (record { says = refl; back = inl (recs, was) });
        }

  clear_turn : (b c : Point) → Kept b → c.at.drives ≡ b.at.drives → (required sealed : ℕ) (is_due : Bool) → ClearTurn required sealed is_due c.at b.world c.world → Kept c
  clear_turn b c k same required sealed true t =
      kept_same b c same (λ d. history_went d (drive_at b.at.drives.each d) t.line.went (k.history d)) (said_other (clear_text sealed required) t.said (clear_other sealed required) t.line k.lines)
  clear_turn b c k same required sealed false t = kept_idle b c k same t.1

  -- ---- one turn

  pub turn_kept : (b c : Point) → IsRun o b.at → Kept b → ((e : ℕ) → is_of_run a.at.drives e ≡ true → e < 2 ^ 64) → DatesStay Date → (phase : Phase) → b.at.phase ≡ phase → CoreAt o plan a phase b.at.drives b.pool b.world → DatedAt o a Date phase b.world → OneAt record_of phase → Acted o phase b.at c.at b.pool c.pool b.world c.world → Kept c
  turn_kept b c rules k low stay (Begins e) is core dated one t = begin_turn b c k e (drive_at b.at.drives.each e) refl t
  turn_kept b c rules k low stay (File i) is core dated one (inl t) = kept_idle b c k t.drives t.idle
  turn_kept b c rules k low stay (File i) is core dated one (inr t) = kept_idle b c k t.1.drives t.1.idle
  turn_kept b c rules k low stay (Copies i copy) is core dated one t = copy_turn b c i copy k t
  turn_kept b c rules k low stay (Dates i x) is core dated one t = by (other_listed o.listed i x) t
    where
      by : (other : Option Listed) → DateTurn o i x other b.at.drives c.at b.world c.world → Kept c
      by None act = kept_silent b c k act.drives act.asked clock_silent refl
      by (Some l) act = kept_idle b c k act.0 act.2
  turn_kept b c rules k low stay (Records rec e) is core dated one t = record_turn b c rules k low stay rec e core.1 dated one (due rec.index (drive_at b.at.drives.each e)) refl t
  turn_kept b c rules k low stay (Seals e) is core dated one t = seal_turn b c rules k low e (drive_at b.at.drives.each e) refl (subst (Fits o b.at.drives.each) is rules.fits) t
  turn_kept b c rules k low stay Clears is core dated one t = clear_turn b c k t.0 o.copies (count_sealed b.at.drives.each) (is_clear (count_sealed b.at.drives.each) o.copies) t.1
  turn_kept b c rules k low stay Ended is core dated one t = kept_idle b c k (ap (λ (x : At). x.drives) t.0) t.2

  -- ---- what others do

  pub beside_kept : (b c : Point) → Kept b → AreStill a.at.drives b.at.drives → Beside o b c → Kept c
  beside_kept b c k still t = kept_same b c (ap (λ (x : At). x.drives) t.same) (λ d. history_went d (drive_at b.at.drives.each d) t.went (k.history d))
      (since_more k.lines t.went (λ A B so on such. lines_more A B so (λ front after line ok at.
      let none = line_beside o b.at.drives front after line ok (subst (AreBeside o b.at.drives) at such) in
      record {
        done = λ e of begins. absurd (false≢true (sym (none e (still e of)) ∙ about_done e line begins));
        sealed = λ e of begins. absurd (false≢true (sym (none e (still e of)) ∙ about_sealed e line begins));
      })))

  -- ---- a run as it is made

  pub start_kept : Kept a
  start_kept = record {
    history = λ d. since_none a.world (history d (drive_at a.at.drives.each d) refl);
    lines = since_none a.world (record { done = λ e of before after line ok at begins. absurd (none before after line ok at); sealed = λ e of before after line ok at begins. absurd (none before after line ok at) });
  }
    where
      none : (before after : List Event) (line : List ℕ) (ok : Bool) → [] ≡ before ++ Say line ok ∷ after → ⊥
      none [] after line ok at = absurd (cc at)
      none (x ∷ before) after line ok at = absurd (cc at)

      history : (d : ℕ) (x : DriveAt) → drive_at a.at.drives.each d ≡ x → HistoryOf d x []
      history d Gone is = tt
      history d Fresh is = is
      history d (Begun recs gate kept) is = record { made = []; is = sym (append-nil (records_at (drive_at a.at.drives.each d)) ∙ ap records_at is); on_drive = tt }
      history d (Found recs) is = is
      history d Sealed is = tt

-- a drive that is of a run as it is made has a short number
pub low_at_start : (o : Ordered) (a : Point) → Starts o a → (e : ℕ) → is_of_run a.at.drives e ≡ true → e < 2 ^ 64
low_at_start o a s e of = elim (below e (length a.at.drives.each)) [
  | inl within ↦ let few = s.run.run.drives.few in let w = within.1 in omega (arith, few, w)
  | inr far ↦ absurd (false≢true (sym (ap (λ (x : DriveAt). not (is_gone x) || has a.at.drives.dropped e) (drive_past a.at.drives.each e far.1) ∙ ap (λ (set : List Bool). has set e) s.run.sets.1 ∙ none e) ∙ of))
]
  where
    none : (e : ℕ) → has no_drives e ≡ false
    none e = none_lowest no_drives refl e

-- ---- any number of turns

one_at : (record_of : ℕ → Rec) (phase : Phase) (made : List Rec) → AreSoFar phase made → AreOf record_of made → OneAt record_of phase
one_at record_of (Records rec e) made so_far are = of_last record_of rec e made so_far are
one_at record_of (Begins e) made so_far are = tt
one_at record_of (File i) made so_far are = tt
one_at record_of (Copies i copy) made so_far are = tt
one_at record_of (Dates i t) made so_far are = tt
one_at record_of (Seals e) made so_far are = tt
one_at record_of Clears made so_far are = tt
one_at record_of Ended made so_far are = tt

module _ (o : Ordered) (a : Point) (s : Starts o a) (Date : PlannedFile → ℕ → List Event → Type 0) where
  -- the records that were made, and what is kept whichever function gives them
  pub record Story (b : Point) : Type 0 where
    pub made : List Rec
    pub so_far : AreSoFar b.at.phase made
    pub kept : (record_of : ℕ → Rec) → AreOf record_of made → Kept o s.run.run.plan a Date record_of b

  pub story_start : Story a
  story_start = record { made = []; so_far = subst (λ (p : Phase). AreSoFar p []) (sym s.run.phase) tt; kept = λ record_of are. start_kept o s.run.run.plan a Date record_of }

  pub story_turn : (b c : Point) → IsRun o b.at → Core o s.run.run.plan a b → DatesStay Date → DatedAt o a Date b.at.phase b.world → Story b → Acted o b.at.phase b.at c.at b.pool c.pool b.world c.world → Story c
  story_turn b c rules core stay dated old t = record {
    made = made_next b.at.phase c.at.phase old.made;
    so_far = so_far_next b.at.phase c.at.phase old.made (turn_comes o b c b.at.phase refl t) old.so_far;
    kept = λ record_of are.
        let were = of_before record_of b.at.phase c.at.phase old.made are in
        turn_kept o s.run.run.plan a Date record_of b c rules (old.kept record_of were) (low_at_start o a s) stay b.at.phase refl core dated (one_at record_of b.at.phase old.made old.so_far were) t;
  }

  pub story_beside : (b c : Point) → AreStill a.at.drives b.at.drives → Story b → Beside o b c → Story c
  story_beside b c still old t = record {
    made = old.made;
    so_far = subst (λ (x : At). AreSoFar x.phase old.made) (sym t.same) old.so_far;
    kept = λ record_of are. beside_kept o s.run.run.plan a Date record_of b c (old.kept record_of are) still t;
  }

  pub story_told : (b : Point) → Story b → (past L : List Event) → a.world.events ≡ Some past → b.world.events ≡ Some (past ++ L) → LinesReadBack Date o a L
  story_told b story past L was now =
      let pick = choose b.at.phase story.made story.so_far in
      record { record_of = pick.record_of; lines = since_at (story.kept pick.record_of pick.are).lines past L was now }

-- ---- whatever others do between the turns

module _ (o : Ordered) (a : Point) (s : Starts o a) where
  -- a file has its date once its moment was asked
  has_date : (phase : Phase) (drives : Drives) (pool : PoolState) (w : World) → CoreAt o s.run.run.plan a phase drives pool w → DatedAt o a (IsDated o) phase w
  has_date (Records rec e) drives pool w core = core.1.dated
  has_date (Begins e) drives pool w core = tt
  has_date (File i) drives pool w core = tt
  has_date (Copies i copy) drives pool w core = tt
  has_date (Dates i t) drives pool w core = tt
  has_date (Seals e) drives pool w core = tt
  has_date Clears drives pool w core = tt
  has_date Ended drives pool w core = tt

  stays : DatesStay (IsDated o)
  stays = λ f seconds e A B dated on. dated_more o f seconds A B (reads_off o.source f.path (Only (Drive e)) (drive_off o.source e) B on) dated

  runs_story : (b : Point) → Runs o a b → Story o a s (IsDated o) b
  runs_story b starts = story_start o a s (IsDated o)
  runs_story b (turns {b = x} so_far t) =
      let core = runs_core o s.run.run.plan a x (start_core o s.run.run.plan a s) so_far in
      story_turn o a s (IsDated o) x b (runs_run o a x s.run.run so_far) core stays (has_date x.at.phase x.at.drives x.pool x.world core) (runs_story x so_far) t
  runs_story b (beside {b = x} so_far t) = story_beside o a s (IsDated o) x b (runs_still o a x s.run.run so_far) (runs_story x so_far) t

-- each line of a run is right
pub read_back : (o : Ordered) (a b : Point) → Starts o a → Runs o a b → (past L : List Event) → a.world.events ≡ Some past → b.world.events ≡ Some (past ++ L) → LinesReadBack (IsDated o) o a L
read_back o a b s r past L was now = story_told o a s (IsDated o) b (runs_story o a s b r) past L was now
