-- A run reads each planned file once.
use Rattle.std.proofs.Common.{◌≡◌, ◌≢◌, inl, inr, ℕ, Bool, true, false, List, [], ◌∷◌, ◌++◌, sym, ap, ◌∙◌, subst}
use Rattle.std.specs.Prelude.{Option, Some, None}
use Rattle.std.specs.List.{slice_get}
use Rattle.std.proofs.lemmas.Bool.{cases_eq}
use Rattle.bay_core.specs.declared.event.Event.{Event}
use Rattle.bay_core.specs.declared.event.Event.TheVariants.{SourceRead}
use Rattle.bay_core.specs.Replay.{Device, Source, Drive, Output, Clock}
use Rattle.bay_core.specs.World.{World}
use Rattle.bay_core.specs.Went.{AllOn, Only, Went}
use Rattle.digest_set.specs.declared.triple.Triple.{Triple}
use Rattle.copy_plan.specs.declared.file.PlannedFile.{PlannedFile}
use Rattle.copy_plan.specs.Plan.{IsPlan}
use Rattle.drive_journal.specs.declared.order.Listed.{Listed}
use Rattle.drive_journal.specs.declared.record.Rec.{Rec}
use Rattle.fan_copier.specs.declared.copy.FileCopy.{FileCopy}
use Rattle.fan_copier.specs.declared.turn.Turn.{Turn}
use Rattle.fan_copier.specs.declared.turn.Turn.TheVariants.{Going, Dropped, Copied, SourceFailed, Changed, NoDrive}
use Rattle.fan_copier.specs.Copying.{card_of, live_of}
use Rattle.fan_copier.specs.Follows.{InOrder}
use Rattle.fan_copier.specs.Turning.{Touches, AreCopyCalls, Turned as CopyTurned}
use Rattle.fan_copier.proofs.Ordering.{order_in}
use Rattle.run_state.specs.declared.phase.Phase.{Phase}
use Rattle.run_state.specs.declared.phase.Phase.TheVariants.{Begins, File, Copies, Dates, Records, Seals, Clears, Ended}
use Rattle.run_state.specs.Acts.{BeginTurn, CopySettles, CopyActed, other_listed, DateTurn, RecordTurn, SealTurn, is_clear, ClearTurn}
use Rattle.run_state.specs.Rules.{Fits, IsRun}
use Rattle.run_state.specs.Runs.{Point, Runs, starts, turns, beside, Beside, Alone, still, turned, IsPlanned}
use Rattle.run_state.specs.State.{Ordered, DriveAt, Gone, Fresh, Begun, Found, Sealed, Journaled, files_of, drive_at, count_sealed, due}
use Rattle.run_state.specs.Turn.{Acted}
use Rattle.run_state.proofs.Turns.{runs_run, alone_runs}
use Rattle.run_reads.specs.Reads.{reads_of, ReadsItsFiles}
use Rattle.run_reads.proofs.Since.{Since, since_none, since_more, since_such, since_same, since_at}
use Rattle.run_reads.proofs.Cards.{reads_then, reads_off, other_reads, beside_reads}
use Rattle.run_reads.proofs.Lines.{split_at}
use Rattle.run_reads.proofs.Places.{some_same, is_planned, paths_apart}
use Rattle.run_reads.proofs.Standing.{output_off, clock_off, drive_off, begin_went, Core, CoreAt, runs_core, ordered}

-- another file than this is copied, or none
abbrev IsNotCopied : ℕ → Phase → Type 0
IsNotCopied j (Copies i copy) = i ≢ j
IsNotCopied j _ = Unit {0}

module _ (o : Ordered) (plan : IsPlan o.plan) (a : Point) where
  -- ---- reads that stay

  module _ (f : PlannedFile) (Q : List Event → Type 0) where
    abbrev Seen : World → Type 0
    Seen w = Since (λ L. Q (reads_of o.source f.path L)) a.world w

    stay : {On : Device → Type 0} {P : List Event → Type 0} {w new : World} → Went On P w new → ((B : List Event) → AllOn On B → P B → reads_of o.source f.path B ≡ []) → Seen w → Seen new
    stay went none seen = since_more seen went (λ A B so on such. subst Q (sym (reads_then o.source f.path A B (none B on such))) so)

    stay_drive : {P : List Event → Type 0} {w new : World} (e : ℕ) → Went (Only (Drive e)) P w new → Seen w → Seen new
    stay_drive e went seen = stay went (λ B on such. reads_off o.source f.path (Only (Drive e)) (drive_off o.source e) B on) seen

    stay_line : {P : List Event → Type 0} {w new : World} → Went (Only Output) P w new → Seen w → Seen new
    stay_line went seen = stay went (λ B on such. reads_off o.source f.path (Only Output) (output_off o.source) B on) seen

    stay_clock : {P : List Event → Type 0} {w new : World} → Went (Only Clock) P w new → Seen w → Seen new
    stay_clock went seen = stay went (λ B on such. reads_off o.source f.path (Only Clock) (clock_off o.source) B on) seen

    begin_stays : (b c : Point) (e : ℕ) (was : DriveAt) → BeginTurn o e was b.at.drives c.at b.world c.world → Seen b.world → Seen c.world
    begin_stays b c e Fresh t seen = stay_line t.line.went (stay_drive e (begin_went o.plan e Fresh t.ok b.world t.mid t.tried) seen)
    begin_stays b c e (Begun recs gate kept) t seen = stay_line t.line.went (stay_drive e (begin_went o.plan e (Begun recs gate kept) t.ok b.world t.mid t.tried) seen)
    begin_stays b c e Gone t seen = since_same t.idle seen
    begin_stays b c e (Found recs) t seen = since_same t.idle seen
    begin_stays b c e Sealed t seen = since_same t.idle seen

    settles_stays : (b c : Point) (i : ℕ) (came : Turn) (next : FileCopy) (mid : World) → CopySettles (files_of o.plan) i came next b.at.drives c.at mid c.world → Seen mid → Seen c.world
    settles_stays b c i Going next mid s seen = since_same s.2 seen
    settles_stays b c i (Dropped e) next mid s seen = stay_line s.line.went seen
    settles_stays b c i (Copied t) next mid s seen = since_same s.2 seen
    settles_stays b c i SourceFailed next mid s seen = since_same s.2 seen
    settles_stays b c i (Changed p q) next mid s seen = since_same s.2 seen
    settles_stays b c i NoDrive next mid s seen = absurd s

    date_stays : (b c : Point) (i : ℕ) (t : Triple) (other : Option Listed) → DateTurn o i t other b.at.drives c.at b.world c.world → Seen b.world → Seen c.world
    date_stays b c i t None act seen = stay_clock act.asked seen
    date_stays b c i t (Some l) act seen = since_same act.2 seen

    record_stays : (b c : Point) (rec : Rec) (e : ℕ) (was : Option Journaled) → RecordTurn o rec e was b.at.drives c.at b.world c.world → Seen b.world → Seen c.world
    record_stays b c rec e None t seen = since_same t.idle seen
    record_stays b c rec e (Some was) t seen = stay_line t.line.went (stay_drive e t.went seen)

    seal_stays : (b c : Point) (e : ℕ) (x : DriveAt) → SealTurn o e x b.at.drives c.at b.world c.world → Seen b.world → Seen c.world
    seal_stays b c e (Begun recs gate kept) t seen = stay_line t.line.went (stay_drive e t.went (stay_clock t.asked seen))
    seal_stays b c e (Found recs) t seen = stay_line t.line.went seen
    seal_stays b c e Fresh t seen = absurd t
    seal_stays b c e Gone t seen = since_same t.idle seen
    seal_stays b c e Sealed t seen = since_same t.idle seen

    clear_stays : (b c : Point) (required sealed : ℕ) (is_due : Bool) → ClearTurn required sealed is_due c.at b.world c.world → Seen b.world → Seen c.world
    clear_stays b c required sealed true t seen = stay_line t.line.went seen
    clear_stays b c required sealed false t seen = since_same t.1 seen

    -- a turn that does not copy this file
    turn_stays : (b c : Point) (phase : Phase) (j : ℕ) → slice_get o.plan.files j ≡ Some f → IsNotCopied j phase → CoreAt o plan a phase b.at.drives b.pool b.world → Acted o phase b.at c.at b.pool c.pool b.world c.world → Seen b.world → Seen c.world
    turn_stays b c (Begins e) j is not core t seen = begin_stays b c e (drive_at b.at.drives.each e) t seen
    turn_stays b c (File i) j is not core (inl t) seen = since_same t.idle seen
    turn_stays b c (File i) j is not core (inr t) seen = since_same t.1.idle seen
    turn_stays b c (Copies i copy) j is not core t seen = settles_stays b c i t.came t.next t.mid t.settles
        (stay t.touches (λ B on such. other_reads o.source f.path t.file.path B (paths_apart o.plan plan i j t.file f not t.is_file is) (subst (λ (s : ℕ). AreCopyCalls s t.file.path B) core.1.of_card such)) seen)
    turn_stays b c (Dates i x) j is not core t seen = date_stays b c i x (other_listed o.listed i x) t seen
    turn_stays b c (Records rec e) j is not core t seen = record_stays b c rec e (due rec.index (drive_at b.at.drives.each e)) t seen
    turn_stays b c (Seals e) j is not core t seen = seal_stays b c e (drive_at b.at.drives.each e) t seen
    turn_stays b c Clears j is not core t seen = clear_stays b c o.copies (count_sealed b.at.drives.each) (is_clear (count_sealed b.at.drives.each) o.copies) t.1 seen
    turn_stays b c Ended j is not core t seen = since_same t.2 seen

    beside_stays : (b c : Point) (j : ℕ) → slice_get o.plan.files j ≡ Some f → Beside o b c → Seen b.world → Seen c.world
    beside_stays b c j is t seen = stay t.went (λ B on such. beside_reads o b.at.drives f.path B (is_planned o.plan j f is) such) seen

  -- ---- each file in order

  abbrev InOrderOf : PlannedFile → List Event → Type 0
  InOrderOf f K = InOrder o.source f.path 0 K

  abbrev Orders : World → Type 0
  Orders w = (j : ℕ) (f : PlannedFile) → slice_get o.plan.files j ≡ Some f → Since (λ L. InOrder o.source f.path 0 (reads_of o.source f.path L)) a.world w

  copied_order : (b c : Point) (i : ℕ) (copy : FileCopy) → CoreAt o plan a (Copies i copy) b.at.drives b.pool b.world → CopyActed o i copy b.at.drives c.at b.pool c.pool b.world c.world → (f : PlannedFile) → slice_get o.plan.files i ≡ Some f
      → Since (λ L. InOrder o.source f.path 0 (reads_of o.source f.path L)) a.world c.world
  copied_order b c i copy core t f is =
      let st = core.1 in
      let same : t.file ≡ st.file = some_same t.file st.file (sym t.is_file ∙ st.is_file) in
      let here : st.file ≡ f = some_same st.file f (sym st.is_file ∙ is) in
      let mid = ordered o plan a b c i copy core.0 st t.came t.next t.mid t.between (subst (λ (g : PlannedFile). Went (Touches (card_of copy) (live_of copy)) (AreCopyCalls (card_of copy) g.path) b.world t.mid) same t.touches)
      (subst (λ (g : PlannedFile). CopyTurned g.path copy t.next t.between b.world t.mid st.bytes t.came) same (t.turned st.bytes st.copying)) in
      subst (λ (g : PlannedFile). Since (λ L. InOrder o.source g.path 0 (reads_of o.source g.path L)) a.world c.world) here
      (settles_stays st.file (InOrderOf st.file) b c i t.came t.next t.mid t.settles (since_such (λ L j. order_in o.source st.file.path 0 j.0 (reads_of o.source st.file.path L) j.1) mid))

  turn_orders : (b c : Point) (phase : Phase) → CoreAt o plan a phase b.at.drives b.pool b.world → Acted o phase b.at c.at b.pool c.pool b.world c.world → Orders b.world → Orders c.world
  turn_orders b c (Copies i copy) core t old = λ j f is. elim (cases_eq i j) [
    | inl same ↦ copied_order b c i copy core t f (ap (slice_get o.plan.files) same ∙ is)
    | inr ne ↦ turn_stays f (InOrderOf f) b c (Copies i copy) j is ne core t (old j f is)
  ]
  turn_orders b c (Begins e) core t old = λ j f is. turn_stays f (InOrderOf f) b c (Begins e) j is tt core t (old j f is)
  turn_orders b c (File i) core t old = λ j f is. turn_stays f (InOrderOf f) b c (File i) j is tt core t (old j f is)
  turn_orders b c (Dates i x) core t old = λ j f is. turn_stays f (InOrderOf f) b c (Dates i x) j is tt core t (old j f is)
  turn_orders b c (Records rec e) core t old = λ j f is. turn_stays f (InOrderOf f) b c (Records rec e) j is tt core t (old j f is)
  turn_orders b c (Seals e) core t old = λ j f is. turn_stays f (InOrderOf f) b c (Seals e) j is tt core t (old j f is)
  turn_orders b c Clears core t old = λ j f is. turn_stays f (InOrderOf f) b c Clears j is tt core t (old j f is)
  turn_orders b c Ended core t old = λ j f is. turn_stays f (InOrderOf f) b c Ended j is tt core t (old j f is)

  none_yet : (f : PlannedFile) → InOrder o.source f.path 0 []
  unfolding InOrder
  none_yet f = tt

  pub runs_orders : (b : Point) → Core o plan a a → Runs o a b → Orders b.world
  runs_orders b core starts = λ j f is. since_none a.world (none_yet f)
  runs_orders b core (turns {b = x} so_far t) = turn_orders x b x.at.phase (runs_core o plan a x core so_far) t (runs_orders x core so_far)
  runs_orders b core (beside {b = x} so_far t) = λ j f is. beside_stays f (InOrderOf f) x b j is t (runs_orders x core so_far j f is)

-- ---- no other file is read

-- calls that are on no card have no read of one among them
no_card : (On : Device → Type 0) → ((s : ℕ) → On (Source s) → ⊥) → (front after : List Event) (s : ℕ) (path : List ℕ) (at want : ℕ) (got : Option (List ℕ)) → AllOn On (front ++ SourceRead s path at want got ∷ after) → ⊥
unfolding AllOn
no_card On off [] after s path at want got on = off s on.0
no_card On off (e ∷ front) after s path at want got on = no_card On off front after s path at want got on.1

copy_read : (c : ℕ) (q : List ℕ) (front after : List Event) (s : ℕ) (path : List ℕ) (at want : ℕ) (got : Option (List ℕ)) → AreCopyCalls c q (front ++ SourceRead s path at want got ∷ after) → (s ≡ c) × (path ≡ q)
unfolding AreCopyCalls
copy_read c q [] after s path at want got are = are.0
copy_read c q (e ∷ front) after s path at want got are = copy_read c q front after s path at want got are.1

module _ (o : Ordered) (a : Point) where
  files_more : {On : Device → Type 0} {P : List Event → Type 0} {w new : World} → Went On P w new
      → ((front after : List Event) (s : ℕ) (path : List ℕ) (at want : ℕ) (got : Option (List ℕ)) → AllOn On (front ++ SourceRead s path at want got ∷ after) → P (front ++ SourceRead s path at want got ∷ after) → (s ≡ o.source) × IsPlanned o.plan path)
      → Since (ReadsItsFiles o) a.world w → Since (ReadsItsFiles o) a.world new
  files_more {On} {P} went new old = since_more old went (λ A B so on such. record {
    each = λ before after s path at want got is. elim (split_at A B before after (SourceRead s path at want got) is) [
      | inl found ↦ so.each before found.0 s path at want got found.1
      | inr found ↦ new found.0 after s path at want got (subst (AllOn On) found.2 on) (subst P found.2 such)
    ];
  })

  files_off : {On : Device → Type 0} {P : List Event → Type 0} {w new : World} → Went On P w new → ((s : ℕ) → On (Source s) → ⊥) → Since (ReadsItsFiles o) a.world w → Since (ReadsItsFiles o) a.world new
  files_off {On} went off old = files_more went (λ front after s path at want got on such. absurd (no_card On off front after s path at want got on)) old

  off_drive : (e s : ℕ) → Only (Drive e) (Source s) → ⊥
  off_drive e s on = absurd (cc on)

  off_line : (s : ℕ) → Only Output (Source s) → ⊥
  off_line s on = absurd (cc on)

  off_clock : (s : ℕ) → Only Clock (Source s) → ⊥
  off_clock s on = absurd (cc on)

  begin_files : (b c : Point) (e : ℕ) (was : DriveAt) → BeginTurn o e was b.at.drives c.at b.world c.world → Since (ReadsItsFiles o) a.world b.world → Since (ReadsItsFiles o) a.world c.world
  begin_files b c e Fresh t old = files_off t.line.went off_line (files_off (begin_went o.plan e Fresh t.ok b.world t.mid t.tried) (off_drive e) old)
  begin_files b c e (Begun recs gate kept) t old = files_off t.line.went off_line (files_off (begin_went o.plan e (Begun recs gate kept) t.ok b.world t.mid t.tried) (off_drive e) old)
  begin_files b c e Gone t old = since_same t.idle old
  begin_files b c e (Found recs) t old = since_same t.idle old
  begin_files b c e Sealed t old = since_same t.idle old

  settles_files : (b c : Point) (i : ℕ) (came : Turn) (next : FileCopy) (mid : World) → CopySettles (files_of o.plan) i came next b.at.drives c.at mid c.world → Since (ReadsItsFiles o) a.world mid → Since (ReadsItsFiles o) a.world c.world
  settles_files b c i Going next mid s old = since_same s.2 old
  settles_files b c i (Dropped e) next mid s old = files_off s.line.went off_line old
  settles_files b c i (Copied t) next mid s old = since_same s.2 old
  settles_files b c i SourceFailed next mid s old = since_same s.2 old
  settles_files b c i (Changed p q) next mid s old = since_same s.2 old
  settles_files b c i NoDrive next mid s old = absurd s

  date_files : (b c : Point) (i : ℕ) (t : Triple) (other : Option Listed) → DateTurn o i t other b.at.drives c.at b.world c.world → Since (ReadsItsFiles o) a.world b.world → Since (ReadsItsFiles o) a.world c.world
  date_files b c i t None act old = files_off act.asked off_clock old
  date_files b c i t (Some l) act old = since_same act.2 old

  record_files : (b c : Point) (rec : Rec) (e : ℕ) (was : Option Journaled) → RecordTurn o rec e was b.at.drives c.at b.world c.world → Since (ReadsItsFiles o) a.world b.world → Since (ReadsItsFiles o) a.world c.world
  record_files b c rec e None t old = since_same t.idle old
  record_files b c rec e (Some was) t old = files_off t.line.went off_line (files_off t.went (off_drive e) old)

  seal_files : (b c : Point) (e : ℕ) (x : DriveAt) → SealTurn o e x b.at.drives c.at b.world c.world → Since (ReadsItsFiles o) a.world b.world → Since (ReadsItsFiles o) a.world c.world
  seal_files b c e (Begun recs gate kept) t old = files_off t.line.went off_line (files_off t.went (off_drive e) (files_off t.asked off_clock old))
  seal_files b c e (Found recs) t old = files_off t.line.went off_line old
  seal_files b c e Fresh t old = absurd t
  seal_files b c e Gone t old = since_same t.idle old
  seal_files b c e Sealed t old = since_same t.idle old

  clear_files : (b c : Point) (required sealed : ℕ) (is_due : Bool) → ClearTurn required sealed is_due c.at b.world c.world → Since (ReadsItsFiles o) a.world b.world → Since (ReadsItsFiles o) a.world c.world
  clear_files b c required sealed true t old = files_off t.line.went off_line old
  clear_files b c required sealed false t old = since_same t.1 old

  turn_files : (b c : Point) (phase : Phase) → Fits o b.at.drives.each phase → Acted o phase b.at c.at b.pool c.pool b.world c.world → Since (ReadsItsFiles o) a.world b.world → Since (ReadsItsFiles o) a.world c.world
  turn_files b c (Begins e) fits t old = begin_files b c e (drive_at b.at.drives.each e) t old
  turn_files b c (File i) fits (inl t) old = since_same t.idle old
  turn_files b c (File i) fits (inr t) old = since_same t.1.idle old
  turn_files b c (Copies i copy) fits t old = settles_files b c i t.came t.next t.mid t.settles (files_more t.touches (λ front after s path at want got on such.
      let is = copy_read (card_of copy) t.file.path front after s path at want got such in
      (is.0 ∙ fits.card, subst (IsPlanned o.plan) (sym is.1) (is_planned o.plan i t.file t.is_file))) old)
  turn_files b c (Dates i x) fits t old = date_files b c i x (other_listed o.listed i x) t old
  turn_files b c (Records rec e) fits t old = record_files b c rec e (due rec.index (drive_at b.at.drives.each e)) t old
  turn_files b c (Seals e) fits t old = seal_files b c e (drive_at b.at.drives.each e) t old
  turn_files b c Clears fits t old = clear_files b c o.copies (count_sealed b.at.drives.each) (is_clear (count_sealed b.at.drives.each) o.copies) t.1 old
  turn_files b c Ended fits t old = since_same t.2 old

  alone_files : (b : Point) → IsRun o a.at → Alone o a b → Since (ReadsItsFiles o) a.world b.world
  alone_files b rules still = since_none a.world (record { each = λ before after s path at want got is. absurd (none before after (SourceRead s path at want got) is) })
    where
      none : (before after : List Event) (e : Event) → [] ≡ before ++ e ∷ after → ⊥
      none [] after e is = absurd (cc is)
      none (x ∷ before) after e is = absurd (cc is)
  alone_files b rules (turned {b = x} so_far t) =
      let here = runs_run o a x rules (alone_runs o a x so_far) in
      turn_files x b x.at.phase here.fits t (alone_files x rules so_far)

-- turns with nothing between them read planned files alone
pub its_files : (o : Ordered) (a b : Point) → IsRun o a.at → Alone o a b → (past L : List Event) → a.world.events ≡ Some past → b.world.events ≡ Some (past ++ L) → ReadsItsFiles o L
its_files o a b rules r past L was now = since_at (alone_files o a b rules r) past L was now
