-- A part gets the path of its file where that was read to its end, and then the file is not read any more.
use Rattle.std.proofs.Common.{◌≡◌, inl, inr, ℕ, ◌+◌, Bool, true, false, List, [], ◌∷◌, ◌++◌, length, refl, sym, ap, ◌∙◌, subst, arith, append_assoc}
use Rattle.std.specs.Prelude.{Option, Some, None, Result, Ok, Err}
use Rattle.std.specs.List.{slice_get, AllByRecursion}
use Rattle.std.specs.Cmp.Lexicographic.{other_text}
use Rattle.std.proofs.lemmas.Bool.{cases_eq, false≢true}
use Rattle.std.proofs.lemmas.List.{append_cancel_left}
use Rattle.bay_core.specs.declared.event.Event.{Event}
use Rattle.bay_core.specs.declared.event.Event.TheVariants.{Rename}
use Rattle.bay_core.specs.Looks.{is_effect, IsUntouched}
use Rattle.bay_core.specs.Paths.{new_path, part_path, journal_path}
use Rattle.bay_core.specs.Replay.{Device, Drive, Output, Clock, device_of}
use Rattle.bay_core.specs.World.{World}
use Rattle.bay_core.specs.Went.{AllOn, Only, Went, Ran, Then, sync_call}
use Rattle.bay_core.proofs.Runs.{went_such, AllOn-front}
use Rattle.digest_set.specs.declared.triple.Triple.{Triple}
use Rattle.copy_plan.specs.declared.file.PlannedFile.{PlannedFile}
use Rattle.copy_plan.specs.Plan.{PlanValue, IsPlan, list_of}
use Rattle.copy_plan.proofs.Files.{AllByRecursion-append, all_one}
use Rattle.drive_journal.specs.declared.order.Listed.{Listed}
use Rattle.drive_journal.specs.declared.record.Gate.{Gate}
use Rattle.drive_journal.specs.declared.record.Rec.{Rec}
use Rattle.drive_journal.specs.Calls.{publish_calls, place_calls, open_calls, tidied, removals, tidy_calls}
use Rattle.drive_journal.specs.Record.{closed_record}
use Rattle.fan_copier.specs.declared.copy.FileCopy.{FileCopy}
use Rattle.fan_copier.specs.declared.turn.Turn.{Turn}
use Rattle.fan_copier.specs.declared.turn.Turn.TheVariants.{Going, Dropped, Copied, SourceFailed, Changed, NoDrive}
use Rattle.fan_copier.specs.Copying.{card_of}
use Rattle.fan_copier.specs.Follows.{EndsAtSize}
use Rattle.fan_copier.specs.Turning.{AreCopyCalls}
use Rattle.read_back.specs.declared.back.ReadBackError.{ReadBackError}
use Rattle.read_back.specs.declared.back.ReadBackError.TheVariants.{DriveFailed as BackFailed, Absent as BackAbsent, Length as BackLength, Differs}
use Rattle.read_back.proofs.Laws.{back_keeps as part_untouched}
use Rattle.recording.specs.Filing.{BackCalls as PartCalls, Settles, RecordCalls}
use Rattle.seal_step.specs.declared.error.SealError.{SealError}
use Rattle.seal_step.specs.declared.error.SealError.TheVariants.{DriveFailed as SealFailed, Absent as ListAbsent, Byte as ListByte, Length as ListLength}
use Rattle.seal_step.specs.Calls.{Drafts, SealCalls}
use Rattle.seal_step.specs.Parts.{list_parts, joined, writes_from, drafting, naming}
use Rattle.seal_step.specs.Reading.{BackCalls as ListCalls}
use Rattle.seal_step.proofs.Drafted.{back_keeps as list_untouched}
use Rattle.run_state.specs.declared.phase.Phase.{Phase}
use Rattle.run_state.specs.declared.phase.Phase.TheVariants.{Begins, File, Copies, Dates, Records, Seals, Clears, Ended}
use Rattle.run_state.specs.Acts.{next_path, new_journal, BeginTried, BeginTurn, CopySettles, CopyActed, other_listed, DateTurn, RecordedAloud, RecordTurn, SealTurn, is_clear, ClearTurn}
use Rattle.run_state.specs.Rules.{IsRun}
use Rattle.run_state.specs.Runs.{Point, Runs, starts, turns, beside, Beside, IsElsewhere}
use Rattle.run_state.specs.State.{Ordered, DriveAt, Gone, Fresh, Begun, Found, Sealed, At, Journaled, files_of, drive_at, is_of_run, count_sealed, due}
use Rattle.run_state.specs.Turn.{Acted}
use Rattle.run_reads.specs.Parts.{Starts}
use Rattle.run_reads.specs.Reads.{reads_of, ReadsOnce}
use Rattle.run_reads.proofs.Since.{Since, since_none, since_more, since_such, since_same, since_both, since_at}
use Rattle.run_reads.proofs.Cards.{reads_then, reads_off, other_reads, beside_reads}
use Rattle.run_reads.proofs.Following.{IsPast, past_next, turn_comes}
use Rattle.run_reads.proofs.Lines.{split_at}
use Rattle.run_reads.proofs.OfRun.{AreStill, runs_still}
use Rattle.run_reads.proofs.Once.{runs_orders}
use Rattle.run_reads.proofs.Places.{some_same, is_planned, paths_apart}
use Rattle.run_reads.proofs.Standing.{output_off, clock_off, drive_off, Saw, FileDated, Core, CoreAt, runs_core, start_core}

-- ---- which paths a part gets among the calls of an act

-- a rename of the part is to such a path
abbrev GivesOnly : (List ℕ → Type 0) → Event → Type 0
GivesOnly To (Rename d from to ok) = from ≡ part_path → To to
GivesOnly To e = Unit {0}

-- each is
abbrev GiveOnly : (List ℕ → Type 0) → List Event → Type 0
GiveOnly To L = AllByRecursion (GivesOnly To) L

-- a call, whatever its answer, is
abbrev CallGives : (List ℕ → Type 0) → (Bool → Event) → Type 0
CallGives To c = GivesOnly To (c true) × GivesOnly To (c false)

untouched_one : (To : List ℕ → Type 0) (e : Event) → is_effect e ≡ false → GivesOnly To e
untouched_one To (Rename d from to ok) off = absurd (false≢true (sym off))
untouched_one To e off = tt

untouched_gives : (To : List ℕ → Type 0) (L : List Event) → IsUntouched L → GiveOnly To L
unfolding IsUntouched
untouched_gives To [] off = tt
untouched_gives To (e ∷ L) off = (untouched_one To e off.0, untouched_gives To L off.1)

ran_gives : (To : List ℕ → Type 0) (cs : List (Bool → Event)) (ok : Bool) (L : List Event) → AllByRecursion (CallGives To) cs → Ran cs ok L → GiveOnly To L
unfolding Ran
ran_gives To [] true L all ran = subst (GiveOnly To) (sym ran) tt
ran_gives To [] false L all ran = absurd ran
ran_gives To (c ∷ cs) true L all (rest, is, more) = subst (GiveOnly To) (sym is) (all.0.0, ran_gives To cs true rest all.1 more)
ran_gives To (c ∷ cs) false L all (inl none) = subst (GiveOnly To) (sym none) tt
ran_gives To (c ∷ cs) false L all (inr (inl one)) = subst (GiveOnly To) (sym one) (all.0.1, tt)
ran_gives To (c ∷ cs) false L all (inr (inr (rest, is, more))) = subst (GiveOnly To) (sym is) (all.0.0, ran_gives To cs false rest all.1 more)

then_gives : {P Q : List Event → Type 0} (To : List ℕ → Type 0) (L : List Event) → ((K : List Event) → P K → GiveOnly To K) → ((K : List Event) → Q K → GiveOnly To K) → Then P Q L → GiveOnly To L
then_gives To L first second t = subst (GiveOnly To) (sym t.is) (AllByRecursion-append (GivesOnly To) t.first t.second (first t.first t.here) (second t.second t.there))

new_apart : (To : List ℕ → Type 0) (to : List ℕ) → new_path ≡ part_path → To to
new_apart To to is = absurd (other_text new_path part_path refl is)

-- no path
abbrev Nowhere : List ℕ → Type 0
Nowhere to = ⊥

module _ (To : List ℕ → Type 0) where
  removals_give : (d : ℕ) (paths : List (List ℕ)) → AllByRecursion (CallGives To) (removals d paths)
  removals_give d [] = tt
  removals_give d (path ∷ paths) = ((tt, tt), removals_give d paths)

  publish_gives : (d : ℕ) (to bytes : List ℕ) → AllByRecursion (CallGives To) (publish_calls d to bytes)
  publish_gives d to bytes = ((tt, tt), ((tt, tt), ((new_apart To to, new_apart To to), ((tt, tt), tt))))

  writes_give : (d at : ℕ) (parts : List (List ℕ)) → AllByRecursion (CallGives To) (writes_from d at parts)
  writes_give d at [] = tt
  writes_give d at (part ∷ parts) = ((tt, tt), writes_give d (at + length part) parts)

  drafting_gives : (d : ℕ) (parts : List (List ℕ)) → AllByRecursion (CallGives To) (drafting d parts)
  drafting_gives d parts = AllByRecursion-append (CallGives To) (writes_from d 0 parts) (sync_call d ∷ []) (writes_give d 0 parts) ((tt, tt), tt)

  naming_gives : (d : ℕ) (list : List ℕ) → AllByRecursion (CallGives To) (naming d list)
  naming_gives d list = ((new_apart To list, new_apart To list), ((tt, tt), tt))

  -- a sealing
  seal_gives : (d : ℕ) (list : List ℕ) (parts : List (List ℕ)) (r : Result Unit SealError) (L : List Event) → SealCalls d list parts r L → GiveOnly To L
  seal_gives d list parts r L calls = by r calls
    where
      drafts : (P : List Event → Type 0) → ((K : List Event) → P K → GiveOnly To K) → Drafts d parts P L → GiveOnly To L
      drafts P rest t = then_gives To L (λ K ran. ran_gives To (drafting d parts) true K (drafting_gives d parts) ran) rest t

      reads : (back : Result Unit SealError) (K : List Event) → ListCalls d (joined parts) back K → GiveOnly To K
      reads back K c = untouched_gives To K (list_untouched d (joined parts) back K c)

      named : (ok : Bool) (K : List Event) → Then (ListCalls d (joined parts) (Ok tt)) (Ran (naming d list) ok) K → GiveOnly To K
      named ok K t = then_gives To K (reads (Ok tt)) (λ M ran. ran_gives To (naming d list) ok M (naming_gives d list) ran) t

      by : (r : Result Unit SealError) → SealCalls d list parts r L → GiveOnly To L
      by (Ok done) t = drafts _ (named true) t
      by (Err SealFailed) (inl ran) = ran_gives To (drafting d parts) false L (drafting_gives d parts) ran
      by (Err SealFailed) (inr (inl t)) = drafts _ (reads (Err SealFailed)) t
      by (Err SealFailed) (inr (inr t)) = drafts _ (named false) t
      by (Err ListAbsent) t = drafts _ (reads (Err ListAbsent)) t
      by (Err (ListByte at written read)) t = drafts _ (reads (Err (ListByte at written read))) t
      by (Err (ListLength written read)) t = drafts _ (reads (Err (ListLength written read))) t

  -- a recording to a path that is such
  record_gives : (d gate : ℕ) (path : List ℕ) (rec : Rec) → To path → (r : Result Gate ReadBackError) (L : List Event) → RecordCalls d gate path rec r L → GiveOnly To L
  record_gives d gate path rec such r L calls = by r calls
    where
      settles : (P : List Event → Type 0) → ((K : List Event) → P K → GiveOnly To K) → Settles d P L → GiveOnly To L
      settles P rest t = then_gives To L (λ K is. subst (GiveOnly To) (sym is) (tt, tt)) rest t

      reads : (back : Result Unit ReadBackError) (K : List Event) → PartCalls d rec back K → GiveOnly To K
      reads back K (bytes, c) = untouched_gives To K (part_untouched d part_path rec.size rec.triple back bytes K c)

      placed : (ok : Bool) (K : List Event) → Then (PartCalls d rec (Ok tt)) (Ran (place_calls d gate path (closed_record rec) ++ open_calls d gate) ok) K → GiveOnly To K
      placed ok K t = then_gives To K (reads (Ok tt)) (λ M ran. ran_gives To (place_calls d gate path (closed_record rec) ++ open_calls d gate) ok M ((λ is. such, λ is. such), ((tt, tt), ((tt, tt), ((tt, tt), ((tt, tt), tt))))) ran) t

      by : (r : Result Gate ReadBackError) → RecordCalls d gate path rec r L → GiveOnly To L
      by (Ok next) t = settles _ (placed true) t
      by (Err BackFailed) (inl ran) = ran_gives To (sync_call d ∷ []) false L ((tt, tt), tt) ran
      by (Err BackFailed) (inr (inl t)) = settles _ (reads (Err BackFailed)) t
      by (Err BackFailed) (inr (inr t)) = settles _ (placed false) t
      by (Err BackAbsent) t = settles _ (reads (Err BackAbsent)) t
      by (Err (BackLength recorded read)) t = settles _ (reads (Err (BackLength recorded read))) t
      by (Err (Differs recorded read)) t = settles _ (reads (Err (Differs recorded read))) t

-- the begin of a drive
begin_gives : (p : PlanValue) (e : ℕ) (was : DriveAt) (ok : Bool) (w mid : World) → BeginTried p e was ok w mid → Went (Only (Drive e)) (GiveOnly Nowhere) w mid
begin_gives p e Fresh ok w mid t = went_such (λ L ran. ran_gives Nowhere (tidy_calls e None false ++ publish_calls e journal_path (new_journal p)) ok L
    (AllByRecursion-append (CallGives Nowhere) (tidy_calls e None false) (publish_calls e journal_path (new_journal p)) (removals_give Nowhere e (tidied None false)) (publish_gives Nowhere e journal_path (new_journal p))) ran) t.0.went
begin_gives p e (Begun recs gate kept) ok w mid t = went_such (λ L ran. ran_gives Nowhere (tidy_calls e (next_path p recs) kept) ok L (removals_give Nowhere e (tidied (next_path p recs) kept)) ran) t.0.went
begin_gives p e Gone ok w mid t = absurd t
begin_gives p e (Found recs) ok w mid t = absurd t
begin_gives p e Sealed ok w mid t = absurd t

-- ---- where calls are made

on_at : (On : Device → Type 0) (front after : List Event) (e : Event) → AllOn On (front ++ e ∷ after) → On (device_of e)
unfolding AllOn
on_at On [] after e on = on.0
on_at On (x ∷ front) after e on = on_at On front after e on.1

on_behind : (On : Device → Type 0) (front after : List Event) (e : Event) → AllOn On (front ++ e ∷ after) → AllOn On after
unfolding AllOn
on_behind On [] after e on = on.1
on_behind On (x ∷ front) after e on = on_behind On front after e on.1

-- a copy renames nothing
no_copy_rename : (s : ℕ) (path : List ℕ) (front after : List Event) (d : ℕ) (from to : List ℕ) (ok : Bool) → AreCopyCalls s path (front ++ Rename d from to ok ∷ after) → ⊥
unfolding AreCopyCalls
no_copy_rename s path [] after d from to ok are = are.0
no_copy_rename s path (x ∷ front) after d from to ok are = no_copy_rename s path front after d from to ok are.1

-- ---- what is known of a part that got the path of its file

module _ (o : Ordered) (plan : IsPlan o.plan) (a : Point) where
  -- the file was read to its end before, was not read since, and is not copied any more
  record IsNamed (phase : Phase) (i : ℕ) (f : PlannedFile) (before after : List Event) : Type 0 where
    past : IsPast i phase
    ends : EndsAtSize o.source f.path f.size (reads_of o.source f.path before)
    unread : reads_of o.source f.path after ≡ []

  record AreNamed (phase : Phase) (L : List Event) : Type 0 where
    each : (e i : ℕ) (f : PlannedFile) → is_of_run a.at.drives e ≡ true → slice_get o.plan.files i ≡ Some f → (before after : List Event) (ok : Bool) → L ≡ before ++ Rename e part_path f.path ok ∷ after → IsNamed phase i f before after

  -- no file that is not copied any more is read
  abbrev ReadsNoPast : Phase → (Device → Type 0) → (List Event → Type 0) → Type 0
  ReadsNoPast phase On P = (i : ℕ) (f : PlannedFile) → slice_get o.plan.files i ≡ Some f → IsPast i phase → (B : List Event) → AllOn On B → P B → reads_of o.source f.path B ≡ []

  -- behind calls that are such, what got the path of its file is known
  abbrev NamesRightly : Phase → (Device → Type 0) → (List Event → Type 0) → (List Event → Type 0) → Type 0
  NamesRightly phase On P Q = (e i : ℕ) (f : PlannedFile) → is_of_run a.at.drives e ≡ true → slice_get o.plan.files i ≡ Some f → (A front after : List Event) (ok : Bool) → Q A → AllOn On (front ++ Rename e part_path f.path ok ∷ after)
      → P (front ++ Rename e part_path f.path ok ∷ after) → IsNamed phase i f (A ++ front) after

  named_more : {On : Device → Type 0} {P Q : List Event → Type 0} {w new : World} (phase : Phase) → Went On P w new → ReadsNoPast phase On P → NamesRightly phase On P Q → Since (λ L. AreNamed phase L × Q L) a.world w → Since (AreNamed phase) a.world new
  named_more {On} {P} phase went reads names old = since_more old went (λ A B so on such. record {
    each = λ e i f of is before after ok at. elim (split_at A B before after (Rename e part_path f.path ok) at) [
      | inl found ↦
          let was = so.0.each e i f of is before found.0 ok found.1 in
          let whole : before ++ Rename e part_path f.path ok ∷ (found.0 ++ B) ≡ before ++ Rename e part_path f.path ok ∷ after =
          sym (ap (λ (l : List Event). l ++ B) found.1 ∙ append_assoc before (Rename e part_path f.path ok ∷ found.0) B) ∙ at in
          let rest : Rename e part_path f.path ok ∷ (found.0 ++ B) ≡ Rename e part_path f.path ok ∷ after = append_cancel_left before _ _ whole in
          let tail : found.0 ++ B ≡ after = cc rest in
          record {
            past = was.past;
            ends = was.ends;
            unread = subst (λ (l : List Event). reads_of o.source f.path l ≡ []) tail (reads_then o.source f.path found.0 B (reads i f is was.past B on such) ∙ was.unread);
          }
      | inr found ↦ subst (λ (l : List Event). IsNamed phase i f l after) (sym found.1) (names e i f of is A found.0 after ok so.1 (subst (AllOn On) found.2 on) (subst P found.2 such))
    ];
  })

  alone : {w : World} (phase : Phase) → Since (AreNamed phase) a.world w → Since (λ L. AreNamed phase L × Unit {0}) a.world w
  alone phase old = since_such (λ L so. (so, tt)) old

  -- lines, and moments
  named_line : {P : List Event → Type 0} {w new : World} (phase : Phase) → Went (Only Output) P w new → Since (AreNamed phase) a.world w → Since (AreNamed phase) a.world new
  named_line phase went old = named_more {Q = λ L. Unit {0}} phase went (λ i f is past B on such. reads_off o.source f.path (Only Output) (output_off o.source) B on)
      (λ e i f of is A front after ok q on such. absurd (cc (on_at (Only Output) front after (Rename e part_path f.path ok) on))) (alone phase old)

  named_clock : {P : List Event → Type 0} {w new : World} (phase : Phase) → Went (Only Clock) P w new → Since (AreNamed phase) a.world w → Since (AreNamed phase) a.world new
  named_clock phase went old = named_more {Q = λ L. Unit {0}} phase went (λ i f is past B on such. reads_off o.source f.path (Only Clock) (clock_off o.source) B on)
      (λ e i f of is A front after ok q on such. absurd (cc (on_at (Only Clock) front after (Rename e part_path f.path ok) on))) (alone phase old)

  -- calls on a drive that give a part no path
  named_drive : {w new : World} (phase : Phase) (d : ℕ) → Went (Only (Drive d)) (GiveOnly Nowhere) w new → Since (AreNamed phase) a.world w → Since (AreNamed phase) a.world new
  named_drive phase d went old = named_more {Q = λ L. Unit {0}} phase went (λ i f is past B on such. reads_off o.source f.path (Only (Drive d)) (drive_off o.source d) B on)
      (λ e i f of is A front after ok q on such. absurd (all_one (GivesOnly Nowhere) front (Rename e part_path f.path ok) after such refl)) (alone phase old)

  begin_named : (b c : Point) (e : ℕ) (was : DriveAt) → BeginTurn o e was b.at.drives c.at b.world c.world → Since (AreNamed (Begins e)) a.world b.world → Since (AreNamed (Begins e)) a.world c.world
  begin_named b c e Fresh t old = named_line (Begins e) t.line.went (named_drive (Begins e) e (begin_gives o.plan e Fresh t.ok b.world t.mid t.tried) old)
  begin_named b c e (Begun recs gate kept) t old = named_line (Begins e) t.line.went (named_drive (Begins e) e (begin_gives o.plan e (Begun recs gate kept) t.ok b.world t.mid t.tried) old)
  begin_named b c e Gone t old = since_same t.idle old
  begin_named b c e (Found recs) t old = since_same t.idle old
  begin_named b c e Sealed t old = since_same t.idle old

  settles_named : (b c : Point) (phase : Phase) (i : ℕ) (came : Turn) (next : FileCopy) (mid : World) → CopySettles (files_of o.plan) i came next b.at.drives c.at mid c.world → Since (AreNamed phase) a.world mid → Since (AreNamed phase) a.world c.world
  settles_named b c phase i Going next mid s old = since_same s.2 old
  settles_named b c phase i (Dropped e) next mid s old = named_line phase s.line.went old
  settles_named b c phase i (Copied t) next mid s old = since_same s.2 old
  settles_named b c phase i SourceFailed next mid s old = since_same s.2 old
  settles_named b c phase i (Changed p q) next mid s old = since_same s.2 old
  settles_named b c phase i NoDrive next mid s old = absurd s

  -- another file is copied
  copy_named : (b c : Point) (i : ℕ) (copy : FileCopy) → card_of copy ≡ o.source → CopyActed o i copy b.at.drives c.at b.pool c.pool b.world c.world → Since (AreNamed (Copies i copy)) a.world b.world → Since (AreNamed (Copies i copy)) a.world c.world
  copy_named b c i copy card t old = settles_named b c (Copies i copy) i t.came t.next t.mid t.settles (named_more {Q = λ L. Unit {0}} (Copies i copy) t.touches
      (λ j f is past B on such. other_reads o.source f.path t.file.path B (paths_apart o.plan plan i j t.file f (λ same. absurd (omega (arith, past, same))) t.is_file is) (subst (λ (s : ℕ). AreCopyCalls s t.file.path B) card such))
      (λ e j f of is A front after ok q on such. absurd (no_copy_rename (card_of copy) t.file.path front after e part_path f.path ok such)) (alone (Copies i copy) old))

  date_named : (b c : Point) (i : ℕ) (t : Triple) (other : Option Listed) → DateTurn o i t other b.at.drives c.at b.world c.world → Since (AreNamed (Dates i t)) a.world b.world → Since (AreNamed (Dates i t)) a.world c.world
  date_named b c i t None act old = named_clock (Dates i t) act.asked old
  date_named b c i t (Some l) act old = since_same act.2 old

  -- the file that is recorded was read to its end
  aloud_named : (b c : Point) (rec : Rec) (e : ℕ) (was : Journaled) → FileDated o plan a rec b.world → RecordedAloud o rec e was b.at.drives c.at b.world c.world → Since (AreNamed (Records rec e)) a.world b.world → Since (AreNamed (Records rec e)) a.world c.world
  aloud_named b c rec e was gives t old = named_line (Records rec e) t.line.went (named_more (Records rec e) went (λ i f is past B on such. off f B on) names (since_both old gives.gave.reads))
    where
      off : (f : PlannedFile) (B : List Event) → AllOn (Only (Drive e)) B → reads_of o.source f.path B ≡ []
      off f B on = reads_off o.source f.path (Only (Drive e)) (drive_off o.source e) B on

      went : Went (Only (Drive e)) (GiveOnly (λ to. to ≡ t.file.path)) b.world t.mid
      went = went_such (λ L calls. record_gives (λ to. to ≡ t.file.path) e was.gate.at t.file.path rec refl t.came L calls) t.went

      -- its path is that of no other file
      number : (i : ℕ) (f : PlannedFile) → slice_get o.plan.files i ≡ Some f → f.path ≡ t.file.path → rec.index ≡ i
      number i f is same = elim (cases_eq rec.index i) [
        | inl one ↦ one
        | inr ne ↦ absurd (paths_apart o.plan plan rec.index i t.file f ne t.is_file is same)
      ]

      names : NamesRightly (Records rec e) (Only (Drive e)) (GiveOnly (λ to. to ≡ t.file.path)) (λ L. Saw o plan a gives.gave.file rec.triple (reads_of o.source gives.gave.file.path L))
      names d i f of is A front after ok saw on such =
          let gets : f.path ≡ t.file.path = all_one (GivesOnly (λ to. to ≡ t.file.path)) front (Rename d part_path f.path ok) after such refl in
          let one : rec.index ≡ i = number i f is gets in
          let same : gives.gave.file ≡ f = some_same gives.gave.file f (sym gives.gave.is_file ∙ ap (slice_get o.plan.files) one ∙ is) in
          let ends : EndsAtSize o.source f.path f.size (reads_of o.source f.path A) = subst (λ (g : PlannedFile). EndsAtSize o.source g.path g.size (reads_of o.source g.path A)) same saw.1 in
          let still : reads_of o.source f.path (A ++ front) ≡ reads_of o.source f.path A = reads_then o.source f.path A front (off f front (AllOn-front (Only (Drive e)) front (Rename d part_path f.path ok ∷ after) on)) in
          record {
            past = omega (arith, one);
            ends = subst (λ (K : List Event). EndsAtSize o.source f.path f.size K) (sym still) ends;
            unread = off f after (on_behind (Only (Drive e)) front after (Rename d part_path f.path ok) on);
          }

  record_named : (b c : Point) (rec : Rec) (e : ℕ) (was : Option Journaled) → FileDated o plan a rec b.world → RecordTurn o rec e was b.at.drives c.at b.world c.world → Since (AreNamed (Records rec e)) a.world b.world → Since (AreNamed (Records rec e)) a.world c.world
  record_named b c rec e None gives t old = since_same t.idle old
  record_named b c rec e (Some was) gives t old = aloud_named b c rec e was gives t old

  seal_named : (b c : Point) (e : ℕ) (x : DriveAt) → SealTurn o e x b.at.drives c.at b.world c.world → Since (AreNamed (Seals e)) a.world b.world → Since (AreNamed (Seals e)) a.world c.world
  seal_named b c e (Begun recs gate kept) t old = named_line (Seals e) t.line.went (named_drive (Seals e) e (went_such (λ L calls. seal_gives Nowhere e (list_of o.plan) (list_parts o.plan recs t.finish) t.came L calls) t.went) (named_clock (Seals e) t.asked old))
  seal_named b c e (Found recs) t old = named_line (Seals e) t.line.went old
  seal_named b c e Fresh t old = absurd t
  seal_named b c e Gone t old = since_same t.idle old
  seal_named b c e Sealed t old = since_same t.idle old

  clear_named : (b c : Point) (required sealed : ℕ) (is_due : Bool) → ClearTurn required sealed is_due c.at b.world c.world → Since (AreNamed Clears) a.world b.world → Since (AreNamed Clears) a.world c.world
  clear_named b c required sealed true t old = named_line Clears t.line.went old
  clear_named b c required sealed false t old = since_same t.1 old

  turn_named : (b c : Point) (phase : Phase) → CoreAt o plan a phase b.at.drives b.pool b.world → Acted o phase b.at c.at b.pool c.pool b.world c.world → Since (AreNamed phase) a.world b.world → Since (AreNamed phase) a.world c.world
  turn_named b c (Begins e) core t old = begin_named b c e (drive_at b.at.drives.each e) t old
  turn_named b c (File i) core (inl t) old = since_same t.idle old
  turn_named b c (File i) core (inr t) old = since_same t.1.idle old
  turn_named b c (Copies i copy) core t old = copy_named b c i copy core.1.of_card t old
  turn_named b c (Dates i x) core t old = date_named b c i x (other_listed o.listed i x) t old
  turn_named b c (Records rec e) core t old = record_named b c rec e (due rec.index (drive_at b.at.drives.each e)) core.1 t old
  turn_named b c (Seals e) core t old = seal_named b c e (drive_at b.at.drives.each e) t old
  turn_named b c Clears core t old = clear_named b c o.copies (count_sealed b.at.drives.each) (is_clear (count_sealed b.at.drives.each) o.copies) t.1 old
  turn_named b c Ended core t old = since_same t.2 old

  -- what is done next
  named_on : (p q : Phase) (w : World) → ((i : ℕ) → IsPast i p → IsPast i q) → Since (AreNamed p) a.world w → Since (AreNamed q) a.world w
  named_on p q w on old = since_such (λ L so. record {
    each = λ e i f of is before after ok at.
        let was = so.each e i f of is before after ok at in
        record { past = on i was.past; ends = was.ends; unread = was.unread };
  }) old

  beside_named : (b c : Point) → AreStill a.at.drives b.at.drives → Beside o b c → Since (AreNamed b.at.phase) a.world b.world → Since (AreNamed c.at.phase) a.world c.world
  beside_named b c still t old = subst (λ (x : At). Since (AreNamed x.phase) a.world c.world) (sym t.same) (named_more {Q = λ L. Unit {0}} b.at.phase t.went
      (λ i f is past B on such. beside_reads o b.at.drives f.path B (is_planned o.plan i f is) such)
      (λ e i f of is A front after ok q on such. absurd (on_at (IsElsewhere b.at.drives) front after (Rename e part_path f.path ok) on e (still e of) refl)) (alone b.at.phase old))

  none_named : (phase : Phase) → AreNamed phase []
  none_named phase = record { each = λ e i f of is before after ok at. absurd (none before after (Rename e part_path f.path ok) at) }
    where
      none : (before after : List Event) (e : Event) → [] ≡ before ++ e ∷ after → ⊥
      none [] after e at = absurd (cc at)
      none (x ∷ before) after e at = absurd (cc at)

  runs_named : (b : Point) → IsRun o a.at → Core o plan a a → Runs o a b → Since (AreNamed b.at.phase) a.world b.world
  runs_named b rules core starts = since_none a.world (none_named a.at.phase)
  runs_named b rules core (turns {b = x} so_far t) =
      let here = turn_named x b x.at.phase (runs_core o plan a x core so_far) t (runs_named x rules core so_far) in
      named_on x.at.phase b.at.phase b.world (λ i past. past_next i x.at.phase b.at.phase (turn_comes o x b x.at.phase refl t) past) here
  runs_named b rules core (beside {b = x} so_far t) = beside_named x b (runs_still o a x rules so_far) t (runs_named x rules core so_far)

-- a run reads each planned file once
pub once : (o : Ordered) (a b : Point) → Starts o a → Runs o a b → (past L : List Event) → a.world.events ≡ Some past → b.world.events ≡ Some (past ++ L) → ReadsOnce o a L
once o a b s r past L was now =
    let plan = s.run.run.plan in
    let core = start_core o plan a s in
    let named = since_at (runs_named o plan a b s.run.run core r) past L was now in
    record {
      in_order = λ i f is. since_at (runs_orders o plan a b core r i f is) past L was now;
      before_its_name = λ e i f of is before after ok at. let n = named.each e i f of is before after ok at in (n.ends, n.unread);
    }
