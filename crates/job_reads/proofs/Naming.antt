-- Among the calls of the turns of a run, a part gets the path of a planned file alone.
use Rattle.std.proofs.Common.{◌≡◌, inl, inr, ℕ, ◌+◌, Bool, true, false, List, [], ◌∷◌, ◌++◌, length, refl, sym, subst}
use Rattle.std.specs.Prelude.{Option, Some, None, Result, Ok, Err}
use Rattle.std.specs.List.{slice_get, AllByRecursion}
use Rattle.std.specs.Cmp.Lexicographic.{other_text}
use Rattle.std.proofs.lemmas.Bool.{false≢true}
use Rattle.bay_core.specs.declared.event.Event.{Event}
use Rattle.bay_core.specs.declared.event.Event.TheVariants.{Rename}
use Rattle.bay_core.specs.Looks.{is_effect, IsUntouched}
use Rattle.bay_core.specs.Paths.{new_path, part_path, journal_path}
use Rattle.bay_core.specs.Replay.{Device, Drive, Output, Clock, device_of}
use Rattle.bay_core.specs.World.{World}
use Rattle.bay_core.specs.Went.{AllOn, Only, Went, Ran, Then, sync_call}
use Rattle.copy_plan.specs.declared.file.PlannedFile.{PlannedFile}
use Rattle.copy_plan.specs.Plan.{PlanValue, list_of}
use Rattle.copy_plan.proofs.Files.{AllByRecursion-append}
use Rattle.digest_set.specs.declared.triple.Triple.{Triple}
use Rattle.drive_journal.specs.declared.order.Listed.{Listed}
use Rattle.drive_journal.specs.declared.record.Gate.{Gate}
use Rattle.drive_journal.specs.declared.record.Rec.{Rec}
use Rattle.drive_journal.specs.Calls.{publish_calls, place_calls, open_calls, tidied, removals, tidy_calls}
use Rattle.drive_journal.specs.Record.{closed_record}
use Rattle.fan_copier.specs.declared.copy.FileCopy.{FileCopy}
use Rattle.fan_copier.specs.declared.turn.Turn.{Turn}
use Rattle.fan_copier.specs.declared.turn.Turn.TheVariants.{Going, Dropped, Copied, SourceFailed, Changed, NoDrive}
use Rattle.fan_copier.specs.Copying.{card_of}
use Rattle.fan_copier.specs.Turning.{IsCopyCall, AreCopyCalls}
use Rattle.read_back.specs.declared.back.ReadBackError.{ReadBackError}
use Rattle.read_back.specs.declared.back.ReadBackError.TheVariants.{DriveFailed as BackFailed, Absent as BackAbsent, Length as BackLength, Differs}
use Rattle.read_back.proofs.Laws.{back_keeps as part_untouched}
use Rattle.recording.specs.Filing.{BackCalls as PartCalls, Settles, RecordCalls}
use Rattle.seal_step.specs.declared.error.SealError.{SealError}
use Rattle.seal_step.specs.declared.error.SealError.TheVariants.{DriveFailed as SealFailed, Absent as ListAbsent, Byte as ListByte, Length as ListLength}
use Rattle.seal_step.specs.Calls.{Drafts, SealCalls}
use Rattle.seal_step.specs.Parts.{list_parts, joined, writes_from, drafting, naming}
use Rattle.seal_step.specs.Reading.{BackCalls as ListCalls}
use Rattle.seal_step.proofs.Drafted.{back_keeps as list_untouched}
use Rattle.run_state.specs.declared.phase.Phase.{Phase}
use Rattle.run_state.specs.declared.phase.Phase.TheVariants.{Begins, File, Copies, Dates, Records, Seals, Clears, Ended}
use Rattle.run_state.specs.Acts.{next_path, new_journal, BeginTried, BeginTurn, CopySettles, CopyActed, other_listed, DateTurn, RecordedAloud, RecordTurn, SealTurn, is_clear, ClearTurn}
use Rattle.run_state.specs.Runs.{Point, Alone, still, turned}
use Rattle.run_state.specs.State.{Ordered, DriveAt, Gone, Fresh, Begun, Found, Sealed, Journaled, files_of, drive_at, count_sealed, due}
use Rattle.run_state.specs.Turn.{Acted}
use Rattle.run_reads.proofs.Since.{Since, since_none, since_more, since_same}

-- ---- which paths a part gets among the calls of an act

-- a rename of the part is to such a path
abbrev pub GivesOnly : (List ℕ → Type 0) → Event → Type 0
GivesOnly To (Rename d from to ok) = from ≡ part_path → To to
GivesOnly To e = Unit {0}

-- each is
abbrev pub GiveOnly : (List ℕ → Type 0) → List Event → Type 0
GiveOnly To L = AllByRecursion (GivesOnly To) L

-- a call, whatever its answer, is
abbrev CallGives : (List ℕ → Type 0) → (Bool → Event) → Type 0
CallGives To c = GivesOnly To (c true) × GivesOnly To (c false)

untouched_one : (To : List ℕ → Type 0) (e : Event) → is_effect e ≡ false → GivesOnly To e
untouched_one To (Rename d from to ok) off = absurd (false≢true (sym off))
untouched_one To e off = tt

untouched_gives : (To : List ℕ → Type 0) (L : List Event) → IsUntouched L → GiveOnly To L
unfolding IsUntouched
untouched_gives To [] off = tt
untouched_gives To (e ∷ L) off = (untouched_one To e off.0, untouched_gives To L off.1)

ran_gives : (To : List ℕ → Type 0) (cs : List (Bool → Event)) (ok : Bool) (L : List Event) → AllByRecursion (CallGives To) cs → Ran cs ok L → GiveOnly To L
unfolding Ran
ran_gives To [] true L all ran = subst (GiveOnly To) (sym ran) tt
ran_gives To [] false L all ran = absurd ran
ran_gives To (c ∷ cs) true L all (rest, is, more) = subst (GiveOnly To) (sym is) (all.0.0, ran_gives To cs true rest all.1 more)
ran_gives To (c ∷ cs) false L all (inl none) = subst (GiveOnly To) (sym none) tt
ran_gives To (c ∷ cs) false L all (inr (inl one)) = subst (GiveOnly To) (sym one) (all.0.1, tt)
ran_gives To (c ∷ cs) false L all (inr (inr (rest, is, more))) = subst (GiveOnly To) (sym is) (all.0.0, ran_gives To cs false rest all.1 more)

then_gives : {P Q : List Event → Type 0} (To : List ℕ → Type 0) (L : List Event) → ((K : List Event) → P K → GiveOnly To K) → ((K : List Event) → Q K → GiveOnly To K) → Then P Q L → GiveOnly To L
then_gives To L first second t = subst (GiveOnly To) (sym t.is) (AllByRecursion-append (GivesOnly To) t.first t.second (first t.first t.here) (second t.second t.there))

new_apart : (To : List ℕ → Type 0) (to : List ℕ) → new_path ≡ part_path → To to
new_apart To to is = absurd (other_text new_path part_path refl is)

module _ (To : List ℕ → Type 0) where
  removals_give : (d : ℕ) (paths : List (List ℕ)) → AllByRecursion (CallGives To) (removals d paths)
  removals_give d [] = tt
  removals_give d (path ∷ paths) = ((tt, tt), removals_give d paths)

  publish_gives : (d : ℕ) (to bytes : List ℕ) → AllByRecursion (CallGives To) (publish_calls d to bytes)
  publish_gives d to bytes = ((tt, tt), ((tt, tt), ((new_apart To to, new_apart To to), ((tt, tt), tt))))

  writes_give : (d at : ℕ) (parts : List (List ℕ)) → AllByRecursion (CallGives To) (writes_from d at parts)
  writes_give d at [] = tt
  writes_give d at (part ∷ parts) = ((tt, tt), writes_give d (at + length part) parts)

  drafting_gives : (d : ℕ) (parts : List (List ℕ)) → AllByRecursion (CallGives To) (drafting d parts)
  drafting_gives d parts = AllByRecursion-append (CallGives To) (writes_from d 0 parts) (sync_call d ∷ []) (writes_give d 0 parts) ((tt, tt), tt)

  naming_gives : (d : ℕ) (list : List ℕ) → AllByRecursion (CallGives To) (naming d list)
  naming_gives d list = ((new_apart To list, new_apart To list), ((tt, tt), tt))

  -- a sealing
  seal_gives : (d : ℕ) (list : List ℕ) (parts : List (List ℕ)) (r : Result Unit SealError) (L : List Event) → SealCalls d list parts r L → GiveOnly To L
  seal_gives d list parts r L calls = by r calls
    where
      drafts : (P : List Event → Type 0) → ((K : List Event) → P K → GiveOnly To K) → Drafts d parts P L → GiveOnly To L
      drafts P rest t = then_gives To L (λ K ran. ran_gives To (drafting d parts) true K (drafting_gives d parts) ran) rest t

      reads : (back : Result Unit SealError) (K : List Event) → ListCalls d (joined parts) back K → GiveOnly To K
      reads back K c = untouched_gives To K (list_untouched d (joined parts) back K c)

      named : (ok : Bool) (K : List Event) → Then (ListCalls d (joined parts) (Ok tt)) (Ran (naming d list) ok) K → GiveOnly To K
      named ok K t = then_gives To K (reads (Ok tt)) (λ M ran. ran_gives To (naming d list) ok M (naming_gives d list) ran) t

      by : (r : Result Unit SealError) → SealCalls d list parts r L → GiveOnly To L
      by (Ok done) t = drafts _ (named true) t
      by (Err SealFailed) (inl ran) = ran_gives To (drafting d parts) false L (drafting_gives d parts) ran
      by (Err SealFailed) (inr (inl t)) = drafts _ (reads (Err SealFailed)) t
      by (Err SealFailed) (inr (inr t)) = drafts _ (named false) t
      by (Err ListAbsent) t = drafts _ (reads (Err ListAbsent)) t
      by (Err (ListByte at written read)) t = drafts _ (reads (Err (ListByte at written read))) t
      by (Err (ListLength written read)) t = drafts _ (reads (Err (ListLength written read))) t

  -- a recording to a path that is such
  record_gives : (d gate : ℕ) (path : List ℕ) (rec : Rec) → To path → (r : Result Gate ReadBackError) (L : List Event) → RecordCalls d gate path rec r L → GiveOnly To L
  record_gives d gate path rec such r L calls = by r calls
    where
      settles : (P : List Event → Type 0) → ((K : List Event) → P K → GiveOnly To K) → Settles d P L → GiveOnly To L
      settles P rest t = then_gives To L (λ K is. subst (GiveOnly To) (sym is) (tt, tt)) rest t

      reads : (back : Result Unit ReadBackError) (K : List Event) → PartCalls d rec back K → GiveOnly To K
      reads back K (bytes, c) = untouched_gives To K (part_untouched d part_path rec.size rec.triple back bytes K c)

      placed : (ok : Bool) (K : List Event) → Then (PartCalls d rec (Ok tt)) (Ran (place_calls d gate path (closed_record rec) ++ open_calls d gate) ok) K → GiveOnly To K
      placed ok K t = then_gives To K (reads (Ok tt)) (λ M ran. ran_gives To (place_calls d gate path (closed_record rec) ++ open_calls d gate) ok M ((λ is. such, λ is. such), ((tt, tt), ((tt, tt), ((tt, tt), ((tt, tt), tt))))) ran) t

      by : (r : Result Gate ReadBackError) → RecordCalls d gate path rec r L → GiveOnly To L
      by (Ok next) t = settles _ (placed true) t
      by (Err BackFailed) (inl ran) = ran_gives To (sync_call d ∷ []) false L ((tt, tt), tt) ran
      by (Err BackFailed) (inr (inl t)) = settles _ (reads (Err BackFailed)) t
      by (Err BackFailed) (inr (inr t)) = settles _ (placed false) t
      by (Err BackAbsent) t = settles _ (reads (Err BackAbsent)) t
      by (Err (BackLength recorded read)) t = settles _ (reads (Err (BackLength recorded read))) t
      by (Err (Differs recorded read)) t = settles _ (reads (Err (Differs recorded read))) t

-- ---- the turns

-- the path is that of a file of the plan
pub record IsPathOf (p : PlanValue) (path : List ℕ) : Type 0 where
  pub index : ℕ
  pub file : PlannedFile
  pub is_file : slice_get p.files index ≡ Some file
  pub is_path : path ≡ file.path

-- calls on no drive
off_one : (To : List ℕ → Type 0) (On : Device → Type 0) → ((d : ℕ) → On (Drive d) → ⊥) → (e : Event) → On (device_of e) → GivesOnly To e
off_one To On off (Rename d from to ok) on = absurd (off d on)
off_one To On off e on = tt

off_gives : (To : List ℕ → Type 0) (On : Device → Type 0) → ((d : ℕ) → On (Drive d) → ⊥) → (L : List Event) → AllOn On L → GiveOnly To L
unfolding AllOn
off_gives To On off [] on = tt
off_gives To On off (e ∷ L) on = (off_one To On off e on.0, off_gives To On off L on.1)

copy_one : (To : List ℕ → Type 0) (s : ℕ) (path : List ℕ) (e : Event) → IsCopyCall s path e → GivesOnly To e
copy_one To s path (Rename d from to ok) is = absurd is
copy_one To s path e is = tt

copy_gives : (To : List ℕ → Type 0) (s : ℕ) (path : List ℕ) (L : List Event) → AreCopyCalls s path L → GiveOnly To L
unfolding AreCopyCalls
copy_gives To s path [] are = tt
copy_gives To s path (e ∷ L) are = (copy_one To s path e are.0, copy_gives To s path L are.1)

module _ (o : Ordered) (a : Point) where
  abbrev To : List ℕ → Type 0
  To path = IsPathOf o.plan path

  abbrev Gives : World → Type 0
  Gives w = Since (GiveOnly To) a.world w

  more : {On : Device → Type 0} {P : List Event → Type 0} {w new : World} → Went On P w new → ((L : List Event) → AllOn On L → P L → GiveOnly To L) → Gives w → Gives new
  more went so far = since_more far went (λ A B was on such. AllByRecursion-append (GivesOnly To) A B was (so B on such))

  line : {P : List Event → Type 0} {w new : World} → Went (Only Output) P w new → Gives w → Gives new
  line went far = more went (λ L on such. off_gives To (Only Output) (λ d is. absurd (cc is)) L on) far

  clock : {P : List Event → Type 0} {w new : World} → Went (Only Clock) P w new → Gives w → Gives new
  clock went far = more went (λ L on such. off_gives To (Only Clock) (λ d is. absurd (cc is)) L on) far

  tried_gives : (e : ℕ) (was : DriveAt) (ok : Bool) (w mid : World) → BeginTried o.plan e was ok w mid → Gives w → Gives mid
  tried_gives e Fresh ok w mid t far = more t.0.went (λ L on ran. ran_gives To (tidy_calls e None false ++ publish_calls e journal_path (new_journal o.plan)) ok L
      (AllByRecursion-append (CallGives To) (tidy_calls e None false) (publish_calls e journal_path (new_journal o.plan)) (removals_give To e (tidied None false)) (publish_gives To e journal_path (new_journal o.plan))) ran) far
  tried_gives e (Begun recs gate kept) ok w mid t far = more t.0.went (λ L on ran. ran_gives To (tidy_calls e (next_path o.plan recs) kept) ok L (removals_give To e (tidied (next_path o.plan recs) kept)) ran) far
  tried_gives e Gone ok w mid t far = absurd t
  tried_gives e (Found recs) ok w mid t far = absurd t
  tried_gives e Sealed ok w mid t far = absurd t

  begin_gives : (b c : Point) (e : ℕ) (was : DriveAt) → BeginTurn o e was b.at.drives c.at b.world c.world → Gives b.world → Gives c.world
  begin_gives b c e Fresh t far = line t.line.went (tried_gives e Fresh t.ok b.world t.mid t.tried far)
  begin_gives b c e (Begun recs gate kept) t far = line t.line.went (tried_gives e (Begun recs gate kept) t.ok b.world t.mid t.tried far)
  begin_gives b c e Gone t far = since_same t.idle far
  begin_gives b c e (Found recs) t far = since_same t.idle far
  begin_gives b c e Sealed t far = since_same t.idle far

  settles_gives : (b c : Point) (i : ℕ) (came : Turn) (next : FileCopy) (mid : World) → CopySettles (files_of o.plan) i came next b.at.drives c.at mid c.world → Gives mid → Gives c.world
  settles_gives b c i Going next mid s far = since_same s.2 far
  settles_gives b c i (Dropped e) next mid s far = line s.line.went far
  settles_gives b c i (Copied t) next mid s far = since_same s.2 far
  settles_gives b c i SourceFailed next mid s far = since_same s.2 far
  settles_gives b c i (Changed p q) next mid s far = since_same s.2 far
  settles_gives b c i NoDrive next mid s far = absurd s

  copied_gives : (b c : Point) (i : ℕ) (copy : FileCopy) → CopyActed o i copy b.at.drives c.at b.pool c.pool b.world c.world → Gives b.world → Gives c.world
  copied_gives b c i copy t far = settles_gives b c i t.came t.next t.mid t.settles (more t.touches (λ L on are. copy_gives To (card_of copy) t.file.path L are) far)

  date_gives : (b c : Point) (i : ℕ) (t : Triple) (other : Option Listed) → DateTurn o i t other b.at.drives c.at b.world c.world → Gives b.world → Gives c.world
  date_gives b c i t None act far = clock act.asked far
  date_gives b c i t (Some l) act far = since_same act.2 far

  aloud_gives : (b c : Point) (rec : Rec) (e : ℕ) (was : Journaled) → RecordedAloud o rec e was b.at.drives c.at b.world c.world → Gives b.world → Gives c.world
  aloud_gives b c rec e was t far =
      line t.line.went (more t.went (λ L on calls. record_gives To e was.gate.at t.file.path rec (record { index = rec.index; file = t.file; is_file = t.is_file; is_path = refl }) t.came L calls) far)

  recorded_gives : (b c : Point) (rec : Rec) (e : ℕ) (was : Option Journaled) → RecordTurn o rec e was b.at.drives c.at b.world c.world → Gives b.world → Gives c.world
  recorded_gives b c rec e None t far = since_same t.idle far
  recorded_gives b c rec e (Some was) t far = aloud_gives b c rec e was t far

  sealed_gives : (b c : Point) (e : ℕ) (x : DriveAt) → SealTurn o e x b.at.drives c.at b.world c.world → Gives b.world → Gives c.world
  sealed_gives b c e (Begun recs gate kept) t far = line t.line.went (more t.went (λ L on calls. seal_gives To e (list_of o.plan) (list_parts o.plan recs t.finish) t.came L calls) (clock t.asked far))
  sealed_gives b c e (Found recs) t far = line t.line.went far
  sealed_gives b c e Fresh t far = absurd t
  sealed_gives b c e Gone t far = since_same t.idle far
  sealed_gives b c e Sealed t far = since_same t.idle far

  clear_gives : (b c : Point) (required sealed : ℕ) (is_due : Bool) → ClearTurn required sealed is_due c.at b.world c.world → Gives b.world → Gives c.world
  clear_gives b c required sealed true t far = line t.line.went far
  clear_gives b c required sealed false t far = since_same t.1 far

  turn_gives : (b c : Point) (phase : Phase) → Acted o phase b.at c.at b.pool c.pool b.world c.world → Gives b.world → Gives c.world
  turn_gives b c (Begins e) t far = begin_gives b c e (drive_at b.at.drives.each e) t far
  turn_gives b c (File i) (inl t) far = since_same t.idle far
  turn_gives b c (File i) (inr t) far = since_same t.1.idle far
  turn_gives b c (Copies i copy) t far = copied_gives b c i copy t far
  turn_gives b c (Dates i x) t far = date_gives b c i x (other_listed o.listed i x) t far
  turn_gives b c (Records rec e) t far = recorded_gives b c rec e (due rec.index (drive_at b.at.drives.each e)) t far
  turn_gives b c (Seals e) t far = sealed_gives b c e (drive_at b.at.drives.each e) t far
  turn_gives b c Clears t far = clear_gives b c o.copies (count_sealed b.at.drives.each) (is_clear (count_sealed b.at.drives.each) o.copies) t.1 far
  turn_gives b c Ended t far = since_same t.2 far

  -- over any number of turns
  pub parts_named : (b : Point) → Alone o a b → Gives b.world
  parts_named b still = since_none a.world tt
  parts_named b (turned {b = x} so_far t) = turn_gives x b x.at.phase t (parts_named x so_far)
