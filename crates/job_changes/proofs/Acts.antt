-- The calls of each act on a drive change its own paths alone.
use Rattle.std.proofs.Common.{◌≡◌, inl, inr, ℕ, ◌+◌, Bool, true, false, List, [], ◌∷◌, ◌++◌, length, refl, sym, subst}
use Rattle.std.specs.Prelude.{None, Result, Ok, Err}
use Rattle.std.specs.List.{AllByRecursion}
use Rattle.std.proofs.lemmas.Bool.{false≢true}
use Rattle.bay_core.specs.declared.event.Event.{Event}
use Rattle.bay_core.specs.declared.event.Event.TheVariants.{Write, Rename, Remove}
use Rattle.bay_core.specs.Looks.{is_effect, IsUntouched}
use Rattle.bay_core.specs.Paths.{journal_path, part_path, IsScratch}
use Rattle.bay_core.specs.Replay.{Device, Drive, device_of}
use Rattle.bay_core.specs.Went.{AllOn, Ran, Then, sync_call}
use Rattle.copy_plan.specs.Plan.{PlanValue, list_of}
use Rattle.copy_plan.proofs.Files.{AllByRecursion-append}
use Rattle.drive_journal.specs.declared.record.Gate.{Gate}
use Rattle.drive_journal.specs.declared.record.Rec.{Rec}
use Rattle.drive_journal.specs.Calls.{publish_calls, place_calls, open_calls, tidied, removals, tidy_calls}
use Rattle.drive_journal.specs.Record.{closed_record}
use Rattle.fan_copier.specs.Turning.{IsCopyCall, AreCopyCalls}
use Rattle.read_back.specs.declared.back.ReadBackError.{ReadBackError}
use Rattle.read_back.specs.declared.back.ReadBackError.TheVariants.{DriveFailed as BackFailed, Absent as BackAbsent, Length as BackLength, Differs}
use Rattle.read_back.proofs.Laws.{back_keeps as part_untouched}
use Rattle.recording.specs.Filing.{BackCalls as PartCalls, Settles, RecordCalls}
use Rattle.seal_step.specs.declared.error.SealError.{SealError}
use Rattle.seal_step.specs.declared.error.SealError.TheVariants.{DriveFailed as SealFailed, Absent as ListAbsent, Byte as ListByte, Length as ListLength}
use Rattle.seal_step.specs.Calls.{Drafts, SealCalls}
use Rattle.seal_step.specs.Parts.{joined, writes_from, drafting, naming}
use Rattle.seal_step.specs.Reading.{BackCalls as ListCalls}
use Rattle.seal_step.proofs.Drafted.{back_keeps as list_untouched}
use Rattle.run_state.specs.Acts.{new_journal}
use Rattle.run_state.specs.Runs.{IsPlanned}
use Rattle.job_changes.specs.Changes.{IsOwnChange}

module _ (p : PlanValue) where
  -- each call is such
  abbrev pub AllOwn : List Event → Type 0
  AllOwn L = AllByRecursion (IsOwnChange p) L

  -- a call, whatever its answer, is
  abbrev CallOwn : (Bool → Event) → Type 0
  CallOwn c = IsOwnChange p (c true) × IsOwnChange p (c false)

  untouched_one : (e : Event) → is_effect e ≡ false → IsOwnChange p e
  untouched_one (Write d path at bytes ok) off = absurd (false≢true (sym off))
  untouched_one (Rename d from to ok) off = absurd (false≢true (sym off))
  untouched_one (Remove d path ok) off = absurd (false≢true (sym off))
  untouched_one e off = tt

  untouched_own : (L : List Event) → IsUntouched L → AllOwn L
  unfolding IsUntouched
  untouched_own [] off = tt
  untouched_own (e ∷ L) off = (untouched_one e off.0, untouched_own L off.1)

  ran_own : (cs : List (Bool → Event)) (ok : Bool) (L : List Event) → AllByRecursion CallOwn cs → Ran cs ok L → AllOwn L
  unfolding Ran
  ran_own [] true L all ran = subst AllOwn (sym ran) tt
  ran_own [] false L all ran = absurd ran
  ran_own (c ∷ cs) true L all (rest, is, more) = subst AllOwn (sym is) (all.0.0, ran_own cs true rest all.1 more)
  ran_own (c ∷ cs) false L all (inl none) = subst AllOwn (sym none) tt
  ran_own (c ∷ cs) false L all (inr (inl one)) = subst AllOwn (sym one) (all.0.1, tt)
  ran_own (c ∷ cs) false L all (inr (inr (rest, is, more))) = subst AllOwn (sym is) (all.0.0, ran_own cs false rest all.1 more)

  then_own : {P Q : List Event → Type 0} (L : List Event) → ((K : List Event) → P K → AllOwn K) → ((K : List Event) → Q K → AllOwn K) → Then P Q L → AllOwn L
  then_own L first second t = subst AllOwn (sym t.is) (AllByRecursion-append (IsOwnChange p) t.first t.second (first t.first t.here) (second t.second t.there))

  -- ---- a drive is begun

  removals_own : (d : ℕ) (paths : List (List ℕ)) → AllByRecursion IsScratch paths → AllByRecursion CallOwn (removals d paths)
  removals_own d [] all = tt
  removals_own d (path ∷ paths) all = ((all.0, all.0), removals_own d paths all.1)

  publish_own : (d : ℕ) (bytes : List ℕ) → AllByRecursion CallOwn (publish_calls d journal_path bytes)
  publish_own d bytes = ((inl (inl refl), inl (inl refl)), ((tt, tt), ((inl (refl, inl refl), inl (refl, inl refl)), ((tt, tt), tt))))

  pub begin_own : (d : ℕ) (ok : Bool) (L : List Event) → Ran (tidy_calls d None false ++ publish_calls d journal_path (new_journal p)) ok L → AllOwn L
  begin_own d ok L ran = ran_own (tidy_calls d None false ++ publish_calls d journal_path (new_journal p)) ok L
      (AllByRecursion-append CallOwn (tidy_calls d None false) (publish_calls d journal_path (new_journal p)) (removals_own d (tidied None false) (inl refl, (inr refl, tt))) (publish_own d (new_journal p))) ran

  -- ---- a drive is sealed

  writes_own : (d at : ℕ) (parts : List (List ℕ)) → AllByRecursion CallOwn (writes_from d at parts)
  writes_own d at [] = tt
  writes_own d at (part ∷ parts) = ((inl (inl refl), inl (inl refl)), writes_own d (at + length part) parts)

  drafting_own : (d : ℕ) (parts : List (List ℕ)) → AllByRecursion CallOwn (drafting d parts)
  drafting_own d parts = AllByRecursion-append CallOwn (writes_from d 0 parts) (sync_call d ∷ []) (writes_own d 0 parts) ((tt, tt), tt)

  naming_own : (d : ℕ) → AllByRecursion CallOwn (naming d (list_of p))
  naming_own d = ((inl (refl, inr refl), inl (refl, inr refl)), ((tt, tt), tt))

  pub seal_own : (d : ℕ) (parts : List (List ℕ)) (r : Result Unit SealError) (L : List Event) → SealCalls d (list_of p) parts r L → AllOwn L
  seal_own d parts r L calls = by r calls
    where
      drafts : (P : List Event → Type 0) → ((K : List Event) → P K → AllOwn K) → Drafts d parts P L → AllOwn L
      drafts P rest t = then_own L (λ K ran. ran_own (drafting d parts) true K (drafting_own d parts) ran) rest t

      reads : (back : Result Unit SealError) (K : List Event) → ListCalls d (joined parts) back K → AllOwn K
      reads back K c = untouched_own K (list_untouched d (joined parts) back K c)

      named : (ok : Bool) (K : List Event) → Then (ListCalls d (joined parts) (Ok tt)) (Ran (naming d (list_of p)) ok) K → AllOwn K
      named ok K t = then_own K (reads (Ok tt)) (λ M ran. ran_own (naming d (list_of p)) ok M (naming_own d) ran) t

      by : (r : Result Unit SealError) → SealCalls d (list_of p) parts r L → AllOwn L
      by (Ok done) t = drafts _ (named true) t
      by (Err SealFailed) (inl ran) = ran_own (drafting d parts) false L (drafting_own d parts) ran
      by (Err SealFailed) (inr (inl t)) = drafts _ (reads (Err SealFailed)) t
      by (Err SealFailed) (inr (inr t)) = drafts _ (named false) t
      by (Err ListAbsent) t = drafts _ (reads (Err ListAbsent)) t
      by (Err (ListByte at written read)) t = drafts _ (reads (Err (ListByte at written read))) t
      by (Err (ListLength written read)) t = drafts _ (reads (Err (ListLength written read))) t

  -- ---- a file is recorded

  placing_own : (d gate : ℕ) (path : List ℕ) (rec : Rec) → IsPlanned p path → AllByRecursion CallOwn (place_calls d gate path (closed_record rec) ++ open_calls d gate)
  placing_own d gate path rec planned = ((inr (refl, planned), inr (refl, planned)), ((inr refl, inr refl), ((tt, tt), ((inr refl, inr refl), ((tt, tt), tt)))))

  pub record_own : (d gate : ℕ) (path : List ℕ) (rec : Rec) → IsPlanned p path → (r : Result Gate ReadBackError) (L : List Event) → RecordCalls d gate path rec r L → AllOwn L
  record_own d gate path rec planned r L calls = by r calls
    where
      settles : (P : List Event → Type 0) → ((K : List Event) → P K → AllOwn K) → Settles d P L → AllOwn L
      settles P rest t = then_own L (λ K is. subst AllOwn (sym is) (tt, tt)) rest t

      reads : (back : Result Unit ReadBackError) (K : List Event) → PartCalls d rec back K → AllOwn K
      reads back K (bytes, c) = untouched_own K (part_untouched d part_path rec.size rec.triple back bytes K c)

      placed : (ok : Bool) (K : List Event) → Then (PartCalls d rec (Ok tt)) (Ran (place_calls d gate path (closed_record rec) ++ open_calls d gate) ok) K → AllOwn K
      placed ok K t = then_own K (reads (Ok tt)) (λ M ran. ran_own (place_calls d gate path (closed_record rec) ++ open_calls d gate) ok M (placing_own d gate path rec planned) ran) t

      by : (r : Result Gate ReadBackError) → RecordCalls d gate path rec r L → AllOwn L
      by (Ok next) t = settles _ (placed true) t
      by (Err BackFailed) (inl ran) = ran_own (sync_call d ∷ []) false L ((tt, tt), tt) ran
      by (Err BackFailed) (inr (inl t)) = settles _ (reads (Err BackFailed)) t
      by (Err BackFailed) (inr (inr t)) = settles _ (placed false) t
      by (Err BackAbsent) t = settles _ (reads (Err BackAbsent)) t
      by (Err (BackLength recorded read)) t = settles _ (reads (Err (BackLength recorded read))) t
      by (Err (Differs recorded read)) t = settles _ (reads (Err (Differs recorded read))) t

  -- ---- a file is copied

  copy_one : (s : ℕ) (path : List ℕ) (e : Event) → IsCopyCall s path e → IsOwnChange p e
  copy_one s path (Write d written at bytes ok) is = inl (inr is)
  copy_one s path (Rename d from to ok) is = absurd is
  copy_one s path (Remove d removed ok) is = absurd is
  copy_one s path e is = tt

  pub copy_own : (s : ℕ) (path : List ℕ) (L : List Event) → AreCopyCalls s path L → AllOwn L
  unfolding AreCopyCalls
  copy_own s path [] are = tt
  copy_own s path (e ∷ L) are = (copy_one s path e are.0, copy_own s path L are.1)

  -- ---- calls on no drive

  off_one : (On : Device → Type 0) → ((d : ℕ) → On (Drive d) → ⊥) → (e : Event) → On (device_of e) → IsOwnChange p e
  off_one On off (Write d path at bytes ok) on = absurd (off d on)
  off_one On off (Rename d from to ok) on = absurd (off d on)
  off_one On off (Remove d path ok) on = absurd (off d on)
  off_one On off e on = tt

  pub off_own : (On : Device → Type 0) → ((d : ℕ) → On (Drive d) → ⊥) → (L : List Event) → AllOn On L → AllOwn L
  unfolding AllOn
  off_own On off [] on = tt
  off_own On off (e ∷ L) on = (off_one On off e on.0, off_own On off L on.1)
