-- What is pending on a drive is settled, or more is removed.
use Rattle.std.proofs.Common.{◌≡◌, inl, inr, ℕ, Bool, true, false, List, [], ◌∷◌, ◌++◌, refl, sym, ap, ◌∙◌, subst, append-nil, append_assoc}
use Rattle.std.specs.Prelude.{Option, Some, None, IfSome}
use Rattle.std.specs.List.{AllByRecursion}
use Rattle.bay_core.specs.declared.event.Event.{Event}
use Rattle.bay_core.specs.declared.event.Event.TheVariants.{Sync, Remove}
use Rattle.bay_core.specs.Replay.{Drive, reads}
use Rattle.bay_core.specs.World.{World}
use Rattle.bay_core.specs.Went.{AllOn, Only, Ran, Tried, sync_call}
use Rattle.bay_core.proofs.Runs.{told_behind, all_ran}
use Rattle.crash_law.specs.Protocol.{State, Settled, Preparing, Committing, reached, flushed, MayPrepare, prepares, flushes, passes}
use Rattle.crash_law.proofs.Calls.{in-append, reads_calls}
use Rattle.copy_plan.specs.declared.file.PlannedFile.{PlannedFile}
use Rattle.drive_journal.specs.declared.record.Rec.{Rec}
use Rattle.drive_journal.specs.Calls.{given, unless_kept, tidied, removals, tidy_calls}
use Rattle.offload_law.specs.Stages.{Stage, Begun}
use Rattle.offload_law.specs.Steps.{IsNext, offload, IsFree}
use Rattle.recording.specs.Beginning.{Rejoins}
use Rattle.recording.specs.Drives.{Copying, In, ToldOf, UnderWay}
use Rattle.recording.proofs.Turns.{told_still}

module _ (D : Copying) (d : ℕ) (before : List Event) (recs : List Rec) where
  -- a barrier that failed
  not_flushed : UnderWay D d before recs → UnderWay D d (before ++ Sync d false ∷ []) recs
  not_flushed h = record {
    state = h.state;
    is_in = in-append (offload d D.work D.start) d D.start D.stage before (Sync d false ∷ []) h.state h.state h.is_in (h.state, passes refl refl, refl);
    free = h.free;
    at = h.at;
  }

  flushed_is : (x : State (offload d D.work D.start)) → MayPrepare x → flushed x ≡ reached x
  flushed_is (Settled s) may = refl
  flushed_is (Preparing s) may = refl
  flushed_is (Committing s t b) may = absurd may

  -- a barrier that answered Ok
  was_flushed : UnderWay D d before recs → In D d (before ++ Sync d true ∷ []) (Settled (Begun recs))
  was_flushed h =
      subst (λ (r : Stage). In D d (before ++ Sync d true ∷ []) (Settled r)) (flushed_is h.state h.free ∙ h.at)
      (in-append (offload d D.work D.start) d D.start D.stage before (Sync d true ∷ []) h.state (Settled (flushed h.state)) h.is_in (Settled (flushed h.state), flushes, refl))

  no_more : (since : List Event) → since ≡ [] → UnderWay D d before recs → UnderWay D d (before ++ since) recs
  no_more since none h = subst (λ (K : List Event). UnderWay D d K recs) (sym (ap (λ (K : List Event). before ++ K) none ∙ append-nil before)) h

  ran_sync : (since : List Event) (ok : Bool) → Ran (sync_call d ∷ []) ok since → UnderWay D d before recs → UnderWay D d (before ++ since) recs
  unfolding Ran
  ran_sync since true (rest, is, none) h =
      subst (λ (K : List Event). UnderWay D d (before ++ K) recs) (sym (is ∙ ap (λ (K : List Event). Sync d true ∷ K) none)) (record { state = Settled (Begun recs); is_in = was_flushed h; free = tt; at = refl })
  ran_sync since false (inl none) h = no_more since none h
  ran_sync since false (inr (inl last)) h = subst (λ (K : List Event). UnderWay D d (before ++ K) recs) (sym last) (not_flushed h)
  ran_sync since false (inr (inr (rest, is, more))) h = absurd more

sync_on : (d : ℕ) → AllOn (Only (Drive d)) (Sync d true ∷ [])
unfolding AllOn
sync_on d = (refl, tt)

-- what is pending was settled, or maybe not
pub record Flushes (d : ℕ) (ok : Bool) (old new : World) : Type 0 where
  pub keeps : (D : Copying) (recs : List Rec) (past before all : List Event) → old.events ≡ Some (past ++ before) → new.events ≡ Some (past ++ all) →
      UnderWay D d before recs → UnderWay D d all recs × (ToldOf D d all ≡ ToldOf D d before)
  pub done : ok ≡ true → (D : Copying) (recs : List Rec) (past before all : List Event) → old.events ≡ Some (past ++ before) → new.events ≡ Some (past ++ all) →
      UnderWay D d before recs → In D d all (Settled (Begun recs)) × (reads D.start all d ≡ reads D.start before d)

pub flushes_all : (d : ℕ) (ok : Bool) (old new : World) → Tried d (sync_call d ∷ []) ok old new → Flushes d ok old new
flushes_all d ok old new t = record {
  keeps = λ D recs past before all was now h.
      let s = told_behind t.went past before all was now in
      (subst (λ (K : List Event). UnderWay D d K recs) (sym s.is) (ran_sync D d before recs s.since ok s.such h), told_still D d t.went past before all was now);
  done = λ went D recs past before all was now h.
      let s = told_behind t.went past before all was now in
      let one : s.since ≡ Sync d true ∷ [] = all_ran (sync_call d ∷ []) s.since (subst (λ b. Ran (sync_call d ∷ []) b s.since) went s.such) in
      let whole : all ≡ before ++ Sync d true ∷ [] = s.is ∙ ap (λ (K : List Event). before ++ K) one in (
        subst (λ (K : List Event). In D d K (Settled (Begun recs))) (sym whole) (was_flushed D d before recs h),
        ap (λ K. reads D.start K d) whole ∙ reads_calls d D.start before (Sync d true ∷ []) (sync_on d),
      );
}

-- a path that does not count is removed, or maybe not
module _ (D : Copying) (d : ℕ) (recs : List Rec) where
  removal : (before : List Event) (path : List ℕ) (done : Bool) → IsFree D.work.plan (Begun recs) path → UnderWay D d before recs → UnderWay D d (before ++ Remove d path done ∷ []) recs
  removal before path done free h = record {
    state = Preparing (reached h.state);
    is_in = in-append (offload d D.work D.start) d D.start D.stage before (Remove d path done ∷ []) h.state (Preparing (reached h.state)) h.is_in
        (Preparing (reached h.state), prepares refl h.free (subst (λ (r : Stage). IsFree D.work.plan r path) (sym h.at) free), refl);
    free = tt;
    at = h.at;
  }

  ran_removals : (before : List Event) (paths : List (List ℕ)) (since : List Event) (ok : Bool) → AllByRecursion (IsFree D.work.plan (Begun recs)) paths → Ran (removals d paths) ok since → UnderWay D d before recs →
      UnderWay D d (before ++ since) recs
  unfolding Ran
  ran_removals before [] since true free ran h = no_more D d before recs since ran h
  ran_removals before [] since false free ran h = absurd ran
  ran_removals before (path ∷ paths) since true free (rest, is, more) h = subst (λ (K : List Event). UnderWay D d K recs) (append_assoc before (Remove d path true ∷ []) rest ∙ ap (λ (K : List Event). before ++ K) (sym is))
      (ran_removals (before ++ Remove d path true ∷ []) paths rest true free.1 more (removal before path true free.0 h))
  ran_removals before (path ∷ paths) since false free (inl none) h = no_more D d before recs since none h
  ran_removals before (path ∷ paths) since false free (inr (inl last)) h = subst (λ (K : List Event). UnderWay D d (before ++ K) recs) (sym last) (removal before path false free.0 h)
  ran_removals before (path ∷ paths) since false free (inr (inr (rest, is, more))) h = subst (λ (K : List Event). UnderWay D d K recs) (append_assoc before (Remove d path true ∷ []) rest ∙ ap (λ (K : List Event). before ++ K) (sym is))
      (ran_removals (before ++ Remove d path true ∷ []) paths rest false free.1 more (removal before path true free.0 h))

  -- the paths that a tidy removes do not count
  tidied_free : (also : Option (List ℕ)) (keep_part : Bool) → IfSome also (λ path. (f : PlannedFile) × IsNext D.work.plan recs f × (path ≡ f.path)) → AllByRecursion (IsFree D.work.plan (Begun recs)) (tidied also keep_part)
  tidied_free also keep_part next = (inl (inl refl), part_then keep_part)
    where
      last : (also : Option (List ℕ)) → IfSome also (λ path. (f : PlannedFile) × IsNext D.work.plan recs f × (path ≡ f.path)) → AllByRecursion (IsFree D.work.plan (Begun recs)) (given also)
      last None next = tt
      last (Some path) next = (inr next, tt)

      part_then : (keep_part : Bool) → AllByRecursion (IsFree D.work.plan (Begun recs)) (unless_kept keep_part ++ given also)
      part_then true = last also next
      part_then false = (inl (inr refl), last also next)

pub rejoins : (d : ℕ) (also : Option (List ℕ)) (keep_part ok : Bool) (old new : World) → Tried d (tidy_calls d also keep_part) ok old new → Rejoins d also old new
rejoins d also keep_part ok old new t = record {
  keeps = λ D is recs past before all was now ready.
      let s = told_behind t.went past before all was now in
      let rest : UnderWay D d before recs = record { state = Settled (Begun recs); is_in = ready.now; free = tt; at = refl } in
      (subst (λ (K : List Event). UnderWay D d K recs) (sym s.is) (ran_removals D d recs before (tidied also keep_part) s.since ok (tidied_free D d recs also keep_part ready.next_path) s.such rest), told_still D d t.went past before all was now);
}
