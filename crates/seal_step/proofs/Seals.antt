-- Where the calls of a sealing lead an offload.
use Rattle.std.proofs.Common.{◌≡◌, inl, inr, ℕ, ◌+◌, ◌<◌, ◌≤◌, Bool, true, false, List, [], ◌∷◌, ◌++◌, length, refl, sym, ap, ◌∙◌, subst, arith}
use Rattle.std.specs.Prelude.{Some, Result, Ok, Err}
use Rattle.std.specs.FinMap.{get}
use Rattle.std.proofs.lemmas.Bool.{false≢true}
use Rattle.bay_core.specs.declared.event.Event.{Event}
use Rattle.bay_core.specs.Looks.{IsUntouched}
use Rattle.bay_core.specs.Map.{Map}
use Rattle.bay_core.specs.Paths.{new_path}
use Rattle.bay_core.specs.Replay.{Drive, reads, replayed}
use Rattle.bay_core.specs.World.{World}
use Rattle.bay_core.specs.Went.{Only, Went, Tried, sync_call}
use Rattle.bay_core.proofs.Honesty.{honest_later}
use Rattle.bay_core.proofs.Looking.{reads_kept, untouched_no_change}
use Rattle.bay_core.proofs.Runs.{went_such, went_then, told_since, told_between, all_ran}
use Rattle.crash_law.specs.Protocol.{State, Settled, Preparing, Committing, reached, flushed, MayPrepare, prepares, flushes, commits, Leads}
use Rattle.crash_law.proofs.Calls.{AreCalls, all_ok, reads_calls}
use Rattle.crash_law.proofs.Staying.{rests_still}
use Rattle.crash_law.proofs.Worlds.{Came, tried_in}
use Rattle.path_text.specs.Moment.{last_moment}
use Rattle.copy_plan.specs.Plan.{list_of}
use Rattle.drive_journal.specs.declared.record.Rec.{Rec}
use Rattle.offload_law.specs.Sealing.{plan_list_text}
use Rattle.offload_law.specs.Stages.{Stage, Begun, Sealed, progress}
use Rattle.offload_law.specs.Steps.{seals, offload, IsFree}
use Rattle.offload_law.proofs.Safe.{AllSafe}
use Rattle.recording.specs.Drives.{Copying, IsCopying, In, ToldOf, UnderWay}
use Rattle.seal_step.specs.declared.error.SealError.{SealError}
use Rattle.seal_step.specs.declared.error.SealError.TheVariants.{DriveFailed, Absent, Byte, Length}
use Rattle.seal_step.specs.Calls.{SealCalls, FailsAlone}
use Rattle.seal_step.specs.Parts.{writes_from, joined, drafting, naming}
use Rattle.seal_step.specs.Reading.{ListBack}
use Rattle.seal_step.specs.Sealing.{ReadyToSeal, Seals}
use Rattle.seal_step.proofs.Drafted.{drafted, drafting_on, back_keeps}

-- each call may fail
are_writes : (d at : ℕ) (parts : List (List ℕ)) → AreCalls (writes_from d at parts ++ sync_call d ∷ [])
are_writes d at [] = (refl, tt)
are_writes d at (part ∷ parts) = (refl, are_writes d (at + length part) parts)

are_names : (d : ℕ) (list : List ℕ) → AreCalls (naming d list)
are_names d list = (refl, (refl, tt))

-- ---- the calls

module _ (d : ℕ) (list : List ℕ) (parts : List (List ℕ)) where
  -- a write or the barrier behind it failed
  pub calls_undrafted : {old new : World} → Tried d (drafting d parts) false old new → Went (Only (Drive d)) (SealCalls d list parts (Err DriveFailed)) old new
  calls_undrafted t = went_such (λ L r. inl r) t.went

  module _ {old mid : World} (t : Tried d (drafting d parts) true old mid) where
    -- what was read is not the text, or a read failed
    pub calls_unread : (e : SealError) {new : World} → ListBack d (joined parts) (Err e) mid new → Went (Only (Drive d)) (SealCalls d list parts (Err e)) old new
    calls_unread DriveFailed b = went_such (λ L s. inr (inl s)) (went_then t.went b.went)
    calls_unread Absent b = went_then t.went b.went
    calls_unread (Byte at written read) b = went_then t.went b.went
    calls_unread (Length written read) b = went_then t.went b.went

    -- the name or the barrier behind it failed
    pub calls_unnamed : {w new : World} → ListBack d (joined parts) (Ok tt) mid w → Tried d (naming d list) false w new → Went (Only (Drive d)) (SealCalls d list parts (Err DriveFailed)) old new
    calls_unnamed b n = went_such (λ L s. inr (inr s)) (went_then t.went (went_then b.went n.went))

    -- all went well
    pub calls_named : {w new : World} → ListBack d (joined parts) (Ok tt) mid w → Tried d (naming d list) true w new → Went (Only (Drive d)) (SealCalls d list parts (Ok tt)) old new
    calls_named b n = went_then t.went (went_then b.went n.went)

-- an honest drive that has no such file before is found to have the text
pub fails_alone : (d : ℕ) (parts : List (List ℕ)) {old mid : World} → Tried d (drafting d parts) true old mid → (e : SealError) {new : World} → 0 < length (joined parts) → ListBack d (joined parts) (Err e) mid new → FailsAlone d (Err e) old new
fails_alone d parts {old} {mid} t e {new} some b = record {
  only = λ m before all h now none.
      let both = went_then t.went b.went in
      let s = b.went.told all now in
      let first = told_since t.went before s.before h.events s.was in
      let same : reads m s.before d ≡ replayed (reads m before d) (all_ok (drafting d parts)) =
      ap (λ (K : List Event). reads m K d) (first.is ∙ ap (λ (K : List Event). before ++ K) (all_ran (drafting d parts) first.since first.such)) ∙ reads_calls d m before (all_ok (drafting d parts)) (drafting_on d parts) in
      let there : get (reads m all d) new_path ≡ Some (joined parts) =
      ap (λ (K : List Event). get (reads m K d) new_path) s.is ∙ ap (λ (n : Map). get n new_path) (reads_kept m s.before s.since d (back_keeps d (joined parts) (Err e) s.since s.such) ∙ same) ∙ drafted d parts some (reads m before d) none in
      b.honest m all (honest_later d m before all both h now) there;
}

-- ---- the offload

flush_is : (D : Copying) (d : ℕ) (x : State (offload d D.work D.start)) → MayPrepare x → flushed x ≡ reached x
flush_is D d (Settled s) may = refl
flush_is D d (Preparing s) may = refl
flush_is D d (Committing s t b) may = absurd may

module _ (safe : AllSafe) (D : Copying) (ok : IsCopying D) (d : ℕ) (recs : List Rec) where
  -- the writes do not count, and the barrier settles them
  draft_leads : (parts : List (List ℕ)) (told : ℕ) (m : Map) (x : State (offload d D.work D.start)) (at : ℕ) → MayPrepare x → flushed x ≡ Begun recs → reached x ≡ Begun recs →
      Leads (offload d D.work D.start) d told m x (all_ok (writes_from d at parts ++ sync_call d ∷ [])) (Settled (Begun recs))
  draft_leads [] told m x at may flush here = (Settled (flushed x), flushes, ap Settled flush)
  draft_leads (part ∷ parts) told m x at may flush here = (
    Preparing (reached x),
    prepares refl may (inl (subst (λ (s : Stage). IsFree D.work.plan s new_path) (sym here) (inl (inl refl)))),
    draft_leads parts told _ (Preparing (reached x)) (at + length part) tt here here,
  )

  -- the name, where the text waits for it
  name_leads : (told : ℕ) (m : Map) (list : List ℕ) (finish : ℕ) → list ≡ list_of D.work.plan → progress D.work.plan (Begun recs) ≤ told → length recs ≡ length D.work.plan.files → get m new_path ≡ Some (plan_list_text D.work.plan recs finish) → finish ≤ last_moment
      → Leads (offload d D.work D.start) d told m (Settled (Begun recs)) (all_ok (naming d list)) (Settled (Sealed recs finish))
  name_leads told m list finish named owed full waits early =
      subst (λ (q : List ℕ). Leads (offload d D.work D.start) d told m (Settled (Begun recs)) (all_ok (naming d q)) (Settled (Sealed recs finish))) (sym named)
      (Committing (Begun recs) (Sealed recs finish) true, commits refl owed (seals full waits early), (Settled (Sealed recs finish), flushes, refl))

  -- where the writes and the barrier lead, done or not
  drafts : (parts : List (List ℕ)) {went : Bool} {old mid : World} → Tried d (drafting d parts) went old mid → (past before all : List Event) → old.events ≡ Some (past ++ before) → mid.events ≡ Some (past ++ all) → UnderWay D d before recs →
      Came (offload d D.work D.start) d D.start D.stage before all went (all_ok (drafting d parts)) (Settled (Begun recs))
  drafts parts t past before all was now h =
      let P = offload d D.work D.start in
      tried_in P (safe d D.work ok.plan D.start) d (drafting d parts) t (are_writes d 0 parts) D.start D.stage past before all was now h.state (Settled (Begun recs)) h.is_in
      (draft_leads parts (ToldOf D d before) (reads D.start before d) h.state 0 h.free (flush_is D d h.state h.free ∙ h.at) h.at)

  -- the writes were settled, and then reads changed nothing
  record Rested (parts : List (List ℕ)) (before all : List Event) : Type 0 where
    now : In D d all (Settled (Begun recs))
    told : ToldOf D d all ≡ ToldOf D d before
    read : reads D.start all d ≡ replayed (reads D.start before d) (all_ok (drafting d parts))

  rested : (parts : List (List ℕ)) {old mid new : World} → Tried d (drafting d parts) true old mid → Went (Only (Drive d)) IsUntouched mid new → (past before all : List Event) → old.events ≡ Some (past ++ before) → new.events ≡ Some (past ++ all) → UnderWay D d before recs →
      Rested parts before all
  rested parts t back past before all was now h =
      let P = offload d D.work D.start in
      let b = told_between t.went back past before all was now in
      let c = drafts parts t past before b.0 was b.1 h in
      let whole = c.whole refl in
      let rest : In D d b.0 (Settled (Begun recs)) = subst (λ (x : State (offload d D.work D.start)). In D d b.0 x) whole.0 c.is_in in
      let still = rests_still P d (went_such untouched_no_change back) D.start D.stage (Begun recs) past b.0 all b.1 now rest in
      record {
        now = still.0;
        told = still.2 ∙ c.told;
        read = still.1 ∙ ap (λ (K : List Event). reads D.start K d) whole.1 ∙ reads_calls d D.start before (all_ok (drafting d parts)) (drafting_on d parts);
      }

  -- and then the name, given or not
  named : (list : List ℕ) (parts : List (List ℕ)) (finish : ℕ) {went : Bool} {old mid w new : World} → 0 < length (joined parts) → Tried d (drafting d parts) true old mid → Went (Only (Drive d)) IsUntouched mid w → Tried d (naming d list) went w new →
      (past before all : List Event) → old.events ≡ Some (past ++ before) → new.events ≡ Some (past ++ all) → ReadyToSeal D d before recs finish list (joined parts) →
      (mid : List Event) × (ToldOf D d mid ≡ ToldOf D d before) × Came (offload d D.work D.start) d D.start D.stage mid all went (all_ok (naming d list)) (Settled (Sealed recs finish))
  named list parts finish some t back n past before all was now ready =
      let P = offload d D.work D.start in
      let b = told_between (went_then t.went back) n.went past before all was now in
      let r = rested parts t back past before b.0 was b.1 ready.under_way in
      let waits : get (reads D.start b.0 d) new_path ≡ Some (plan_list_text D.work.plan recs finish) =
      ap (λ (m : Map). get m new_path) r.read ∙ drafted d parts some (reads D.start before d) ready.no_scratch ∙ ap Some ready.text_is in
      let owed = ready.told in
      let told = r.told in
      let leads = name_leads (ToldOf D d b.0) (reads D.start b.0 d) list finish ready.list_is (omega (arith, owed, told)) ready.full waits ready.moment in
      (b.0, told, tried_in P (safe d D.work ok.plan D.start) d (naming d list) n (are_names d list) D.start D.stage past b.0 all b.1 now (Settled (Begun recs)) (Settled (Sealed recs finish)) r.now leads)

module _ (safe : AllSafe) (d : ℕ) (list : List ℕ) (parts : List (List ℕ)) {text : List ℕ} (is : joined parts ≡ text) (some : 0 < length (joined parts)) where
  -- a write or the barrier behind it failed
  pub seals_undrafted : {old new : World} → Tried d (drafting d parts) false old new → Seals d list text false old new
  seals_undrafted t = record {
    keeps = λ D ok recs finish past before all was now ready. let c = drafts safe D ok d recs parts t past before all was now ready.under_way in (record { state = c.state; is_in = c.is_in }, c.told);
    done = λ yes. absurd (false≢true yes);
  }

  module _ {old mid : World} (t : Tried d (drafting d parts) true old mid) where
    -- the list was not read as it was written
    pub seals_unread : {r : Result Unit SealError} {new : World} → ListBack d (joined parts) r mid new → Seals d list text false old new
    seals_unread {r = r} b = record {
      keeps = λ D ok recs finish past before all was now ready.
          let rest = rested safe D ok d recs parts t (went_such (back_keeps d (joined parts) r) b.went) past before all was now ready.under_way in
          (record { state = Settled (Begun recs); is_in = rest.now }, rest.told);
      done = λ yes. absurd (false≢true yes);
    }

    -- it was, and got its name, or not
    pub seals_named : {r : Result Unit SealError} {w new : World} (went : Bool) → ListBack d (joined parts) r mid w → Tried d (naming d list) went w new → Seals d list text went old new
    seals_named {r = r} {w = w} {new = new} went b n = record {
      keeps = λ D ok recs finish past before all was now ready.
          let c = named safe D ok d recs list parts finish some t (went_such (back_keeps d (joined parts) r) b.went) n past before all was now (subst (ReadyToSeal D d before recs finish list) (sym is) ready) in
          (record { state = c.2.state; is_in = c.2.is_in }, c.2.told ∙ c.1);
      done = λ yes D ok recs finish past before all was now ready.
          let c = named safe D ok d recs list parts finish some t (went_such (back_keeps d (joined parts) r) b.went) n past before all was now (subst (ReadyToSeal D d before recs finish list) (sym is) ready) in
          subst (λ (x : State (offload d D.work D.start)). In D d all x) (c.2.whole yes).0 c.2.is_in;
    }
