-- Calls one behind another, calls that may fail, and calls that do not concern a drive.
use Rattle.std.proofs.Common.{◌≡◌, inl, inr, ℕ, ◌≤◌, Bool, true, false, cond, List, [], ◌∷◌, ◌++◌, map, IsTrue, refl, sym, ap, ◌∙◌, subst}
use Rattle.std.proofs.lemmas.Bool.{false≢true, false_from_ne_true, cases_Bool}
use Rattle.bay_core.specs.declared.event.Event.{Event}
use Rattle.bay_core.specs.declared.event.Event.TheVariants.{AttachSource, AttachDrive, AttachFailed, SourceList, SourceRead, DriveList, DriveRead, Write, Sync, Rename, Remove, Moment, Pick, Say}
use Rattle.bay_core.specs.Map.{Map}
use Rattle.bay_core.specs.Replay.{Device, Drive, device_of, is_on, calls_on, changed, replayed, reads}
use Rattle.bay_core.specs.Went.{AllOn, Only, Ran}
use Rattle.bay_core.proofs.Replays.{reads-append}
use Rattle.bay_core.proofs.Crash.{calls_all}
use Rattle.crash_law.specs.Protocol.{Protocol, IsSafe, State, Settled, Preparing, Committing, reached, is_done, is_passive, failed, IsElsewhere, Step, elsewhere, passes, says, prepares, flushes, commits, Leads, IsIn, told_after, Announced, read_after}
use Rattle.crash_law.specs.Lines.{LineHas, AllLines}
use Rattle.crash_law.proofs.Safe.{is_here, of_here, same_told, not_output}

-- what a read gives of one call more in front
pub reads-cons : (m : Map) (e : Event) (L : List Event) (d : ℕ) → reads m (e ∷ L) d ≡ reads (read_after d m e) L d
unfolding reads
reads-cons m e L d = by (is_on d (device_of e))
  where
    by : (b : Bool) → replayed m (cond b (e ∷ calls_on d L) (calls_on d L)) ≡ replayed (cond b (changed m e) m) (calls_on d L)
    by true = refl
    by false = refl

-- a passive call that failed is passive
failed_passive : (e : Event) → IsTrue (is_passive e) → IsTrue (is_passive (failed e))
failed_passive (DriveRead d path at want got) t = refl
failed_passive (DriveList d got) t = refl
failed_passive (Sync d ok) t = refl
failed_passive (AttachDrive d place) t = absurd (false≢true t)
failed_passive (AttachSource n place) t = absurd (false≢true t)
failed_passive (SourceList n got) t = absurd (false≢true t)
failed_passive (SourceRead n path at want got) t = absurd (false≢true t)
failed_passive (AttachFailed place) t = absurd (false≢true t)
failed_passive (Moment t0) t = absurd (false≢true t)
failed_passive (Pick n) t = absurd (false≢true t)
failed_passive (Write d path at bytes ok) t = absurd (false≢true t)
failed_passive (Rename d from to ok) t = absurd (false≢true t)
failed_passive (Remove d path ok) t = absurd (false≢true t)
failed_passive (Say line ok) t = absurd (false≢true t)

-- and on the same device
pub failed_device : (e : Event) → device_of (failed e) ≡ device_of e
failed_device (DriveRead d path at want got) = refl
failed_device (DriveList d got) = refl
failed_device (Sync d ok) = refl
failed_device (AttachDrive d place) = refl
failed_device (AttachSource n place) = refl
failed_device (SourceList n got) = refl
failed_device (SourceRead n path at want got) = refl
failed_device (AttachFailed place) = refl
failed_device (Moment t0) = refl
failed_device (Pick n) = refl
failed_device (Write d path at bytes ok) = refl
failed_device (Rename d from to ok) = refl
failed_device (Remove d path ok) = refl
failed_device (Say line ok) = refl

-- each of these calls that answers Failed is the failed one of that which answers Ok
abbrev pub AreCalls : List (Bool → Event) → Type 0
AreCalls [] = Unit {0}
AreCalls (c ∷ cs) = (c false ≡ failed (c true)) × AreCalls cs

-- each of these calls, answered Ok
abbrev pub all_ok : List (Bool → Event) → List Event
all_ok cs = map (λ c. c true) cs

module _ (P : Protocol) (d : ℕ) where
  -- what two lists of calls announce, one behind the other
  pub told-append : (A B : List Event) (told : ℕ) → Announced P told (A ++ B) ≡ Announced P (Announced P told A) B
  told-append [] B told = refl
  told-append (e ∷ A) B told = told-append A B (told_after P e told)

  -- one list of calls behind another
  pub leads-append : (A B : List Event) (told : ℕ) (m : Map) (x y z : State P) → Leads P d told m x A y → Leads P d (Announced P told A) (reads m A d) y B z → Leads P d told m x (A ++ B) z
  unfolding reads
  leads-append [] B told m x y z l r = subst (λ (s : State P). Leads P d told m s B z) (sym l) r
  leads-append (e ∷ A) B told m x y z l r =
      (l.0, l.1, leads-append A B (told_after P e told) (read_after d m e) l.0 y z l.2 (subst (λ (M : Map). Leads P d (Announced P (told_after P e told) A) M y B z) (reads-cons m e A d) r))

  -- a run so far, and more calls
  pub in-append : (start : Map) (s : P.Stage) (L M : List Event) (x y : State P) → IsIn P d start s L x → Leads P d (Announced P (P.progress s) L) (reads start L d) x M y → IsIn P d start s (L ++ M) y
  in-append start s L M x y now l = leads-append L M (P.progress s) start (Settled s) x y now l

  -- calls on the drive announce nothing
  pub told_calls : (L : List Event) (told : ℕ) → AllOn (Only (Drive d)) L → Announced P told L ≡ told
  unfolding AllOn
  told_calls [] told on = refl
  told_calls (e ∷ L) told on = ap (λ n. Announced P n L) (same_told P e told (not_output d (device_of e) on.0)) ∙ told_calls L told on.1

  -- what is read where a call is elsewhere
  off_read : (e : Event) (m : Map) → (device_of e ≡ Drive d → ⊥) → read_after d m e ≡ m
  off_read e m off = ap (λ b. cond b (changed m e) m) (false_from_ne_true (is_on d (device_of e)) (λ on. off (of_here d (device_of e) on)))

  -- Calls on other devices, and lines that announce no more than was reached, leave the drive where it is.
  pub leads_away : (On : Device → Type 0) (Q : List ℕ → Type 0) (L : List Event) (told : ℕ) (m : Map) (x : State P) → ((y : Device) → On y → y ≡ Drive d → ⊥) → AllOn On L → AllLines Q L →
      ((line : List ℕ) → Q line → P.announces line ≤ P.progress (reached x)) → Leads P d told m x L x
  unfolding AllOn AllLines
  leads_away On Q [] told m x off on lines low = refl
  leads_away On Q (e ∷ L) told m x off on lines low =
      let away : device_of e ≡ Drive d → ⊥ = off (device_of e) on.0 in
      (x, away_step On Q e told m x away lines.0 low, subst (λ (M : Map). Leads P d (told_after P e told) M x L x) (sym (off_read e m away)) (leads_away On Q L (told_after P e told) m x off on.1 lines.1 low))
    where
      away_step : (On : Device → Type 0) (Q : List ℕ → Type 0) (e : Event) (told : ℕ) (m : Map) (x : State P) → (device_of e ≡ Drive d → ⊥) → LineHas Q e → ((line : List ℕ) → Q line → P.announces line ≤ P.progress (reached x)) → Step P d told m x e x
      away_step On Q (Say line ok) told m x away has low = says (low line has)
      away_step On Q (AttachDrive k place) told m x away has low = elsewhere (record { drive = away; output = λ e. absurd (cc e) })
      away_step On Q (AttachSource n place) told m x away has low = elsewhere (record { drive = away; output = λ e. absurd (cc e) })
      away_step On Q (SourceList n got) told m x away has low = elsewhere (record { drive = away; output = λ e. absurd (cc e) })
      away_step On Q (SourceRead n path at want got) told m x away has low = elsewhere (record { drive = away; output = λ e. absurd (cc e) })
      away_step On Q (AttachFailed place) told m x away has low = elsewhere (record { drive = away; output = λ e. absurd (cc e) })
      away_step On Q (DriveList k got) told m x away has low = elsewhere (record { drive = away; output = λ e. absurd (cc e) })
      away_step On Q (DriveRead k path at want got) told m x away has low = elsewhere (record { drive = away; output = λ e. absurd (cc e) })
      away_step On Q (Write k path at bytes ok) told m x away has low = elsewhere (record { drive = away; output = λ e. absurd (cc e) })
      away_step On Q (Sync k ok) told m x away has low = elsewhere (record { drive = away; output = λ e. absurd (cc e) })
      away_step On Q (Rename k from to ok) told m x away has low = elsewhere (record { drive = away; output = λ e. absurd (cc e) })
      away_step On Q (Remove k path ok) told m x away has low = elsewhere (record { drive = away; output = λ e. absurd (cc e) })
      away_step On Q (Moment t) told m x away has low = elsewhere (record { drive = away; output = λ e. absurd (cc e) })
      away_step On Q (Pick n) told m x away has low = elsewhere (record { drive = away; output = λ e. absurd (cc e) })

  -- calls on other devices change nothing that a read of the drive gives
  pub reads_away : (On : Device → Type 0) (L : List Event) (m : Map) → ((y : Device) → On y → y ≡ Drive d → ⊥) → AllOn On L → reads m L d ≡ m
  unfolding AllOn reads
  reads_away On [] m off on = refl
  reads_away On (e ∷ L) m off on = reads-cons m e L d ∙ ap (λ (M : Map). reads M L d) (off_read e m (off (device_of e) on.0)) ∙ reads_away On L m off on.1

  -- the same behind earlier calls
  pub reads_still : (On : Device → Type 0) (start : Map) (L M : List Event) → ((y : Device) → On y → y ≡ Drive d → ⊥) → AllOn On M → reads start (L ++ M) d ≡ reads start L d
  unfolding reads
  reads_still On start L M off on = reads-append start L M d ∙ reads_away On M (reads start L d) off on

  module _ (safe : IsSafe P) where
    -- a call that may be made may fail
    pub failed_step : {told : ℕ} {m : Map} {x y : State P} {e : Event} → Step P d told m x e y → (z : State P) × Step P d told m x (failed e) z
    failed_step {x = x} {e = e} (elsewhere away) = (x, elsewhere (subst (IsElsewhere d) (sym (failed_device e)) away))
    failed_step {x = x} {e = e} (passes on t) = (x, passes (failed_device e ∙ on) (failed_passive e t))
    failed_step {x = x} (says b) = (x, says b)
    failed_step {x = x} {e = e} (prepares on may h) = (Preparing (reached x), prepares (failed_device e ∙ on) may (safe.prepares_failed (reached x) e h))
    failed_step {x = x} flushes = (x, passes refl refl)
    failed_step {m = m} {e = e} (commits {s = s} {t = t} on owed c) = (Committing s t (is_done (failed e)), commits (failed_device e ∙ on) owed (safe.commits_failed s t e m c))

    -- and so calls that may be made may stop at one that failed
    pub ran_leads : (cs : List (Bool → Event)) (ok : Bool) (L : List Event) (told : ℕ) (m : Map) (x y : State P) → AreCalls cs → Ran cs ok L → Leads P d told m x (all_ok cs) y →
        (z : State P) × Leads P d told m x L z × (ok ≡ true → (z ≡ y) × (L ≡ all_ok cs))
    unfolding Ran
    ran_leads [] true L told m x y are ran l = (y, subst (λ (K : List Event). Leads P d told m x K y) (sym ran) l, λ yes. (refl, ran))
    ran_leads [] false L told m x y are ran l = absurd ran
    ran_leads (c ∷ cs) true L told m x y are (rest, is, more) l =
        let found = ran_leads cs true rest (told_after P (c true) told) (read_after d m (c true)) l.0 y are.1 more l.2 in
        (found.0, subst (λ (K : List Event). Leads P d told m x K found.0) (sym is) (l.0, l.1, found.1), λ yes. let same = found.2 yes in (same.0, is ∙ ap (λ (K : List Event). c true ∷ K) same.1))
    ran_leads (c ∷ cs) false L told m x y are (inl none) l = (x, subst (λ (K : List Event). Leads P d told m x K x) (sym none) refl, λ yes. absurd (false≢true yes))
    ran_leads (c ∷ cs) false L told m x y are (inr (inl last)) l =
        let stop = failed_step l.1 in
        (stop.0, subst (λ (K : List Event). Leads P d told m x K stop.0) (sym (last ∙ ap (λ (e : Event). e ∷ []) are.0)) (stop.0, stop.1, refl), λ yes. absurd (false≢true yes))
    ran_leads (c ∷ cs) false L told m x y are (inr (inr (rest, is, more))) l =
        let found = ran_leads cs false rest (told_after P (c true) told) (read_after d m (c true)) l.0 y are.1 more l.2 in
        (found.0, subst (λ (K : List Event). Leads P d told m x K found.0) (sym is) (l.0, l.1, found.1), λ yes. absurd (false≢true yes))

-- what a read of the drive gives after calls on it alone
pub reads_calls : (d : ℕ) (m : Map) (L M : List Event) → AllOn (Only (Drive d)) M → reads m (L ++ M) d ≡ replayed (reads m L d) M
reads_calls d m L M on = reads-append m L M d ∙ ap (replayed (reads m L d)) (calls_all d M on)

-- the same of a drive as it began
pub reads_alone : (d : ℕ) (m : Map) (M : List Event) → AllOn (Only (Drive d)) M → reads m M d ≡ replayed m M
unfolding reads
reads_alone d m M on = ap (replayed m) (calls_all d M on)

-- and after one call on it
pub on_read : (d : ℕ) (m : Map) (e : Event) → device_of e ≡ Drive d → read_after d m e ≡ changed m e
on_read d m e on = ap (λ b. cond b (changed m e) m) (is_here d (device_of e) on)

-- where no call so far is on the drive, each is on something else
pub none_here : (d : ℕ) (L : List Event) → calls_on d L ≡ [] → AllOn (λ y. y ≡ Drive d → ⊥) L
unfolding AllOn
none_here d [] none = tt
none_here d (e ∷ L) none = elim (cases_Bool (is_on d (device_of e))) [
  | inl on ↦ let some : e ∷ calls_on d L ≡ [] = ap (λ b. cond b (e ∷ calls_on d L) (calls_on d L)) (sym on) ∙ none in absurd (cc some)
  | inr off ↦ (λ is. false≢true (sym off ∙ is_here d (device_of e) is), none_here d L (ap (λ b. cond b (e ∷ calls_on d L) (calls_on d L)) (sym off) ∙ none))
]
