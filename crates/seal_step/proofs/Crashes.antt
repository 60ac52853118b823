-- What a stop within a sealing leaves, and what stands after it.
use Rattle.std.proofs.Common.{◌≡◌, ◌≢◌, ◌⊎◌, inl, inr, ℕ, ◌+◌, ◌<◌, Bool, true, false, List, [], ◌∷◌, ◌++◌, length, refl, sym, ap, ◌∙◌, subst, append_assoc}
use Rattle.std.specs.Prelude.{Some, None, Result, Ok, Err, is_ok}
use Rattle.std.specs.FinMap.{get, remove}
use Rattle.std.proofs.lemmas.Bool.{false≢true}
use Rattle.bay_core.specs.declared.event.Event.{Event}
use Rattle.bay_core.specs.declared.event.Event.TheVariants.{AttachSource, AttachDrive, AttachFailed, SourceList, SourceRead, DriveList, DriveRead, Write, Sync, Rename, Remove, Moment, Pick, Say}
use Rattle.bay_core.specs.Crashes.{Leaves, Rests}
use Rattle.bay_core.specs.Left.{LeftBy, Left, IsSettled}
use Rattle.bay_core.specs.Looks.{is_effect, IsUntouched}
use Rattle.bay_core.specs.Map.{Map, moved, copied}
use Rattle.bay_core.specs.Paths.{new_path}
use Rattle.bay_core.specs.Replay.{Device, Drive, reads, replayed}
use Rattle.bay_core.specs.Torn.{Torn}
use Rattle.bay_core.specs.World.{World}
use Rattle.bay_core.specs.Went.{AllOn, Only, Ran, Went, sync_call}
use Rattle.bay_core.proofs.Changes.{Changes, torn_other}
use Rattle.bay_core.proofs.Crash.{IsIn, front_goes, left_any, left_since, left_keeps, calls_all}
use Rattle.bay_core.proofs.Crashing.{goes_one}
use Rattle.bay_core.proofs.Looking.{reads_kept, untouched_on}
use Rattle.bay_core.proofs.Maps.{insert_other, remove_here, moved_file, moved_none, moved_here, copied_none, copied_here, moved_other, copied_other}
use Rattle.bay_core.proofs.Readable.{reads_left}
use Rattle.bay_core.proofs.Rest.{settled_sync, untouched_settled}
use Rattle.bay_core.proofs.Runs.{since_made, told_since, all_ran, AllOn-front}
use Rattle.crash_law.proofs.Calls.{all_ok, reads_calls}
use Rattle.drive_journal.specs.Steps.{NoScratch, IsWhole, IsThere}
use Rattle.seal_step.specs.declared.error.SealError.{SealError}
use Rattle.seal_step.specs.declared.error.SealError.TheVariants.{DriveFailed, Absent, Byte, Length}
use Rattle.seal_step.specs.Calls.{SealCalls}
use Rattle.seal_step.specs.Parts.{writes_from, joined, drafting, naming}
use Rattle.seal_step.proofs.Drafted.{drafted, drafted_others, drafting_on, back_keeps}

-- ---- lists of calls

-- each of these calls changes the file that waits for its name, or nothing
unfoldable AllDraft : List Event → Type 0
AllDraft [] = Unit {0}
AllDraft (e ∷ L) = ((q : List ℕ) → Changes e q → q ≡ new_path) × AllDraft L

draft_append : (A B : List Event) → AllDraft A → AllDraft B → AllDraft (A ++ B)
unfolding AllDraft
draft_append [] B a b = b
draft_append (e ∷ A) B a b = (a.0, draft_append A B a.1 b)

draft_front : (A B : List Event) → AllDraft (A ++ B) → AllDraft A
unfolding AllDraft
draft_front [] B all = tt
draft_front (e ∷ A) B all = (all.0, draft_front A B all.1)

draft_in : (L : List Event) → AllDraft L → (e : Event) → IsIn e L → (q : List ℕ) → Changes e q → q ≡ new_path
unfolding AllDraft
draft_in [] all e is = absurd is
draft_in (f ∷ L) all e (inl same) = λ q c. all.0 q (subst (λ x. Changes x q) same c)
draft_in (f ∷ L) all e (inr there) = draft_in L all.1 e there

quiet : (e : Event) → is_effect e ≡ false → (q : List ℕ) → Changes e q → q ≡ new_path
quiet (Write d path at bytes ok) h q c = absurd (cc h)
quiet (Rename d from to ok) h q c = absurd (cc h)
quiet (Remove d path ok) h q c = absurd (cc h)
quiet (Sync d ok) h q c = absurd c
quiet (AttachSource n place) h q c = absurd c
quiet (AttachDrive n place) h q c = absurd c
quiet (AttachFailed place) h q c = absurd c
quiet (SourceList n got) h q c = absurd c
quiet (SourceRead n path at want got) h q c = absurd c
quiet (DriveList n got) h q c = absurd c
quiet (DriveRead n path at want got) h q c = absurd c
quiet (Moment t) h q c = absurd c
quiet (Pick n) h q c = absurd c
quiet (Say line ok) h q c = absurd c

draft_untouched : (L : List Event) → IsUntouched L → AllDraft L
unfolding AllDraft IsUntouched
draft_untouched [] u = tt
draft_untouched (e ∷ L) u = (quiet e u.0, draft_untouched L u.1)

draft_ran : (d at : ℕ) (parts : List (List ℕ)) (ok : Bool) (L : List Event) → Ran (writes_from d at parts ++ sync_call d ∷ []) ok L → AllDraft L
unfolding AllDraft Ran
draft_ran d at [] true L (rest, is, none) = subst AllDraft (sym is) ((λ q c. absurd c), subst AllDraft (sym none) tt)
draft_ran d at [] false L (inl none) = subst AllDraft (sym none) tt
draft_ran d at [] false L (inr (inl last)) = subst AllDraft (sym last) ((λ q c. absurd c), tt)
draft_ran d at [] false L (inr (inr (rest, is, more))) = absurd more
draft_ran d at (part ∷ parts) true L (rest, is, more) = subst AllDraft (sym is) ((λ q c. c), draft_ran d (at + length part) parts true rest more)
draft_ran d at (part ∷ parts) false L (inl none) = subst AllDraft (sym none) tt
draft_ran d at (part ∷ parts) false L (inr (inl last)) = subst AllDraft (sym last) ((λ q c. c), tt)
draft_ran d at (part ∷ parts) false L (inr (inr (rest, is, more))) = subst AllDraft (sym is) ((λ q c. c), draft_ran d (at + length part) parts false rest more)

-- the draft alone, or all of it and then the name, given or not
data Shape (d : ℕ) (list : List ℕ) (parts : List (List ℕ)) (L : List Event) : Type 0 where
  waits : AllDraft L → Shape d list parts L
  names : (A B C : List Event) (went : Bool) → L ≡ (A ++ B) ++ C → Ran (drafting d parts) true A → IsUntouched B → Ran (naming d list) went C → Shape d list parts L

shape : (d : ℕ) (list : List ℕ) (parts : List (List ℕ)) (r : Result Unit SealError) (L : List Event) → SealCalls d list parts r L → Shape d list parts L
shape d list parts (Ok done) L s = names s.first s.there.first s.there.second true (s.is ∙ ap (λ (l : List Event). s.first ++ l) s.there.is ∙ sym (append_assoc s.first s.there.first s.there.second)) s.here (back_keeps d (joined parts) (Ok tt) s.there.first s.there.here) s.there.there
shape d list parts (Err DriveFailed) L (inl ran) = waits (draft_ran d 0 parts false L ran)
shape d list parts (Err DriveFailed) L (inr (inl s)) = waits (subst AllDraft (sym s.is) (draft_append s.first s.second (draft_ran d 0 parts true s.first s.here) (draft_untouched s.second (back_keeps d (joined parts) (Err DriveFailed) s.second s.there))))
shape d list parts (Err DriveFailed) L (inr (inr s)) = names s.first s.there.first s.there.second false (s.is ∙ ap (λ (l : List Event). s.first ++ l) s.there.is ∙ sym (append_assoc s.first s.there.first s.there.second)) s.here (back_keeps d (joined parts) (Ok tt) s.there.first s.there.here) s.there.there
shape d list parts (Err Absent) L s = waits (subst AllDraft (sym s.is) (draft_append s.first s.second (draft_ran d 0 parts true s.first s.here) (draft_untouched s.second (back_keeps d (joined parts) (Err Absent) s.second s.there))))
shape d list parts (Err (Byte at written read)) L s = waits (subst AllDraft (sym s.is) (draft_append s.first s.second (draft_ran d 0 parts true s.first s.here) (draft_untouched s.second (back_keeps d (joined parts) (Err (Byte at written read)) s.second s.there))))
shape d list parts (Err (Length written read)) L s = waits (subst AllDraft (sym s.is) (draft_append s.first s.second (draft_ran d 0 parts true s.first s.here) (draft_untouched s.second (back_keeps d (joined parts) (Err (Length written read)) s.second s.there))))

-- a first part of two lists is one of the first, or holds it
split : (P rest X Y : List Event) → P ++ rest ≡ X ++ Y → ((Q : List Event) × (X ≡ P ++ Q)) ⊎ ((Q : List Event) × (P ≡ X ++ Q) × (Y ≡ Q ++ rest))
split [] rest X Y is = inl (X, refl)
split (e ∷ P) rest [] Y is = inr (e ∷ P, refl, sym is)
split (e ∷ P) rest (f ∷ X) Y is =
    let head : e ≡ f = cc is in
    let tails : P ++ rest ≡ X ++ Y = cc is in
    elim (split P rest X Y tails) [
      | inl all ↦ inl (all.0, λ i. sym head i ∷ all.1 i)
      | inr more ↦ inr (more.0, (λ i. head i ∷ more.1 i), more.2)
    ]

all_on_back : (On : Device → Type 0) (A B : List Event) → AllOn On (A ++ B) → AllOn On B
unfolding AllOn
all_on_back On [] B on = on
all_on_back On (e ∷ A) B on = all_on_back On A B on.1

two_on : (d : ℕ) (list : List ℕ) → AllOn (Only (Drive d)) (Rename d new_path list true ∷ Sync d true ∷ [])
unfolding AllOn
two_on d list = (refl, (refl, tt))

-- ---- what is left

module _ (d : ℕ) (list : List ℕ) (parts : List (List ℕ)) (some : 0 < length (joined parts)) (differ : list ≢ new_path) where
  abbrev text : List ℕ
  text = joined parts

  -- on the way to the name: what the list had or the text, and the scratch file or none
  record OnTheWay (R K : Map) : Type 0 where
    whole : IsWhole list text R K
    scratch : (get K new_path ≡ None) ⊎ (get K new_path ≡ Some text)

  -- once the file with the text got the name
  given : (R J K : Map) → OnTheWay R J → get J new_path ≡ Some text → get K list ≡ Some text → ((q : List ℕ) → q ≢ new_path → q ≢ list → get K q ≡ get J q) → (get K new_path ≡ None) ⊎ (get K new_path ≡ Some text) → OnTheWay R K
  given R J K h there here others scratch = record {
    whole = record { at = inr here; others = λ q off other. others q off other ∙ h.whole.others q off other };
    scratch = scratch;
  }

  renamed : (ok : Bool) (R J K : Map) → OnTheWay R J → Torn (Rename d new_path list ok) J K → OnTheWay R K
  renamed ok R J K h (inl same) = subst (OnTheWay R) (sym same) h
  renamed ok R J K h (inr (inl is)) = elim h.scratch [
    | inl none ↦ subst (OnTheWay R) (sym (is ∙ moved_none J new_path list none)) h
    | inr there ↦ subst (OnTheWay R) (sym is) (given R J (moved J new_path list) h there (moved_here J new_path list text there) (moved_other J new_path list)
        (inl (ap (λ (m : Map). get m new_path) (moved_file J new_path list text there) ∙ insert_other (remove J new_path) list text new_path (λ e. differ (sym e)) ∙ remove_here J new_path)))
  ]
  renamed ok R J K h (inr (inr is)) = elim h.scratch [
    | inl none ↦ subst (OnTheWay R) (sym (is ∙ copied_none J new_path list none)) h
    | inr there ↦ subst (OnTheWay R) (sym is) (given R J (copied J new_path list) h there (copied_here J new_path list text there) (λ q off other. copied_other J new_path list q other)
        (inr (copied_other J new_path list new_path (λ e. differ (sym e)) ∙ there)))
  ]

  -- each call of the naming stays on the way
  step : (R : Map) (e : Event) (J K : Map) → (e ≡ Rename d new_path list true) ⊎ (e ≡ Rename d new_path list false) ⊎ ((e ≡ Sync d true) ⊎ (e ≡ Sync d false) ⊎ ⊥) → OnTheWay R J → Torn e J K → OnTheWay R K
  step R e J K (inl is) h torn = renamed true R J K h (subst (λ x. Torn x J K) is torn)
  step R e J K (inr (inl is)) h torn = renamed false R J K h (subst (λ x. Torn x J K) is torn)
  step R e J K (inr (inr (inl is))) h torn = subst (OnTheWay R) (sym (subst (λ x. Torn x J K) is torn)) h
  step R e J K (inr (inr (inr (inl is)))) h torn = subst (OnTheWay R) (sym (subst (λ x. Torn x J K) is torn)) h
  step R e J K (inr (inr (inr (inr none)))) h torn = absurd none

  -- what is read before the name
  begun : (R S : Map) → get R new_path ≡ None → S ≡ replayed R (all_ok (drafting d parts)) → OnTheWay R S
  begun R S none is = record {
    whole = record {
      at = inl (ap (λ (m : Map). get m list) is ∙ drafted_others d parts some R list differ);
      others = λ q off other. ap (λ (m : Map). get m q) is ∙ drafted_others d parts some R q off;
    };
    scratch = inr (ap (λ (m : Map). get m new_path) is ∙ drafted d parts some R none);
  }

  module _ (m : Map) (before : List Event) (none : get (reads m before d) new_path ≡ None) where
    abbrev R : Map
    R = reads m before d

    -- a draft that was stopped
    stopped : (since : List Event) → AllOn (Only (Drive d)) since → AllDraft since → (I : Map) → Left m (before ++ since) d I → (J : Map) × Left m before d J × IsWhole list text J I
    stopped since on draft I left =
        let mine = calls_all d since on in
        let kept = left_keeps (λ K. (J : Map) × Left m before d J × ((q : List ℕ) → q ≢ new_path → get K q ≡ get J q)) since R (Left m before d) (λ J l. (J, l, λ q off. refl)) (R, reads_left m before d, λ q off. refl)
        (λ e J K is h torn. (h.0, h.1, λ q off. torn_other e J K torn q (λ c. off (draft_in since draft e is q c)) ∙ h.2 q off)) I
        (subst (λ K. LeftBy K R (Left m before d) I) mine (left_any m before since d I left)) in
        (kept.0, kept.1, record { at = inl (kept.2 list differ); others = λ q off other. kept.2 q off })

    module _ (A B : List Event) (ran : Ran (drafting d parts) true A) (untouched : IsUntouched B) where
      all_drafted : A ≡ all_ok (drafting d parts)
      all_drafted = all_ran (drafting d parts) A ran

      grouped : before ++ (A ++ B) ≡ (before ++ A) ++ B
      grouped = sym (append_assoc before A B)

      read_drafted : reads m (before ++ (A ++ B)) d ≡ replayed R (all_ok (drafting d parts))
      read_drafted =
          ap (λ (K : List Event). reads m K d) grouped ∙ reads_kept m (before ++ A) B d untouched
          ∙ ap (λ (K : List Event). reads m (before ++ K) d) all_drafted ∙ reads_calls d m before (all_ok (drafting d parts)) (drafting_on d parts)

      at_rest : IsSettled m (before ++ (A ++ B)) d
      at_rest =
          let last : before ++ A ≡ (before ++ all_ok (writes_from d 0 parts)) ++ Sync d true ∷ [] = ap (λ (K : List Event). before ++ K) (all_drafted ∙ ends d 0 parts) ∙ sym (append_assoc before (all_ok (writes_from d 0 parts)) (Sync d true ∷ [])) in
          subst (λ (K : List Event). IsSettled m K d) (sym grouped)
          (untouched_settled m (before ++ A) B d (untouched_on d B untouched) (subst (λ (K : List Event). IsSettled m K d) (sym last) (settled_sync m (before ++ all_ok (writes_from d 0 parts)) d)))
        where
          ends : (d at : ℕ) (ps : List (List ℕ)) → all_ok (writes_from d at ps ++ sync_call d ∷ []) ≡ all_ok (writes_from d at ps) ++ Sync d true ∷ []
          ends d at [] = refl
          ends d at (p ∷ ps) = ap (λ (l : List Event). Write d new_path at p true ∷ l) (ends d (at + length p) ps)

      -- a naming that was stopped
      naming_stopped : (went : Bool) (C P rest : List Event) → Ran (naming d list) went C → C ≡ P ++ rest → AllOn (Only (Drive d)) P → (I : Map) → Left m (before ++ ((A ++ B) ++ P)) d I → IsWhole list text R I
      naming_stopped went C P rest ran_names is on I left =
          let front = before ++ (A ++ B) in
          let goes = front_goes (naming d list) went C P rest ran_names is in
          let same : before ++ ((A ++ B) ++ P) ≡ front ++ P = sym (append_assoc before (A ++ B) P) in
          let from = left_since m front P d at_rest I (subst (λ (K : List Event). Left m K d I) same left) in
          let mine = calls_all d P on in
          let S = reads m front d in
          let kept = left_keeps (OnTheWay R) P S (λ J. J ≡ S) (λ J l. subst (OnTheWay R) (sym l) (begun R S none read_drafted)) (begun R S none read_drafted)
          (λ e J K within h torn. step R e J K (goes_one (naming d list) P goes e within) h torn) I
          (subst (λ K. LeftBy K S (λ J. J ≡ S) I) mine from) in
          kept.whole

      -- what stands after a naming that went well
      naming_done : (C : List Event) → Ran (naming d list) true C → IsSettled m (before ++ ((A ++ B) ++ C)) d × IsThere list text R (reads m (before ++ ((A ++ B) ++ C)) d)
      naming_done C ran_names =
          let front = before ++ (A ++ B) in
          let S = reads m front d in
          let two : C ≡ Rename d new_path list true ∷ Sync d true ∷ [] = all_ran (naming d list) C ran_names in
          let same : before ++ ((A ++ B) ++ C) ≡ front ++ (Rename d new_path list true ∷ Sync d true ∷ []) = sym (append_assoc before (A ++ B) C) ∙ ap (λ (K : List Event). front ++ K) two in
          let last : before ++ ((A ++ B) ++ C) ≡ (front ++ Rename d new_path list true ∷ []) ++ Sync d true ∷ [] = same ∙ sym (append_assoc front (Rename d new_path list true ∷ []) (Sync d true ∷ [])) in
          let now : reads m (before ++ ((A ++ B) ++ C)) d ≡ moved S new_path list = ap (λ (K : List Event). reads m K d) same ∙ reads_calls d m front (Rename d new_path list true ∷ Sync d true ∷ []) (two_on d list) in
          let there : get S new_path ≡ Some text = ap (λ (n : Map). get n new_path) read_drafted ∙ drafted d parts some R none in (
            subst (λ (K : List Event). IsSettled m K d) (sym last) (settled_sync m (front ++ Rename d new_path list true ∷ []) d),
            subst (IsThere list text R) (sym now) (record {
              file = moved_here S new_path list text there;
              no_scratch = ap (λ (n : Map). get n new_path) (moved_file S new_path list text there) ∙ insert_other (remove S new_path) list text new_path (λ e. differ (sym e)) ∙ remove_here S new_path;
              others = λ q off other. moved_other S new_path list q off other ∙ ap (λ (n : Map). get n q) read_drafted ∙ drafted_others d parts some R q off;
            }),
          )

module _ (d : ℕ) (list : List ℕ) (parts : List (List ℕ)) (some : 0 < length (joined parts)) (differ : list ≢ new_path) (r : Result Unit SealError) {old new : World} (w : Went (Only (Drive d)) (SealCalls d list parts r) old new) where
  pub seal_leaves : Leaves d NoScratch (IsWhole list (joined parts)) old new
  seal_leaves = record {
    any_moment = λ m before since rest honest absent now I left.
        let s = since_made w before (since ++ rest) honest.events now in
        by m before since rest absent I left s.on (shape d list parts r (since ++ rest) s.such);
  }
    where
      by : (m : Map) (before since rest : List Event) → get (reads m before d) new_path ≡ None → (I : Map) → Left m (before ++ since) d I → AllOn (Only (Drive d)) (since ++ rest) → Shape d list parts (since ++ rest) → (J : Map) × Left m before d J × IsWhole list (joined parts) J I
      by m before since rest absent I left on (waits all) = stopped d list parts some differ m before absent since (AllOn-front (Only (Drive d)) since rest on) (draft_front since rest all) I left
      by m before since rest absent I left on (names A B C went is ran untouched ran_names) = elim (split since rest (A ++ B) C is) [
        | inl all ↦
            let draft : AllDraft (A ++ B) = draft_append A B (draft_ran d 0 parts true A ran) (draft_untouched B untouched) in
            stopped d list parts some differ m before absent since (AllOn-front (Only (Drive d)) since rest on) (draft_front since all.0 (subst AllDraft all.1 draft)) I left
        | inr more ↦
            let on_since = subst (AllOn (Only (Drive d))) more.1 (AllOn-front (Only (Drive d)) since rest on) in (
              reads m before d,
              reads_left m before d,
              naming_stopped d list parts some differ m before absent A B ran untouched went C more.0 rest ran_names more.2 (all_on_back (Only (Drive d)) (A ++ B) more.0 on_since) I
                  (subst (λ (K : List Event). Left m (before ++ K) d I) more.1 left),
            )
      ]

  pub seal_rests : Rests d NoScratch (IsThere list (joined parts)) (is_ok r) old new
  seal_rests = record {
    done = λ good m before all honest absent now.
        let t = told_since w before all honest.events now in
        by r good m before all absent t.since t.is t.such;
  }
    where
      by : (r : Result Unit SealError) → is_ok r ≡ true → (m : Map) (before all : List Event) → get (reads m before d) new_path ≡ None → (since : List Event) → all ≡ before ++ since → SealCalls d list parts r since → IsSettled m all d × IsThere list (joined parts) (reads m before d) (reads m all d)
      by (Err e) good m before all absent since is s = absurd (false≢true good)
      by (Ok done) good m before all absent since is s =
          let A = s.first in
          let B = s.there.first in
          let C = s.there.second in
          let grouped : all ≡ before ++ ((A ++ B) ++ C) = is ∙ ap (λ (K : List Event). before ++ K) (s.is ∙ ap (λ (l : List Event). A ++ l) s.there.is ∙ sym (append_assoc A B C)) in
          subst (λ (K : List Event). IsSettled m K d × IsThere list (joined parts) (reads m before d) (reads m K d)) (sym grouped)
          (naming_done d list parts some differ m before absent A B s.here (back_keeps d (joined parts) (Ok tt) B s.there.here) C s.there.there)
