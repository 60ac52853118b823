-- What runs of calls leave on the way, and what they make of a drive.
use Rattle.std.proofs.Common.{◌≡◌, ◌⊎◌, inl, inr, ℕ, Bool, true, false, List, [], ◌∷◌, ◌++◌, map, refl, sym, ◌∙◌, ap, subst}
use Rattle.std.specs.Prelude.{Some}
use Rattle.std.specs.FinMap.{get}
use Rattle.bay_core.specs.declared.event.Event.{Event}
use Rattle.bay_core.specs.Map.{Map}
use Rattle.bay_core.specs.Replay.{Drive, changed, replayed, reads, calls_on}
use Rattle.bay_core.specs.Left.{LeftAfter, LeftBy, Left}
use Rattle.bay_core.specs.World.{World}
use Rattle.bay_core.specs.Crashes.{Leaves, Rests, IsAny, OnlyAt}
use Rattle.bay_core.specs.Went.{Only, Ran, Tried, sync_call}
use Rattle.bay_core.proofs.Crash.{IsIn, Goes, front_goes, left_any, left_keeps, calls_all}
use Rattle.bay_core.proofs.Readable.{reads_left}
use Rattle.bay_core.proofs.Changes.{Changes, torn_other}
use Rattle.bay_core.proofs.Runs.{since_made, told_since, all_ran, AllOn-front}
use Rattle.bay_core.proofs.Replays.{reads-append}

-- one of these calls, with either answer
abbrev pub IsOneOf : Event → List (Bool → Event) → Type 0
IsOneOf e [] = ⊥
IsOneOf e (c ∷ cs) = (e ≡ c true) ⊎ (e ≡ c false) ⊎ IsOneOf e cs

pub goes_one : (cs : List (Bool → Event)) (P : List Event) → Goes cs P → (e : Event) → IsIn e P → IsOneOf e cs
goes_one [] P none e is = absurd (subst (IsIn e) none is)
goes_one (c ∷ cs) P (inl none) e is = absurd (subst (IsIn e) none is)
goes_one (c ∷ cs) P (inr (inl failed)) e is = elim (subst (IsIn e) failed is) [ inl here ↦ inr (inl here) | inr none ↦ absurd none ]
goes_one (c ∷ cs) P (inr (inr (rest, split, goes))) e is = elim (subst (IsIn e) split is) [ inl here ↦ inl here | inr there ↦ inr (inr (goes_one cs rest goes e there)) ]

-- calls that change these paths alone leave each other path as some map had it that was left before
pub within_leaves : (Q : List ℕ → Type 0) (d : ℕ) (cs : List (Bool → Event)) {ok : Bool} {old new : World} → Tried d cs ok old new → ((e : Event) (q : List ℕ) → IsOneOf e cs → Changes e q → Q q) →
    Leaves d IsAny (OnlyAt Q) old new
within_leaves Q d cs {ok} t within = record {
  any_moment = λ m before since rest honest pre now I left.
      let s = since_made t.went before (since ++ rest) honest.events now in
      let goes = front_goes cs ok (since ++ rest) since rest s.such refl in
      let mine = calls_all d since (AllOn-front (Only (Drive d)) since rest s.on) in
      let R = reads m before d in
      left_keeps (λ K. (J : Map) × Left m before d J × OnlyAt Q J K) since R (Left m before d) (λ J l. (J, l, λ q off. refl)) (R, reads_left m before d, λ q off. refl)
      (λ e J K is h torn. (h.0, h.1, λ q off. torn_other e J K torn q (λ c. off (within e q (goes_one cs since goes e is) c)) ∙ h.2 q off)) I
      (subst (λ K. LeftBy K R (Left m before d) I) mine (left_any m before since d I left));
}

-- calls that end in a barrier leave the drive at rest, with just what they make of what was read
pub sync_rests : (d : ℕ) (cs : List (Bool → Event)) {ok : Bool} {old new : World} → Tried d (cs ++ sync_call d ∷ []) ok old new →
    Rests d IsAny (λ R T. T ≡ replayed R (map (λ c. c true) (cs ++ sync_call d ∷ []))) ok old new
sync_rests d cs {ok} t = record {
  done = λ y m before all honest pre now.
      let s = told_since t.went before all honest.events now in
      let R = reads m before d in
      let all_of : s.since ≡ map (λ c. c true) (cs ++ sync_call d ∷ []) = all_ran (cs ++ sync_call d ∷ []) s.since (subst (λ b. Ran (cs ++ sync_call d ∷ []) b s.since) y s.such) in
      let mine : calls_on d s.since ≡ map (λ c. c true) (cs ++ sync_call d ∷ []) = calls_all d s.since s.on ∙ all_of in
      let now_is : reads m all d ≡ replayed R (map (λ c. c true) (cs ++ sync_call d ∷ [])) = ap (λ K. reads m K d) s.is ∙ reads-append m before s.since d ∙ ap (replayed R) mine in (
        λ I left. synced d cs R (Left m before d) I (subst (λ K. LeftBy K R (Left m before d) I) mine (left_any m before s.since d I (subst (λ K. Left m K d I) s.is left))) ∙ sym now_is,
        now_is,
      );
}
  where
    synced : (d : ℕ) (cs : List (Bool → Event)) (R : Map) (S : Map → Type 0) (I : Map) → LeftBy (map (λ c. c true) (cs ++ sync_call d ∷ [])) R S I → I ≡ replayed R (map (λ c. c true) (cs ++ sync_call d ∷ []))
    synced d [] R S I left = left
    synced d (c ∷ cs) R S I left = synced d cs (changed R (c true)) (LeftAfter (c true) R S) I left
