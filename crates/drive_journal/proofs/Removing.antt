-- What is left and what is read where paths are removed one after another.
use Rattle.std.proofs.Common.{◌≡◌, ◌⊎◌, inl, inr, ⊎_elim, ℕ, Bool, true, false, List, [], ◌∷◌, ◌++◌, map, refl, sym, ap, ◌∙◌, subst, arith}
use Rattle.std.specs.Prelude.{None}
use Rattle.std.specs.FinMap.{get, remove}
use Rattle.std.specs.List.{Contains}
use Rattle.std.proofs.lemmas.List.Elements.{Contains-append_left, Contains-append_right, Contains-append_cases, Contains-push, Contains-push_cases}
use Rattle.bay_core.specs.declared.event.Event.{Event}
use Rattle.bay_core.specs.Map.{Map}
use Rattle.bay_core.specs.Replay.{replayed, reads, calls_on}
use Rattle.bay_core.specs.Torn.{Torn}
use Rattle.bay_core.specs.Went.{Ran, Tried, remove_call}
use Rattle.bay_core.specs.World.{World}
use Rattle.bay_core.proofs.Crash.{calls_all}
use Rattle.bay_core.proofs.Crashing.{IsOneOf}
use Rattle.bay_core.proofs.Maps.{remove_here, remove_other, cases_path}
use Rattle.bay_core.proofs.Replays.{reads-append}
use Rattle.bay_core.proofs.Runs.{told_since, all_ran}
use Rattle.drive_journal.specs.Calls.{removals}
use Rattle.drive_journal.specs.Steps.{IsTidying, IsTidied, Turns}
use Rattle.drive_journal.proofs.Trying.{tried_then, tried_stopped}

none_in : (q : List ℕ) → Contains [] q → ⊥
none_in q (k, below, is) = absurd (omega arith)

first_in : (p : List ℕ) (ps : List (List ℕ)) (q : List ℕ) → q ≡ p → Contains (p ∷ ps) q
first_in p ps q e = subst (Contains (p ∷ ps)) (sym e) (Contains-append_left (p ∷ []) ps p (Contains-push [] p))

rest_in : (p : List ℕ) (ps : List (List ℕ)) (q : List ℕ) → Contains ps q → Contains (p ∷ ps) q
rest_in p ps q h = Contains-append_right (p ∷ []) ps q h

cases_in : (p : List ℕ) (ps : List (List ℕ)) (q : List ℕ) → Contains (p ∷ ps) q → (q ≡ p) ⊎ Contains ps q
cases_in p ps q h = elim (Contains-append_cases (p ∷ []) ps q h) [
  | inl first ↦ elim (Contains-push_cases [] p q first) [ inl none ↦ absurd (none_in q none) | inr e ↦ inl (sym e) ]
  | inr rest ↦ inr rest
]

pub tidying_same : (paths : List (List ℕ)) (J : Map) → IsTidying paths J J
tidying_same paths J = record { each = λ q. inl refl }

-- a removal of one of these paths, done, torn or failed
removal_torn : (paths : List (List ℕ)) (p : List ℕ) → Contains paths p → (J K M : Map) → IsTidying paths J K → (M ≡ K) ⊎ (M ≡ remove K p) → IsTidying paths J M
removal_torn paths p one J K M h (inl same) = subst (IsTidying paths J) (sym same) h
removal_torn paths p one J K M h (inr done) = record {
  each = λ q. elim (cases_path q p) [
    | inl e ↦ inr (subst (Contains paths) (sym e) one, ap (λ (m : Map). get m q) done ∙ ap (get (remove K p)) e ∙ remove_here K p)
    | inr off ↦ ⊎_elim (λ kept. inl (is q off ∙ kept)) (λ gone. inr (gone.0, is q off ∙ gone.1)) (h.each q)
  ];
}
  where
    is : (q : List ℕ) → (q ≡ p → ⊥) → get M q ≡ get K q
    is q off = ap (λ (m : Map). get m q) done ∙ remove_other K p q off

removal_keeps : (all : List (List ℕ)) (d : ℕ) (paths : List (List ℕ)) → ((p : List ℕ) → Contains paths p → Contains all p) → (e : Event) (J K M : Map) → IsOneOf e (removals d paths) → IsTidying all J K → Torn e K M → IsTidying all J M
removal_keeps all d [] within e J K M none h torn = absurd none
removal_keeps all d (p ∷ ps) within e J K M (inl is) h torn = removal_torn all p (within p (first_in p ps p refl)) J K M h (subst (λ (f : Event). Torn f K M) is torn)
removal_keeps all d (p ∷ ps) within e J K M (inr (inl is)) h torn = removal_torn all p (within p (first_in p ps p refl)) J K M h (subst (λ (f : Event). Torn f K M) is torn)
removal_keeps all d (p ∷ ps) within e J K M (inr (inr more)) h torn = removal_keeps all d ps (λ q one. within q (rest_in p ps q one)) e J K M more h torn

pub tidying_keeps : (d : ℕ) (paths : List (List ℕ)) (e : Event) (J K M : Map) → IsOneOf e (removals d paths) → IsTidying paths J K → Torn e K M → IsTidying paths J M
tidying_keeps d paths e J K M one h torn = removal_keeps paths d paths (λ p within. within) e J K M one h torn

-- the map after these removals
abbrev pub removed : ℕ → Map → List (List ℕ) → Map
removed d R paths = replayed R (map (λ c. c true) (removals d paths))

removed_gone : (d : ℕ) (paths : List (List ℕ)) (R : Map) (q : List ℕ) → get R q ≡ None → get (removed d R paths) q ≡ None
removed_gone d [] R q none = none
removed_gone d (p ∷ ps) R q none = removed_gone d ps (remove R p) q (elim (cases_path q p) [ inl e ↦ ap (get (remove R p)) e ∙ remove_here R p | inr off ↦ remove_other R p q off ∙ none ])

removed_is : (d : ℕ) (paths : List (List ℕ)) (R : Map) → IsTidied paths R (removed d R paths)
removed_is d [] R = record { gone = λ q h. absurd (none_in q h); others = λ q off. refl }
removed_is d (p ∷ ps) R =
    let rest = removed_is d ps (remove R p) in
    record {
      gone = λ q h. elim (cases_in p ps q h) [
        | inl e ↦ removed_gone d ps (remove R p) q (ap (get (remove R p)) e ∙ remove_here R p)
        | inr more ↦ rest.gone q more
      ];
      others = λ q off. rest.others q (λ more. off (rest_in p ps q more)) ∙ remove_other R p q (λ e. off (first_in p ps q e));
    }

-- after removals that were all Ok none of the paths is read
pub removals_turn : (d : ℕ) (paths : List (List ℕ)) (ok : Bool) (old new : World) → Tried d (removals d paths) ok old new → Turns d (IsTidied paths) ok old new
removals_turn d paths ok old new t = record {
  done = λ y m before all honest now.
      let s = told_since t.went before all honest.events now in
      let R = reads m before d in
      let all_of : s.since ≡ map (λ c. c true) (removals d paths) = all_ran (removals d paths) s.since (subst (λ b. Ran (removals d paths) b s.since) y s.such) in
      let mine : calls_on d s.since ≡ map (λ c. c true) (removals d paths) = calls_all d s.since s.on ∙ all_of in
      let now_is : reads m all d ≡ removed d R paths = ap (λ K. reads m K d) s.is ∙ reads-append m before s.since d ∙ ap (replayed R) mine in
      subst (IsTidied paths R) (sym now_is) (removed_is d paths R);
}

removals-append : (d : ℕ) (ps qs : List (List ℕ)) → removals d (ps ++ qs) ≡ removals d ps ++ removals d qs
removals-append d [] qs = refl
removals-append d (p ∷ ps) qs = ap (λ (l : List (Bool → Event)). remove_call d p ∷ l) (removals-append d ps qs)

-- removals that were all Ok, and then more
pub removals_then : (d : ℕ) (ps qs : List (List ℕ)) (ok : Bool) {old mid new : World} → Tried d (removals d ps) true old mid → Tried d (removals d qs) ok mid new → Tried d (removals d (ps ++ qs)) ok old new
removals_then d ps qs ok {old} {mid} {new} one two = subst (λ cs. Tried d cs ok old new) (sym (removals-append d ps qs)) (tried_then d (removals d ps) (removals d qs) ok one two)

-- removals of which the last failed
pub removals_stopped : (d : ℕ) (ps qs : List (List ℕ)) {old new : World} → Tried d (removals d ps) false old new → Tried d (removals d (ps ++ qs)) false old new
removals_stopped d ps qs {old} {new} one = subst (λ cs. Tried d cs false old new) (sym (removals-append d ps qs)) (tried_stopped d (removals d ps) (removals d qs) one)
