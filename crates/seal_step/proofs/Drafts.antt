-- The writes of a list, one part behind another.
use Rattle.std.proofs.Common.{◌≡◌, ℕ, ◌+◌, ◌<◌, Bool, true, false, List, [], ◌∷◌, ◌++◌, length, take, drop, refl, sym, ap, ◌∙◌, subst, arith, length-append, add-one}
use Rattle.std.specs.Prelude.{slice_index_or}
use Rattle.std.proofs.lemmas.List.{take-append-drop}
use Rattle.bay_core.specs.declared.event.Event.{Event}
use Rattle.bay_core.specs.Paths.{new_path}
use Rattle.bay_core.specs.World.{World}
use Rattle.bay_core.specs.Went.{Tried, write_call}
use Rattle.drive_journal.proofs.Trying.{tried_then, tried_stopped, tried_none}
use Rattle.seal_step.specs.Parts.{joined, writes_from}
use Rattle.seal_step.proofs.Texts.{take_more}

writes-append : (d at : ℕ) (A B : List (List ℕ)) → writes_from d at (A ++ B) ≡ writes_from d at A ++ writes_from d (at + length (joined A)) B
writes-append d at [] B = let same : at ≡ at + 0 = omega arith in ap (λ n. writes_from d n B) same
writes-append d at (part ∷ A) B =
    let same : at + length part + length (joined A) ≡ at + length (part ++ joined A) = omega (arith, length-append part (joined A)) in
    ap (λ (l : List (Bool → Event)). write_call d new_path at part ∷ l) (writes-append d (at + length part) A B ∙ ap (λ n. writes_from d (at + length part) A ++ writes_from d n B) same)

writes_more : (d : ℕ) (ps : List (List ℕ)) (k : ℕ) → k < length ps → writes_from d 0 (take k ps) ++ write_call d new_path (length (joined (take k ps))) (slice_index_or ps k []) ∷ [] ≡ writes_from d 0 (take (k + 1) ps)
writes_more d ps k in_it =
    let part = slice_index_or ps k [] in
    let same : 0 + length (joined (take k ps)) ≡ length (joined (take k ps)) = omega arith in
    sym (ap (λ n. writes_from d 0 (take n ps)) (add-one k) ∙ ap (writes_from d 0) (take_more ps k in_it) ∙ writes-append d 0 (take k ps) (part ∷ [])
    ∙ ap (λ n. writes_from d 0 (take k ps) ++ write_call d new_path n part ∷ []) same)

-- one write more
pub one_more : (d : ℕ) (ps : List (List ℕ)) (k at : ℕ) (part : List ℕ) (ok : Bool) {old mid new : World} → k < length ps → at ≡ length (joined (take k ps)) → part ≡ slice_index_or ps k [] →
    Tried d (writes_from d 0 (take k ps)) true old mid → Tried d (write_call d new_path at part ∷ []) ok mid new → Tried d (writes_from d 0 (take (k + 1) ps)) ok old new
one_more d ps k at part ok {old} {mid} {new} in_it here is so_far t =
    let same : writes_from d 0 (take k ps) ++ write_call d new_path at part ∷ [] ≡ writes_from d 0 (take (k + 1) ps) = (λ i. writes_from d 0 (take k ps) ++ write_call d new_path (here i) (is i) ∷ []) ∙ writes_more d ps k in_it in
    subst (λ (cs : List (Bool → Event)). Tried d cs ok old new) same (tried_then d (writes_from d 0 (take k ps)) (write_call d new_path at part ∷ []) ok so_far t)

halves : (ps : List (List ℕ)) (n : ℕ) → ps ≡ take n ps ++ drop n ps
halves ps n = sym (take-append-drop n ps)

nothing : (ps : List (List ℕ)) → take 0 ps ≡ []
nothing [] = refl
nothing (p ∷ ps) = refl

-- none yet
pub none_written : (d : ℕ) (ps : List (List ℕ)) (w : World) → Tried d (writes_from d 0 (take 0 ps)) true w w
none_written d ps w = subst (λ (l : List (List ℕ)). Tried d (writes_from d 0 l) true w w) (sym (nothing ps)) (tried_none d w)

pub none_long : (ps : List (List ℕ)) → 0 ≡ length (joined (take 0 ps))
none_long ps = sym (ap (λ (l : List (List ℕ)). length (joined l)) (nothing ps))

-- the last of them failed
pub one_failed : (d : ℕ) (ps : List (List ℕ)) (n : ℕ) {old new : World} → Tried d (writes_from d 0 (take n ps)) false old new → Tried d (writes_from d 0 ps) false old new
one_failed d ps n {old} {new} t =
    subst (λ (cs : List (Bool → Event)). Tried d cs false old new) (sym (ap (writes_from d 0) (halves ps n) ∙ writes-append d 0 (take n ps) (drop n ps)))
    (tried_stopped d (writes_from d 0 (take n ps)) (writes_from d (0 + length (joined (take n ps))) (drop n ps)) t)
