-- How the calls of a step join, and where the step ends at one that failed.
use Rattle.std.proofs.Common.{ℕ, Bool, true, false, List, [], ◌∷◌, ◌++◌, sym, ap, subst, inl, inr, arith}
use Rattle.std.specs.Prelude.{Result, is_ok, IsErrAnd}
use Rattle.std.proofs.lemmas.Result.{err_from_is_err_and}
use Rattle.bay_core.specs.declared.event.Event.{Event}
use Rattle.bay_core.specs.Replay.{Drive}
use Rattle.bay_core.specs.World.{World}
use Rattle.bay_core.specs.Went.{Only, NoCall, Ran, Tried}
use Rattle.bay_core.proofs.Runs.{went_then, went_such, went_none}

Ran-append : (cs ds : List (Bool → Event)) (ok : Bool) (A B : List Event) → Ran cs true A → Ran ds ok B → Ran (cs ++ ds) ok (A ++ B)
unfolding Ran
Ran-append [] ds ok A B a b = subst (λ (l : List Event). Ran ds ok (l ++ B)) (sym a) b
Ran-append (c ∷ cs) ds true A B (rest, is, more) b = (rest ++ B, ap (λ (l : List Event). l ++ B) is, Ran-append cs ds true rest B more b)
Ran-append (c ∷ cs) ds false A B (rest, is, more) b = inr (inr (rest ++ B, ap (λ (l : List Event). l ++ B) is, Ran-append cs ds false rest B more b))

Ran-stopped : (cs ds : List (Bool → Event)) (A : List Event) → Ran cs false A → Ran (cs ++ ds) false A
unfolding Ran
Ran-stopped [] ds A a = absurd a
Ran-stopped (c ∷ cs) ds A (inl none) = inl none
Ran-stopped (c ∷ cs) ds A (inr (inl last)) = inr (inl last)
Ran-stopped (c ∷ cs) ds A (inr (inr (rest, is, more))) = inr (inr (rest, is, Ran-stopped cs ds rest more))

Ran-none : (L : List Event) → NoCall L → Ran [] true L
unfolding Ran
Ran-none L none = none

-- calls that were all Ok, and then more
pub tried_then : (d : ℕ) (cs ds : List (Bool → Event)) (ok : Bool) {old mid new : World} → Tried d cs true old mid → Tried d ds ok mid new → Tried d (cs ++ ds) ok old new
tried_then d cs ds ok {old} {mid} {new} one two = record {
  went = went_such (λ L t. subst (Ran (cs ++ ds) ok) (sym t.is) (Ran-append cs ds ok t.first t.second t.here t.there)) (went_then one.went two.went);
  cause = λ failed. let later = one.went.later (Drive d) in let rose = two.cause failed in omega (arith, later, rose);
}

-- calls of which the last failed
pub tried_stopped : (d : ℕ) (cs ds : List (Bool → Event)) {old new : World} → Tried d cs false old new → Tried d (cs ++ ds) false old new
tried_stopped d cs ds {old} {new} one = record {
  went = went_such (λ L r. Ran-stopped cs ds L r) one.went;
  cause = one.cause;
}

-- no calls
pub tried_none : (d : ℕ) (w : World) → Tried d [] true w w
tried_none d w = record {
  went = went_such Ran-none (went_none (Only (Drive d)) w);
  cause = λ failed. absurd (cc failed);
}

-- a first call that was Ok
pub tried_first : (d : ℕ) (c : Bool → Event) (cs : List (Bool → Event)) (ok : Bool) {old mid new : World} → Tried d (c ∷ []) true old mid → Tried d cs ok mid new → Tried d (c ∷ cs) ok old new
tried_first d c cs ok {old} {mid} {new} one two = tried_then d (c ∷ []) cs ok one two

-- a first call that failed
pub tried_last : (d : ℕ) (c : Bool → Event) (cs : List (Bool → Event)) {old new : World} → Tried d (c ∷ []) false old new → Tried d (c ∷ cs) false old new
tried_last d c cs {old} {new} one = tried_stopped d (c ∷ []) cs one

-- the exit of a `?`
pub tried_exit : {T E : Type 0} (Q : E → Type 0) (r : Result T E) (d : ℕ) (cs : List (Bool → Event)) {old new : World} → IsErrAnd r Q → Tried d cs false old new → Tried d cs (is_ok r) old new
tried_exit Q r d cs {old} {new} is one = let p = err_from_is_err_and r is in subst (λ s. Tried d cs (is_ok s) old new) (sym p.1) one
