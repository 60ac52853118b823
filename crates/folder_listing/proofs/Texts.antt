-- Texts as keys.
use Rattle.std.proofs.Common.{◌≡◌, ℕ, List, sym, ◌∙◌, ap, true}
use Rattle.std.specs.Prelude.{bytes_eq}
use Rattle.std.specs.Ordering.{nat_cmp, eq_by_cmp}
use Rattle.std.specs.Cmp.{eq_by_cmp_equiv}
use Rattle.std.specs.Cmp.Lexicographic.{slice_cmp, nat_list_cmp_total, same_text}
use Rattle.std.proofs.lemmas.Map.Text.{is_eq-slice_cmp}

-- a key is tested from either side
pub tested : (p q : List ℕ) → bytes_eq p q ≡ eq_by_cmp (slice_cmp nat_cmp) q p
tested p q = sym (is_eq-slice_cmp p q) ∙ (eq_by_cmp_equiv nat_list_cmp_total).symm p q

pub bytes_eq-flip : (p q : List ℕ) → bytes_eq p q ≡ bytes_eq q p
bytes_eq-flip p q = tested p q ∙ is_eq-slice_cmp q p

pub bytes_eq-self : (p : List ℕ) → bytes_eq p p ≡ true
bytes_eq-self p = tested p p ∙ (eq_by_cmp_equiv nat_list_cmp_total).refl p

-- what is so of a path is so of one with the same bytes
pub along : {A : Type 0} (f : List ℕ → A) (p q : List ℕ) (x : A) → f p ≡ x → bytes_eq p q ≡ true → f q ≡ x
along f p q x is same = ap f (sym (same_text p q (sym same))) ∙ is
