-- What a list has, and where two lists with one element each in a place differ.
use Rattle.std.proofs.Common.{◌≡◌, ◌⊎◌, inl, inr, ℕ, suc, ◌<◌, List, [], ◌∷◌, ◌++◌, length, map, get_or, refl, sym, ap, subst, arith}
use Rattle.std.specs.Prelude.{Contains}
use Rattle.std.specs.List.{All, AllByRecursion}
use Rattle.std.specs.List.Sorted.{IsPermutation}
use Rattle.std.proofs.lemmas.List.Elements.{All-nil, All-cons, All-weaker, All-contains, Contains-push, Contains-append_left, Contains-append_right, recursion_from_All}
use Rattle.std.proofs.lemmas.List.Sorted.{Contains-permutation}
use Rattle.copy_plan.specs.Inventory.{EachPair}

-- z is one of these
abbrev pub IsOneOf : {A : Type 0} → A → List A → Type 0
IsOneOf z [] = ⊥
IsOneOf z (x ∷ xs) = (z ≡ x) ⊎ IsOneOf z xs

one_of_each : {A : Type 0} (xs : List A) → All (λ x. IsOneOf x xs) xs
one_of_each {A} [] = All-nil (λ (x : A). IsOneOf x [])
one_of_each {A} (y ∷ xs) =
    All-cons (λ (x : A). IsOneOf x (y ∷ xs)) y xs (inl refl) (All-weaker (λ (x : A). IsOneOf x xs) (λ (x : A). IsOneOf x (y ∷ xs)) (λ x later. inr later) xs (one_of_each xs))

pub one_of : {A : Type 0} (xs : List A) (z : A) → Contains xs z → IsOneOf z xs
one_of {A} xs z in_it = All-contains (λ (x : A). IsOneOf x xs) xs z (one_of_each xs) in_it

pub contains_one : {A : Type 0} (xs : List A) (z : A) → IsOneOf z xs → Contains xs z
contains_one {A} [] z is = absurd is
contains_one {A} (x ∷ xs) z (inl is) = Contains-append_left (x ∷ []) xs z (subst (λ (y : A). Contains (y ∷ []) z) is (Contains-push [] z))
contains_one {A} (x ∷ xs) z (inr is) = Contains-append_right (x ∷ []) xs z (contains_one xs z is)

pub one_of_permuted : {A : Type 0} (xs ys : List A) (z : A) → IsPermutation xs ys → IsOneOf z xs → IsOneOf z ys
one_of_permuted xs ys z same is = one_of ys z (Contains-permutation xs ys z same (contains_one xs z is))

-- the one between two lists
pub one_between : {A : Type 0} (xs : List A) (y : A) (zs : List A) → IsOneOf y (xs ++ y ∷ zs)
one_between [] y zs = inl refl
one_between (x ∷ xs) y zs = inr (one_between xs y zs)

pub one_of_parts : {A : Type 0} (xs : List A) (y : A) (zs : List A) (z : A) → IsOneOf z (xs ++ y ∷ zs) → IsOneOf z xs ⊎ IsOneOf z (y ∷ zs)
one_of_parts [] y zs z is = inr is
one_of_parts (x ∷ xs) y zs z (inl is) = inl (inl is)
one_of_parts (x ∷ xs) y zs z (inr is) = elim (one_of_parts xs y zs z is) [ inl here ↦ inl (inr here) | inr behind ↦ inr behind ]

pub rule_of_one : {A : Type 0} (P : A → Type 0) (xs : List A) (z : A) → AllByRecursion P xs → IsOneOf z xs → P z
rule_of_one {A} P [] z all is = absurd is
rule_of_one {A} P (x ∷ xs) z all (inl is) = subst P (sym is) all.0
rule_of_one {A} P (x ∷ xs) z all (inr is) = rule_of_one P xs z all.1 is

-- two lists with an element each, of one whole list: the same place, or one place before the other
pub two_places : {A : Type 0} (xs : List A) (x : A) (us ys : List A) (y : A) (vs : List A) → xs ++ x ∷ us ≡ ys ++ y ∷ vs
    → ((xs ≡ ys) × (x ≡ y)) ⊎ (((ms : List A) × (ys ≡ xs ++ x ∷ ms)) ⊎ ((ms : List A) × (xs ≡ ys ++ y ∷ ms)))
two_places [] x us [] y vs is = inl (refl, cc is)
two_places [] x us (b ∷ ys) y vs is = let first : b ≡ x = cc is in inr (inl (ys, ap (λ w. w ∷ ys) first))
two_places (a ∷ xs) x us [] y vs is = let first : a ≡ y = cc is in inr (inr (xs, ap (λ w. w ∷ xs) first))
two_places {A} (a ∷ xs) x us (b ∷ ys) y vs is =
    let first : a ≡ b = cc is in
    let rest : xs ++ x ∷ us ≡ ys ++ y ∷ vs = cc is in
    elim (two_places xs x us ys y vs rest) [
      | inl same ↦ inl ((λ i. first i ∷ same.0 i), same.1)
      | inr apart ↦
          elim apart [
            | inl later ↦ inr (inl (later.0, λ i. sym first i ∷ later.1 i))
            | inr earlier ↦ inr (inr (earlier.0, λ i. first i ∷ earlier.1 i))
          ]
    ]

-- each pair by places
pub pairs_by_place : {A : Type 0} (R : A → A → Type 0) (xs : List A) → ((i j : ℕ) (d : A) → i < j → j < length xs → R (get_or xs i d) (get_or xs j d)) → EachPair R xs
unfolding EachPair
pairs_by_place R [] by = tt
pairs_by_place R (x ∷ xs) by = (recursion_from_All (R x) xs (λ k d low. by 0 (suc k) d (omega arith) (omega arith)), pairs_by_place R xs (λ i j d less low. by (suc i) (suc j) d (omega arith) (omega arith)))

pub rules_mapped : {A B : Type 0} (f : A → B) (P : B → Type 0) (xs : List A) → AllByRecursion (λ x. P (f x)) xs → AllByRecursion P (map f xs)
rules_mapped f P [] all = tt
rules_mapped f P (x ∷ xs) all = (all.0, rules_mapped f P xs all.1)

pub pairs_mapped : {A B : Type 0} (f : A → B) (R : B → B → Type 0) (xs : List A) → EachPair (λ x y. R (f x) (f y)) xs → EachPair R (map f xs)
unfolding EachPair
pairs_mapped f R [] pairs = tt
pairs_mapped f R (x ∷ xs) pairs = (rules_mapped f (R (f x)) xs pairs.0, pairs_mapped f R xs pairs.1)
