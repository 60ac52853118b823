-- Marks that are put on one after the other, and the names that are left.
use Rattle.std.proofs.Common.{◌≡◌, ℕ, ◌+◌, ◌<◌, length, take, get_or, map, subst, Bool, true, false, not, cond, List, [], ◌∷◌, ◌++◌, refl, sym, ◌∙◌, ap}
use Rattle.std.specs.Prelude.{◌&&◌, ◌||◌, is_some, bytes_eq}
use Rattle.std.specs.List.{filter, list_any}
use Rattle.std.specs.FinMap.{get, keys, contains_key-keys}
use Rattle.std.specs.Ordering.{nat_cmp, eq_by_cmp}
use Rattle.std.specs.Cmp.Lexicographic.{slice_cmp}
use Rattle.std.proofs.lemmas.List.{map-append, take_more}
use Rattle.std.proofs.lemmas.List.Folds.{list_any-append}
use Rattle.std.proofs.lemmas.Map.Text.{is_eq-slice_cmp}
use Rattle.folder_listing.specs.Listing.{Sizes, Contents, sizes_in, is_marked, Marks, IsMarkedAt}
use Rattle.folder_listing.proofs.Texts.{bytes_eq-flip, bytes_eq-self}

-- at first nothing is marked
pub marked_at_none : (sizes : Sizes) (c : Contents) → sizes_in c ≡ sizes → ((q : List ℕ) → is_marked c q ≡ false) → IsMarkedAt sizes [] c
marked_at_none sizes c are none = record { sizes_are = are; marked = none }

one_more : (a b t : Bool) → ((a && t) || (b && t)) ≡ ((a || (b || false)) && t)
one_more true true true = refl
one_more true true false = refl
one_more true false true = refl
one_more true false false = refl
one_more false true t = refl
one_more false false t = refl

-- one mark more
pub marked_at_more : (sizes : Sizes) (paths : List (List ℕ)) (path : List ℕ) (old new : Contents) → IsMarkedAt sizes paths old → Marks path old new → IsMarkedAt sizes (paths ++ path ∷ []) new
marked_at_more sizes paths path old new was marks = record {
  sizes_are = marks.sizes ∙ was.sizes_are;
  marked = λ q.
      marks.marked q
      ∙ (λ i. was.marked q i || (bytes_eq-flip path q i && is_some (get (was.sizes_are i) q)))
      ∙ one_more (list_any (bytes_eq q) paths) (bytes_eq q path) (is_some (get sizes q))
      ∙ ap (λ b. b && is_some (get sizes q)) (sym (list_any-append (bytes_eq q) paths (path ∷ [])));
}

-- one mark more, of a list that is gone through: each element x of it has its path at f x
pub marked_at_turn : {E : Type 0} (f : E → List ℕ) (xs : List E) (i : ℕ) (x : E) (sizes : Sizes) (path : List ℕ) (old new : Contents) → i < length xs → x ≡ get_or xs i x → path ≡ f x
    → IsMarkedAt sizes (map f (take i xs)) old → Marks path old new → IsMarkedAt sizes (map f (take (i + 1) xs)) new
marked_at_turn f xs i x sizes path old new within is at was marks =
    let more : map f (take (i + 1) xs) ≡ map f (take i xs) ++ path ∷ [] =
    ap (map f) (take_more xs i x within) ∙ map-append f (take i xs) (get_or xs i x ∷ []) ∙ ap (λ y. map f (take i xs) ++ f y ∷ []) (sym is) ∙ ap (λ p. map f (take i xs) ++ p ∷ []) (sym at) in
    subst (λ ps. IsMarkedAt sizes ps new) (sym more) (marked_at_more sizes (map f (take i xs)) path old new was marks)

-- ---- the names that are left

later : (a b : Bool) → b ≡ true → (a || b) ≡ true
later true b e = refl
later false b e = e

-- tests that agree on the elements of a list keep the same of it
kept_alike : (p r : List ℕ → Bool) (xs : List (List ℕ)) → ((q : List ℕ) → list_any (bytes_eq q) xs ≡ true → p q ≡ r q) → filter p xs ≡ filter r xs
kept_alike p r [] same = refl
kept_alike p r (x ∷ xs) same =
    let here : p x ≡ r x = same x (ap (λ b. b || list_any (bytes_eq x) xs) (bytes_eq-self x)) in
    let rest : filter p xs ≡ filter r xs = kept_alike p r xs (λ q e. same q (later (bytes_eq q x) (list_any (bytes_eq q) xs) e)) in
    λ i. cond (here i) (x ∷ rest i) (rest i)

any_text : (q : List ℕ) (xs : List (List ℕ)) → list_any (eq_by_cmp (slice_cmp nat_cmp) q) xs ≡ list_any (bytes_eq q) xs
any_text q [] = refl
any_text q (x ∷ xs) = λ i. is_eq-slice_cmp q x i || any_text q xs i

there : (sizes : Sizes) (q : List ℕ) → list_any (bytes_eq q) (keys sizes) ≡ true → is_some (get sizes q) ≡ true
there sizes q e = contains_key-keys sizes q ∙ any_text q (keys sizes) ∙ e

both_true : (a t : Bool) → t ≡ true → (a && t) ≡ a
both_true true t e = e
both_true false t e = refl

-- where the files at the paths of a list are marked, the names that are left are those that the list has not
pub left_of_marked : (sizes : Sizes) (paths : List (List ℕ)) (c : Contents) → IsMarkedAt sizes paths c
    → filter (λ q. not (is_marked c q)) (keys (sizes_in c)) ≡ filter (λ q. not (list_any (bytes_eq q) paths)) (keys sizes)
left_of_marked sizes paths c are =
    (λ i. filter (λ q. not (are.marked q i)) (keys (are.sizes_are i)))
    ∙ kept_alike (λ q. not (list_any (bytes_eq q) paths && is_some (get sizes q))) (λ q. not (list_any (bytes_eq q) paths)) (keys sizes) (λ q e. ap not (both_true (list_any (bytes_eq q) paths) (is_some (get sizes q)) (there sizes q e)))
