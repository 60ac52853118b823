-- Files in byte order of their paths are so in one way, but for files with one path.
use Rattle.std.proofs.Common.{◌≡◌, inl, inr, ℕ, ◌+◌, ◌≤◌, Bool, true, false, cond, List, [], ◌∷◌, map, refl, sym, ◌∙◌, ap, subst, arith}
use Rattle.std.specs.Prelude.{bytes_eq}
use Rattle.std.specs.List.{sum_by}
use Rattle.std.specs.List.Sorted.{IsPermutation}
use Rattle.std.specs.Ordering.{nat_cmp, is_lt, ordering_reverse}
use Rattle.std.specs.Cmp.Lexicographic.{slice_cmp, same_text, nat_list_eq_equiv}
use Rattle.std.specs.declared.cmp.Ordering.{Ordering}
use Rattle.std.specs.declared.cmp.Ordering.TheVariants.{Less, Equal, Greater}
use Rattle.std.proofs.lemmas.Bool.{false≢true}
use Rattle.std.proofs.lemmas.Cmp.{nat_list_cmp_total, tied_itself}
use Rattle.std.proofs.lemmas.List.Sorted.{sorted_far, sum_by-IsPermutation, IsPermutation-sym, IsPermutation-trans}
use Rattle.std.proofs.lemmas.List.Sums.{sum_by-cons}
use Rattle.std.proofs.lemmas.Map.Lookups.{exact_bytes}
use Rattle.copy_plan.specs.declared.file.PlannedFile.{PlannedFile}
use Rattle.copy_plan.specs.Inventory.{EachPair, Precedes}
use Rattle.copy_plan.specs.Build.{IsArranged}
use Rattle.copy_plan.proofs.Arranged.{comes_before, by_paths}
use Rattle.card_inventory.proofs.Members.{IsOneOf, pairs_by_place, rule_of_one}

-- g does not come before f
abbrev pub IsNotAhead : PlannedFile → PlannedFile → Type 0
IsNotAhead f g = is_lt (slice_cmp nat_cmp g.path f.path) ≡ false

-- paths of which neither comes before the other are one
pub one_path : (a b : List ℕ) → is_lt (slice_cmp nat_cmp b a) ≡ false → is_lt (slice_cmp nat_cmp a b) ≡ false → a ≡ b
one_path a b not_b not_a = elim (slice_cmp nat_cmp a b) as (λ o. slice_cmp nat_cmp a b ≡ o → a ≡ b) [
  | Less ↦ λ is. absurd (false≢true (sym not_a ∙ ap is_lt is))
  | Equal ↦ λ is. exact_bytes a b is
  | Greater ↦ λ is. absurd (false≢true (sym not_b ∙ (ap is_lt (nat_list_cmp_total.antisymm b a) ∙ ap (λ (o : Ordering). is_lt (ordering_reverse o)) is)))
] refl

pub arranged_pairs : (files arranged : List PlannedFile) → IsArranged files arranged → EachPair IsNotAhead arranged
arranged_pairs files arranged order = pairs_by_place IsNotAhead arranged (λ i j d less low. sorted_far comes_before by_paths arranged order.sorted i j d (omega arith) low)

-- two arrangements of the same files have the same files
pub same_files : (files a b : List PlannedFile) → IsArranged files a → IsArranged files b → IsPermutation a b
same_files files a b one two = IsPermutation-trans a files b (IsPermutation-sym files a one.same) two.same

-- once where it is so
abbrev counted : Bool → ℕ
counted b = cond b 1 0

-- how often a path is there
abbrev times : List ℕ → List PlannedFile → ℕ
times q files = sum_by (λ f. counted (bytes_eq q f.path)) files

-- a file with a path that is there
has_path : (q : List ℕ) (files : List PlannedFile) → 1 ≤ times q files → (f : PlannedFile) × IsOneOf f files × (q ≡ f.path)
has_path q [] some = absurd (omega arith)
has_path q (f ∷ files) some =
    let split = sum_by-cons (λ (g : PlannedFile). counted (bytes_eq q g.path)) f files in
    elim (bytes_eq q f.path) as (λ b. bytes_eq q f.path ≡ b → times q (f ∷ files) ≡ counted b + times q files → (g : PlannedFile) × IsOneOf g (f ∷ files) × (q ≡ g.path)) [
      | true ↦ λ is more. (f, inl refl, same_text q f.path (sym is))
      | false ↦ λ is more. let rest = has_path q files (omega arith) in (rest.0, inr rest.1, rest.2)
    ] refl split

-- the first path does not come behind one that is there
no_earlier : (x y : PlannedFile) (ys : List PlannedFile) → EachPair IsNotAhead (y ∷ ys) → 1 ≤ times x.path (y ∷ ys) → is_lt (slice_cmp nat_cmp x.path y.path) ≡ false
unfolding EachPair
no_earlier x y ys pairs some =
    let found = has_path x.path (y ∷ ys) some in
    elim found.1 [
      | inl is ↦ ap is_lt (ap (λ (q : List ℕ). slice_cmp nat_cmp q y.path) (found.2 ∙ ap (λ (f : PlannedFile). f.path) is) ∙ tied_itself nat_list_cmp_total y.path)
      | inr later ↦ subst (λ (q : List ℕ). is_lt (slice_cmp nat_cmp q y.path) ≡ false) (sym found.2) (rule_of_one (IsNotAhead y) ys found.0 pairs.0 later)
    ]

-- each sum over the paths is the same
abbrev pub SameSums : List PlannedFile → List PlannedFile → Type 0
SameSums a b = (p : List ℕ → ℕ) → sum_by (λ f. p f.path) a ≡ sum_by (λ f. p f.path) b

there_itself : (x : PlannedFile) (xs : List PlannedFile) → 1 ≤ times x.path (x ∷ xs)
there_itself x xs =
    let split = sum_by-cons (λ (g : PlannedFile). counted (bytes_eq x.path g.path)) x xs in
    let here : counted (bytes_eq x.path x.path) ≡ 1 = ap counted (nat_list_eq_equiv.refl x.path) in
    omega (arith, split, here)

pub same_paths : (a b : List PlannedFile) → EachPair IsNotAhead a → EachPair IsNotAhead b → SameSums a b → map (λ f. f.path) a ≡ map (λ f. f.path) b
unfolding EachPair
same_paths [] [] one two sums = refl
same_paths [] (y ∷ ys) one two sums = let n = sums (λ q. 1) in let split = sum_by-cons (λ (f : PlannedFile). 1) y ys in absurd (omega (arith, n, split))
same_paths (x ∷ xs) [] one two sums = let n = sums (λ q. 1) in let split = sum_by-cons (λ (f : PlannedFile). 1) x xs in absurd (omega (arith, n, split))
same_paths (x ∷ xs) (y ∷ ys) one two sums = λ i. first i ∷ same_paths xs ys one.1 two.1 rest i
  where
    first : x.path ≡ y.path
    first =
        let in_two = sums (λ q. counted (bytes_eq x.path q)) in
        let in_one = sums (λ q. counted (bytes_eq y.path q)) in
        let some_x = there_itself x xs in
        let some_y = there_itself y ys in
        one_path x.path y.path (no_earlier y x xs one (omega (arith, in_one, some_y))) (no_earlier x y ys two (omega (arith, in_two, some_x)))

    rest : SameSums xs ys
    rest p =
        let whole = sums p in
        let split_x = sum_by-cons (λ (f : PlannedFile). p f.path) x xs in
        let split_y = sum_by-cons (λ (f : PlannedFile). p f.path) y ys in
        let head : p x.path ≡ p y.path = ap p first in
        omega (arith, whole, split_x, split_y, head)

pub arranged_paths : (files a b : List PlannedFile) → IsArranged files a → IsArranged files b → map (λ f. f.path) a ≡ map (λ f. f.path) b
arranged_paths files a b one two =
    same_paths a b (arranged_pairs files a one) (arranged_pairs files b two) (λ p. sym (sum_by-IsPermutation (λ (f : PlannedFile). p f.path) a b (same_files files a b one two)))

-- inventories with the same files are one
pub same_inventory : (a b : List PlannedFile) → EachPair Precedes a → EachPair Precedes b → ((f : PlannedFile) → IsOneOf f a → IsOneOf f b) → ((f : PlannedFile) → IsOneOf f b → IsOneOf f a) → a ≡ b
unfolding EachPair
same_inventory [] [] one two there back = refl
same_inventory [] (y ∷ ys) one two there back = absurd (back y (inl refl))
same_inventory (x ∷ xs) [] one two there back = absurd (there x (inl refl))
same_inventory (x ∷ xs) (y ∷ ys) one two there back = λ i. first i ∷ same_inventory xs ys one.1 two.1 to from i
  where
    -- no path comes before itself
    not_itself : (a b : List ℕ) → a ≡ b → slice_cmp nat_cmp a b ≡ Less → ⊥
    not_itself a b same less =
        let tied : slice_cmp nat_cmp a b ≡ Equal = ap (λ (l : List ℕ). slice_cmp nat_cmp l b) same ∙ tied_itself nat_list_cmp_total b in
        let e : Equal ≡ Less = sym tied ∙ less in absurd (cc)

    first : x ≡ y
    first = elim (there x (inl refl)) [
      | inl is ↦ is
      | inr later ↦ elim (back y (inl refl)) [
        | inl is ↦ sym is
        | inr behind ↦ absurd (not_itself y.path y.path refl (nat_list_cmp_total.trans y.path x.path y.path (rule_of_one (Precedes y) ys x two.0 later).less (rule_of_one (Precedes x) xs y one.0 behind).less))
      ]
    ]

    to : (f : PlannedFile) → IsOneOf f xs → IsOneOf f ys
    to f is = elim (there f (inr is)) [
      | inl same ↦ absurd (not_itself x.path f.path (ap (λ (g : PlannedFile). g.path) (first ∙ sym same)) (rule_of_one (Precedes x) xs f one.0 is).less)
      | inr later ↦ later
    ]

    from : (f : PlannedFile) → IsOneOf f ys → IsOneOf f xs
    from f is = elim (back f (inr is)) [
      | inl same ↦ absurd (not_itself y.path f.path (ap (λ (g : PlannedFile). g.path) (sym first ∙ sym same)) (rule_of_one (Precedes y) ys f two.0 is).less)
      | inr later ↦ later
    ]
