-- What building an inventory gives does not hang on the way in which files with one path are arranged.
use Rattle.std.proofs.Common.{◌≡◌, ◌⊎◌, inl, inr, ℕ, ◌<◌, ◌≤◌, true, false, List, [], ◌∷◌, ◌++◌, length, map, refl, sym, ◌∙◌, ap, subst, arith}
use Rattle.std.specs.Prelude.{Result, Ok, Err}
use Rattle.std.specs.List.{AllByRecursion}
use Rattle.std.specs.List.Sorted.{IsPermutation}
use Rattle.std.specs.Ordering.{nat_cmp, is_lt}
use Rattle.std.specs.Cmp.Lexicographic.{slice_cmp}
use Rattle.std.proofs.lemmas.Bool.{false≢true}
use Rattle.std.proofs.lemmas.Cmp.{nat_list_cmp_total, tied_itself}
use Rattle.std.proofs.lemmas.List.{map-append}
use Rattle.std.proofs.lemmas.List.Sorted.{length_permutation, sum_by-IsPermutation, IsPermutation-sym}
use Rattle.path_text.specs.Path.{is_control_path, is_ancestor}
use Rattle.copy_plan.specs.declared.file.PlannedFile.{PlannedFile}
use Rattle.copy_plan.specs.declared.inventory.BuildError.{BuildError}
use Rattle.copy_plan.specs.declared.inventory.BuildError.TheVariants.{Empty, TooManyFiles, TooManyBytes, Control, TooBig, Clash}
use Rattle.copy_plan.specs.Inventory.{most_files, most_path_bytes, path_bytes, IsPlannable, Precedes, EachPair, IsInventory}
use Rattle.copy_plan.specs.Build.{IsArranged, IsInBounds, IsControl, IsTooBig, IsFit, IsFirstUnfit, IsApart, IsFirstClash, BuildGives}
use Rattle.copy_plan.proofs.Files.{EachPair-before}
use Rattle.copy_plan.proofs.Above.{map_all}
use Rattle.copy_plan.proofs.Arranged.{precedes_apart, plannable_fit}
use Rattle.card_inventory.proofs.Members.{IsOneOf, one_of_permuted, one_between, one_of_parts, rule_of_one, two_places, pairs_mapped, rules_mapped}
use Rattle.card_inventory.proofs.Arrangements.{IsNotAhead, one_path, arranged_pairs, arranged_paths, same_files, same_inventory}

-- ---- the bounds

-- a refusal by the number of files and the bytes of their paths
abbrev IsOutside : ℕ → ℕ → BuildError → Type 0
IsOutside n bytes Empty = n ≡ 0
IsOutside n bytes (TooManyFiles count) = (count ≡ n) × (most_files < count)
IsOutside n bytes (TooManyBytes sum) = (1 ≤ n) × (n ≤ most_files) × (sum ≡ bytes) × (most_path_bytes < sum)
IsOutside n bytes e = ⊥

one_outside : (n bytes : ℕ) (d e : BuildError) → IsOutside n bytes d → IsOutside n bytes e → d ≡ e
one_outside n bytes Empty Empty x y = refl
one_outside n bytes Empty (TooManyFiles c) x y = absurd (omega arith)
one_outside n bytes Empty (TooManyBytes s) x y = absurd (omega arith)
one_outside n bytes (TooManyFiles c) Empty x y = absurd (omega arith)
one_outside n bytes (TooManyFiles c) (TooManyFiles c') x y = ap TooManyFiles (x.0 ∙ sym y.0)
one_outside n bytes (TooManyFiles c) (TooManyBytes s) x y = absurd (omega arith)
one_outside n bytes (TooManyBytes s) Empty x y = absurd (omega arith)
one_outside n bytes (TooManyBytes s) (TooManyFiles c) x y = absurd (omega arith)
one_outside n bytes (TooManyBytes s) (TooManyBytes s') x y = ap TooManyBytes (x.2 ∙ sym y.2)
one_outside n bytes Empty (Control p) x y = absurd y
one_outside n bytes Empty (TooBig p) x y = absurd y
one_outside n bytes Empty (Clash p q) x y = absurd y
one_outside n bytes (TooManyFiles c) (Control p) x y = absurd y
one_outside n bytes (TooManyFiles c) (TooBig p) x y = absurd y
one_outside n bytes (TooManyFiles c) (Clash p q) x y = absurd y
one_outside n bytes (TooManyBytes s) (Control p) x y = absurd y
one_outside n bytes (TooManyBytes s) (TooBig p) x y = absurd y
one_outside n bytes (TooManyBytes s) (Clash p q) x y = absurd y
one_outside n bytes (Control p) e x y = absurd x
one_outside n bytes (TooBig p) e x y = absurd x
one_outside n bytes (Clash p q) e x y = absurd x

-- such a number and such bytes
record IsInside (n bytes : ℕ) : Type 0 where
  some : 1 ≤ n
  few : n ≤ most_files
  short : bytes ≤ most_path_bytes

not_outside : (n bytes : ℕ) (e : BuildError) → IsInside n bytes → IsOutside n bytes e → ⊥
not_outside n bytes Empty is out = let some = is.some in omega arith
not_outside n bytes (TooManyFiles c) is out = let few = is.few in omega arith
not_outside n bytes (TooManyBytes s) is out = let short = is.short in omega arith
not_outside n bytes (Control p) is out = out
not_outside n bytes (TooBig p) is out = out
not_outside n bytes (Clash p q) is out = out

-- ---- the first that is not fit

-- those behind one do not come before it
late : (xs : List PlannedFile) (y : PlannedFile) (zs : List PlannedFile) → EachPair IsNotAhead (xs ++ y ∷ zs) → AllByRecursion (IsNotAhead y) zs
unfolding EachPair
late [] y zs pairs = pairs.0
late (x ∷ xs) y zs pairs = late xs y zs pairs.1

-- the first that is not fit in one arrangement does not come before that in another
unfit_order : (F G : PlannedFile → Type 0) (a b : List PlannedFile) (p q : List ℕ) → ((f : PlannedFile) → F f → IsFit f → ⊥) → EachPair IsNotAhead b → ((f : PlannedFile) → IsOneOf f a → IsOneOf f b)
    → IsFirstUnfit F a p → IsFirstUnfit G b q → is_lt (slice_cmp nat_cmp p q) ≡ false
unfit_order F G a b p q faulty pairs same one two =
    let in_b : IsOneOf one.file (two.before ++ two.file ∷ two.after) = subst (λ (l : List PlannedFile). IsOneOf one.file l) two.is (same one.file (subst (λ (l : List PlannedFile). IsOneOf one.file l) (sym one.is) (one_between one.before one.file one.after))) in
    elim (one_of_parts two.before two.file two.after one.file in_b) [
      | inl before ↦ absurd (faulty one.file one.faulty (rule_of_one IsFit two.before one.file two.fit before))
      | inr later ↦ subst (λ (r : List ℕ). is_lt (slice_cmp nat_cmp r q) ≡ false) one.named (subst (λ (r : List ℕ). is_lt (slice_cmp nat_cmp one.file.path r) ≡ false) two.named (behind later))
    ]
  where
    behind : IsOneOf one.file (two.file ∷ two.after) → is_lt (slice_cmp nat_cmp one.file.path two.file.path) ≡ false
    behind (inl is) = ap is_lt (ap (λ (f : PlannedFile). slice_cmp nat_cmp f.path two.file.path) is ∙ tied_itself nat_list_cmp_total two.file.path)
    behind (inr later) = rule_of_one (IsNotAhead two.file) two.after one.file (late two.before two.file two.after (subst (λ (l : List PlannedFile). EachPair IsNotAhead l) two.is pairs)) later

-- none is unfit where all are fit
unfit_none : (F : PlannedFile → Type 0) (a b : List PlannedFile) (p : List ℕ) → ((f : PlannedFile) → F f → IsFit f → ⊥) → ((f : PlannedFile) → IsOneOf f a → IsOneOf f b) → IsFirstUnfit F a p → AllByRecursion IsFit b → ⊥
unfit_none F a b p faulty same one all =
    faulty one.file one.faulty (rule_of_one IsFit b one.file all (same one.file (subst (λ (l : List PlannedFile). IsOneOf one.file l) (sym one.is) (one_between one.before one.file one.after))))

control_unfit : (f : PlannedFile) → IsControl f → IsFit f → ⊥
control_unfit f control fit = false≢true (sym fit.own ∙ control)

big_unfit : (f : PlannedFile) → IsTooBig f → IsFit f → ⊥
big_unfit f big fit = let low = fit.small in let high = big.big in omega arith

control_path : (a : List PlannedFile) (p : List ℕ) → IsFirstUnfit IsControl a p → is_control_path p ≡ true
control_path a p one = ap is_control_path (sym one.named) ∙ one.faulty

own_path : (a : List PlannedFile) (p : List ℕ) → IsFirstUnfit IsTooBig a p → is_control_path p ≡ false
own_path a p one = ap is_control_path (sym one.named) ∙ one.faulty.own

-- ---- the first clash

-- two paths that clash
abbrev PathsClash : List ℕ → List ℕ → Type 0
PathsClash p q = (p ≡ q) ⊎ (is_ancestor p q ≡ true)

abbrev PathsApart : List ℕ → List ℕ → Type 0
PathsApart p q = PathsClash p q → ⊥

-- the first clash of paths
record IsPathClash (paths : List (List ℕ)) (first second : List ℕ) : Type 0 where
  front : List (List ℕ)
  between : List (List ℕ)
  after : List (List ℕ)
  is : paths ≡ (front ++ first ∷ between) ++ second ∷ after
  clash : PathsClash first second
  before : EachPair PathsApart (front ++ first ∷ between)
  least : AllByRecursion (λ q. PathsApart q second) front

abbrev path_of : PlannedFile → List ℕ
path_of f = f.path

clash_of_paths : (files : List PlannedFile) (first second : List ℕ) → IsFirstClash files first second → IsPathClash (map path_of files) first second
clash_of_paths files first second c =
    subst (λ (p : List ℕ). IsPathClash (map path_of files) p second) c.first_is
    (subst (λ (q : List ℕ). IsPathClash (map path_of files) c.above.path q) c.second_is
    (record {
      front = map path_of c.front;
      between = map path_of c.between;
      after = map path_of c.after;
      is =
          ap (map path_of) c.found.is ∙ map-append path_of (c.front ++ c.above ∷ c.between) (c.below ∷ c.after)
          ∙ ap (λ (l : List (List ℕ)). l ++ c.below.path ∷ map path_of c.after) (map-append path_of c.front (c.above ∷ c.between));
      clash = c.found.clash;
      before = subst (λ (l : List (List ℕ)). EachPair PathsApart l) (map-append path_of c.front (c.above ∷ c.between)) (pairs_mapped path_of PathsApart (c.front ++ c.above ∷ c.between) c.found.before);
      least = rules_mapped path_of (λ (q : List ℕ). PathsApart q c.below.path) c.front c.found.least;
    }))

-- no path clashes with one that stands behind it among those that do not clash
apart_within : (front : List (List ℕ)) (first : List ℕ) (between : List (List ℕ)) (second : List ℕ) (after : List (List ℕ)) → EachPair PathsApart ((front ++ first ∷ between) ++ second ∷ after) → PathsApart first second
apart_within front first between second after pairs =
    rule_of_one (λ (q : List ℕ). PathsApart q second) (front ++ first ∷ between) first (EachPair-before PathsApart (front ++ first ∷ between) second after pairs) (one_between front first between)

one_clash : (paths : List (List ℕ)) (p q r s : List ℕ) → IsPathClash paths p q → IsPathClash paths r s → (p ≡ r) × (q ≡ s)
one_clash paths p q r s x y =
    elim (two_places (x.front ++ p ∷ x.between) q x.after (y.front ++ r ∷ y.between) s y.after (sym x.is ∙ y.is)) [
      | inl same ↦ (first same.0 same.1, same.1)
      | inr apart ↦
          elim apart [
            | inl later ↦ absurd (apart_within x.front p x.between q later.0 (subst (λ (l : List (List ℕ)). EachPair PathsApart l) later.1 y.before) x.clash)
            | inr earlier ↦ absurd (apart_within y.front r y.between s earlier.0 (subst (λ (l : List (List ℕ)). EachPair PathsApart l) earlier.1 x.before) y.clash)
          ]
    ]
  where
    first : x.front ++ p ∷ x.between ≡ y.front ++ r ∷ y.between → q ≡ s → p ≡ r
    first same second =
        elim (two_places x.front p x.between y.front r y.between same) [
          | inl is ↦ is.1
          | inr apart ↦
              elim apart [
                | inl later ↦ absurd (rule_of_one (λ (u : List ℕ). PathsApart u s) y.front p y.least (subst (λ (l : List (List ℕ)). IsOneOf p l) (sym later.1) (one_between x.front p later.0)) (subst (PathsClash p) second x.clash))
                | inr earlier ↦ absurd (rule_of_one (λ (u : List ℕ). PathsApart u q) x.front r x.least (subst (λ (l : List (List ℕ)). IsOneOf r l) (sym earlier.1) (one_between y.front r earlier.0)) (subst (PathsClash r) (sym second) y.clash))
              ]
        ]

all_apart : (files : List PlannedFile) → EachPair Precedes files → EachPair IsApart files
unfolding EachPair
all_apart [] pairs = tt
all_apart (f ∷ files) pairs = (map_all (Precedes f) (IsApart f) (precedes_apart f) files pairs.0, all_apart files pairs.1)

-- paths of an inventory do not clash
clash_none : (files : List PlannedFile) (p q : List ℕ) → EachPair Precedes files → IsPathClash (map path_of files) p q → ⊥
clash_none files p q pairs x =
    apart_within x.front p x.between q x.after (subst (λ (l : List (List ℕ)). EachPair PathsApart l) x.is (pairs_mapped path_of PathsApart files (all_apart files pairs))) x.clash

-- ---- the answer

-- the answers for files within the bounds
abbrev Inside : List PlannedFile → Result (List PlannedFile) BuildError → Type 0
Inside a (Ok files) = (files ≡ a) × IsInventory a
Inside a (Err (Control p)) = IsFirstUnfit IsControl a p
Inside a (Err (TooBig p)) = IsFirstUnfit IsTooBig a p
Inside a (Err (Clash p q)) = AllByRecursion IsFit a × IsFirstClash a p q
Inside a (Err e) = ⊥

-- an answer by the bounds, or one within them
abbrev Either : List PlannedFile → Result (List PlannedFile) BuildError → Type 0
Either a r = ((e : BuildError) × (r ≡ Err e) × IsOutside (length a) (path_bytes a) e) ⊎ (IsInside (length a) (path_bytes a) × Inside a r)

in_bounds : (a : List PlannedFile) → IsInBounds a → IsInside (length a) (path_bytes a)
in_bounds a is = record { some = is.some; few = is.few; short = is.short }

either : (a : List PlannedFile) (r : Result (List PlannedFile) BuildError) → BuildGives a r → Either a r
either a (Ok files) gives = inr (record { some = gives.1.some; few = gives.1.few; short = gives.1.short }, gives)
either a (Err Empty) gives = inl (Empty, refl, ap length gives)
either a (Err (TooManyFiles c)) gives = inl (TooManyFiles c, refl, gives)
either a (Err (TooManyBytes s)) gives = inl (TooManyBytes s, refl, gives)
either a (Err (Control p)) gives = inr (in_bounds a gives.0, gives.1)
either a (Err (TooBig p)) gives = inr (in_bounds a gives.0, gives.1)
either a (Err (Clash p q)) gives = inr (in_bounds a gives.0, (gives.1, gives.2))

-- two arrangements of one list
record AreArranged (a b : List PlannedFile) : Type 0 where
  there : (f : PlannedFile) → IsOneOf f a → IsOneOf f b
  back : (f : PlannedFile) → IsOneOf f b → IsOneOf f a
  first : EachPair IsNotAhead a
  second : EachPair IsNotAhead b
  paths : map path_of a ≡ map path_of b

inventory_fit : (a : List PlannedFile) → IsInventory a → AllByRecursion IsFit a
inventory_fit a is = map_all IsPlannable IsFit plannable_fit a is.each

unfit_path : (F G : PlannedFile → Type 0) (a b : List PlannedFile) (p q : List ℕ) → ((f : PlannedFile) → F f → IsFit f → ⊥) → ((f : PlannedFile) → G f → IsFit f → ⊥) → AreArranged a b → IsFirstUnfit F a p → IsFirstUnfit G b q → p ≡ q
unfit_path F G a b p q f_unfit g_unfit two one other = one_path p q (unfit_order G F b a q p g_unfit two.first two.back other one) (unfit_order F G a b p q f_unfit two.second two.there one other)

one_inside : (a b : List PlannedFile) (r s : Result (List PlannedFile) BuildError) → AreArranged a b → Inside a r → Inside b s → r ≡ s
one_inside a b (Ok f) (Ok g) two x y = ap Ok (x.0 ∙ same_inventory a b x.1.pairs y.1.pairs two.there two.back ∙ sym y.0)
one_inside a b (Ok f) (Err (Control p)) two x y = absurd (unfit_none IsControl b a p control_unfit two.back y (inventory_fit a x.1))
one_inside a b (Ok f) (Err (TooBig p)) two x y = absurd (unfit_none IsTooBig b a p big_unfit two.back y (inventory_fit a x.1))
one_inside a b (Ok f) (Err (Clash p q)) two x y = absurd (clash_none a p q x.1.pairs (subst (λ (l : List (List ℕ)). IsPathClash l p q) (sym two.paths) (clash_of_paths b p q y.1)))
one_inside a b (Err (Control p)) (Ok g) two x y = absurd (unfit_none IsControl a b p control_unfit two.there x (inventory_fit b y.1))
one_inside a b (Err (TooBig p)) (Ok g) two x y = absurd (unfit_none IsTooBig a b p big_unfit two.there x (inventory_fit b y.1))
one_inside a b (Err (Clash p q)) (Ok g) two x y = absurd (clash_none b p q y.1.pairs (subst (λ (l : List (List ℕ)). IsPathClash l p q) two.paths (clash_of_paths a p q x.1)))
one_inside a b (Err (Control p)) (Err (Control q)) two x y = ap (λ w. Err (Control w)) (unfit_path IsControl IsControl a b p q control_unfit control_unfit two x y)
one_inside a b (Err (TooBig p)) (Err (TooBig q)) two x y = ap (λ w. Err (TooBig w)) (unfit_path IsTooBig IsTooBig a b p q big_unfit big_unfit two x y)
one_inside a b (Err (Control p)) (Err (TooBig q)) two x y = absurd (false≢true (sym (own_path b q y) ∙ ap is_control_path (sym (unfit_path IsControl IsTooBig a b p q control_unfit big_unfit two x y)) ∙ control_path a p x))
one_inside a b (Err (TooBig p)) (Err (Control q)) two x y = absurd (false≢true (sym (own_path a p x) ∙ ap is_control_path (unfit_path IsTooBig IsControl a b p q big_unfit control_unfit two x y) ∙ control_path b q y))
one_inside a b (Err (Control p)) (Err (Clash q s)) two x y = absurd (unfit_none IsControl a b p control_unfit two.there x y.0)
one_inside a b (Err (TooBig p)) (Err (Clash q s)) two x y = absurd (unfit_none IsTooBig a b p big_unfit two.there x y.0)
one_inside a b (Err (Clash q s)) (Err (Control p)) two x y = absurd (unfit_none IsControl b a p control_unfit two.back y x.0)
one_inside a b (Err (Clash q s)) (Err (TooBig p)) two x y = absurd (unfit_none IsTooBig b a p big_unfit two.back y x.0)
one_inside a b (Err (Clash p q)) (Err (Clash u v)) two x y =
    let same = one_clash (map path_of b) p q u v (subst (λ (l : List (List ℕ)). IsPathClash l p q) two.paths (clash_of_paths a p q x.1)) (clash_of_paths b u v y.1) in
    λ i. Err (Clash (same.0 i) (same.1 i))
one_inside a b (Err Empty) s two x y = absurd x
one_inside a b (Err (TooManyFiles c)) s two x y = absurd x
one_inside a b (Err (TooManyBytes c)) s two x y = absurd x
one_inside a b (Ok f) (Err Empty) two x y = absurd y
one_inside a b (Ok f) (Err (TooManyFiles c)) two x y = absurd y
one_inside a b (Ok f) (Err (TooManyBytes c)) two x y = absurd y
one_inside a b (Err (Control p)) (Err Empty) two x y = absurd y
one_inside a b (Err (Control p)) (Err (TooManyFiles c)) two x y = absurd y
one_inside a b (Err (Control p)) (Err (TooManyBytes c)) two x y = absurd y
one_inside a b (Err (TooBig p)) (Err Empty) two x y = absurd y
one_inside a b (Err (TooBig p)) (Err (TooManyFiles c)) two x y = absurd y
one_inside a b (Err (TooBig p)) (Err (TooManyBytes c)) two x y = absurd y
one_inside a b (Err (Clash p q)) (Err Empty) two x y = absurd y
one_inside a b (Err (Clash p q)) (Err (TooManyFiles c)) two x y = absurd y
one_inside a b (Err (Clash p q)) (Err (TooManyBytes c)) two x y = absurd y

-- files that are built in two arrangements
pub one_build : (files a b : List PlannedFile) (r s : Result (List PlannedFile) BuildError) → IsArranged files a → IsArranged files b → BuildGives a r → BuildGives b s → r ≡ s
unfolding path_bytes
one_build files a b r s one two x y =
    elim (either a r x) [
      | inl out ↦
          elim (either b s y) [
            | inl other ↦ out.1 ∙ ap Err (one_outside (length b) (path_bytes b) out.0 other.0 (moved out.0 out.2) other.2) ∙ sym other.1
            | inr inside ↦ absurd (not_outside (length b) (path_bytes b) out.0 inside.0 (moved out.0 out.2))
          ]
      | inr inside ↦
          elim (either b s y) [
            | inl other ↦ absurd (not_outside (length b) (path_bytes b) other.0 (subst (λ (n : ℕ). IsInside n (path_bytes b)) long (subst (λ (n : ℕ). IsInside (length a) n) bytes inside.0)) other.2)
            | inr within ↦ one_inside a b r s arranged inside.1 within.1
          ]
    ]
  where
    same : IsPermutation a b
    same = same_files files a b one two

    long : length a ≡ length b
    long = sym (length_permutation a b same)

    bytes : path_bytes a ≡ path_bytes b
    bytes = sym (sum_by-IsPermutation (λ (f : PlannedFile). length f.path) a b same)

    moved : (e : BuildError) → IsOutside (length a) (path_bytes a) e → IsOutside (length b) (path_bytes b) e
    moved e out = subst (λ (n : ℕ). IsOutside n (path_bytes b) e) long (subst (λ (n : ℕ). IsOutside (length a) n e) bytes out)

    arranged : AreArranged a b
    arranged = record {
      there = λ f. one_of_permuted a b f same;
      back = λ f. one_of_permuted b a f (IsPermutation-sym a b same);
      first = arranged_pairs files a one;
      second = arranged_pairs files b two;
      paths = arranged_paths files a b one two;
    }
