-- Words one after another: those of a drive, those that say a step, and the drives that are said to be sealed.
use Rattle.std.proofs.Common.{◌≡◌, ◌≢◌, inl, inr, ℕ, zero, suc, ◌<◌, Bool, true, false, cond, List, [], ◌∷◌, ◌++◌, length, map, refl, sym, ap, ◌∙◌, subst, arith, append-nil}
use Rattle.std.specs.Prelude.{nat_eq, if◌then◌else◌, Contains}
use Rattle.std.specs.List.{filter, AllByRecursion, IsDistinct}
use Rattle.std.proofs.lemmas.Bool.{false≢true}
use Rattle.std.proofs.lemmas.Bool.Decides.{nat_tests}
use Rattle.std.proofs.lemmas.List.{map-append}
use Rattle.std.proofs.lemmas.List.Elements.{filter-append, All-contains, All-from_recursion, All-contains_itself, recursion_from_All}
use Rattle.copy_plan.specs.Inventory.{EachPair}
use Rattle.run_state.specs.State.{DriveAt, drive_at, is_sealed, count_sealed}
use Rattle.run_lines.specs.Words.{Mark, Begun, Done, Sealed, Lost, Word, marks_of, is_step, is_seal, steps_in, sealed_in, round_of, Before}

-- ---- one item more

filter_on : {X : Type 0} (p : X → Bool) (xs : List X) (x : X) → p x ≡ true → filter p (xs ++ x ∷ []) ≡ filter p xs ++ x ∷ []
filter_on p xs x is = filter-append p xs (x ∷ []) ∙ ap (λ (b : Bool). filter p xs ++ cond b (x ∷ []) []) is

filter_off : {X : Type 0} (p : X → Bool) (xs : List X) (x : X) → p x ≡ false → filter p (xs ++ x ∷ []) ≡ filter p xs
filter_off p xs x is = filter-append p xs (x ∷ []) ∙ ap (λ (b : Bool). filter p xs ++ cond b (x ∷ []) []) is ∙ append-nil (filter p xs)

pub steps_more : (words : List Word) (w : Word) → is_step w.mark ≡ true → steps_in (words ++ w ∷ []) ≡ steps_in words ++ w ∷ []
steps_more words w is = filter_on (λ (v : Word). is_step v.mark) words w is

pub steps_same : (words : List Word) (w : Word) → is_step w.mark ≡ false → steps_in (words ++ w ∷ []) ≡ steps_in words
steps_same words w is = filter_off (λ (v : Word). is_step v.mark) words w is

abbrev drive_of : Word → ℕ
drive_of w = w.drive

pub sealed_more : (words : List Word) (w : Word) → is_seal w.mark ≡ true → sealed_in (words ++ w ∷ []) ≡ sealed_in words ++ w.drive ∷ []
sealed_more words w is = ap (map drive_of) (filter_on (λ (v : Word). is_seal v.mark) words w is) ∙ map-append drive_of (filter (λ (v : Word). is_seal v.mark) words) (w ∷ [])

pub sealed_same : (words : List Word) (w : Word) → is_seal w.mark ≡ false → sealed_in (words ++ w ∷ []) ≡ sealed_in words
sealed_same words w is = ap (map drive_of) (filter_off (λ (v : Word). is_seal v.mark) words w is)

equal : (a b : ℕ) → a ≡ b → nat_eq a b ≡ true
equal a b is = grind (arith, nat_tests)

differ : (a b : ℕ) → a ≢ b → nat_eq a b ≡ false
differ a b ne = grind (arith, nat_tests)

pub marks_more : (d : ℕ) (words : List Word) (w : Word) → w.drive ≡ d → marks_of d (words ++ w ∷ []) ≡ marks_of d words ++ w.mark ∷ []
marks_more d words w is =
    ap (map (λ (v : Word). v.mark)) (filter_on (λ (v : Word). nat_eq v.drive d) words w (equal w.drive d is)) ∙ map-append (λ (v : Word). v.mark) (filter (λ (v : Word). nat_eq v.drive d) words) (w ∷ [])

pub marks_same : (d : ℕ) (words : List Word) (w : Word) → w.drive ≢ d → marks_of d (words ++ w ∷ []) ≡ marks_of d words
marks_same d words w ne = ap (map (λ (v : Word). v.mark)) (filter_off (λ (v : Word). nat_eq v.drive d) words w (differ w.drive d ne))

pub all_weaker : {X : Type 0} (P Q : X → Type 0) → ((x : X) → P x → Q x) → (xs : List X) → AllByRecursion P xs → AllByRecursion Q xs
all_weaker P Q so [] all = tt
all_weaker P Q so (x ∷ xs) all = (so x all.0, all_weaker P Q so xs all.1)

-- ---- sealed drives go up

seal_is : (m : Mark) → is_seal m ≡ true → m ≡ Sealed
seal_is (Begun k) is = absurd (false≢true is)
seal_is (Done j) is = absurd (false≢true is)
seal_is Sealed is = refl
seal_is (Lost loss) is = absurd (false≢true is)

abbrev word : ℕ → Mark → Word
word e m = record { drive = e; mark = m }

module _ (n : ℕ) where
  higher : (w : Word) (e : ℕ) → is_seal w.mark ≡ true → Before n w (word e Sealed) → nat_eq w.drive e ≡ false
  higher w e seal (inl less) = let same : round_of n w.mark ≡ suc n = ap (round_of n) (seal_is w.mark seal) in absurd (omega (arith, same, less))
  higher w e seal (inr (same, low)) = differ w.drive e (λ is. absurd (omega (arith, is, low)))

  apart_by : (w : Word) (e : ℕ) (m : Mark) (words : List Word) → is_seal w.mark ≡ true → AllByRecursion (Before n w) (steps_in (word e m ∷ words))
      → (AllByRecursion (Before n w) (steps_in words) → AllByRecursion (λ (k : ℕ). nat_eq w.drive k ≡ false) (sealed_in words)) → AllByRecursion (λ (k : ℕ). nat_eq w.drive k ≡ false) (sealed_in (word e m ∷ words))
  apart_by w e (Begun k) words seal all rest = rest all.1
  apart_by w e (Done j) words seal all rest = rest all.1
  apart_by w e Sealed words seal all rest = (higher w e seal all.0, rest all.1)
  apart_by w e (Lost loss) words seal all rest = rest all

  apart : (w : Word) (words : List Word) → is_seal w.mark ≡ true → AllByRecursion (Before n w) (steps_in words) → AllByRecursion (λ (k : ℕ). nat_eq w.drive k ≡ false) (sealed_in words)
  apart w [] seal all = tt
  apart w (v ∷ words) seal all = apart_by w v.drive v.mark words seal all (apart w words seal)

  once_by : (e : ℕ) (m : Mark) (words : List Word) → EachPair (Before n) (steps_in (word e m ∷ words)) → (EachPair (Before n) (steps_in words) → IsDistinct nat_eq (sealed_in words)) → IsDistinct nat_eq (sealed_in (word e m ∷ words))
  unfolding EachPair IsDistinct
  once_by e (Begun k) words pairs rest = rest pairs.1
  once_by e (Done j) words pairs rest = rest pairs.1
  once_by e Sealed words pairs rest = (apart (word e Sealed) words refl pairs.0, rest pairs.1)
  once_by e (Lost loss) words pairs rest = rest pairs

  -- each is said to be sealed once
  pub once : (words : List Word) → EachPair (Before n) (steps_in words) → IsDistinct nat_eq (sealed_in words)
  unfolding IsDistinct
  once [] pairs = tt
  once (w ∷ words) pairs = once_by w.drive w.mark words pairs (once words)

-- ---- what stands in lists

pub contains_map : {X Y : Type 0} (f : X → Y) (xs : List X) (x : X) → Contains xs x → Contains (map f xs) (f x)
contains_map f [] x (k, inside, is) = absurd (omega (arith, inside))
contains_map f (y ∷ xs) x (zero, inside, is) = (0, omega arith, ap f is)
contains_map f (y ∷ xs) x (suc k, inside, is) = let r = contains_map f xs x (k, omega (arith, inside), is) in let within = r.1 in (suc r.0, omega (arith, within), r.2)

pub contains_unmap : {X Y : Type 0} (f : X → Y) (xs : List X) (y : Y) → Contains (map f xs) y → (x : X) × Contains xs x × (f x ≡ y)
contains_unmap f [] y (k, inside, is) = absurd (omega (arith, inside))
contains_unmap f (x ∷ xs) y (zero, inside, is) = (x, (0, omega arith, refl), is)
contains_unmap f (x ∷ xs) y (suc k, inside, is) =
    let r = contains_unmap f xs y (k, omega (arith, inside), is) in
    let within = r.1.1 in
    (r.0, (suc r.1.0, omega (arith, within), r.1.2), r.2)

cons_if : {X : Type 0} (b : Bool) (y x : X) (xs : List X) → Contains xs x → Contains (cond b (y ∷ xs) xs) x
cons_if true y x xs (k, inside, is) = (suc k, omega (arith, inside), is)
cons_if false y x xs has = has

contains_filter : {X : Type 0} (p : X → Bool) (xs : List X) (x : X) → p x ≡ true → Contains xs x → Contains (filter p xs) x
contains_filter p [] x on (k, inside, is) = absurd (omega (arith, inside))
contains_filter p (y ∷ xs) x on (zero, inside, is) =
    let here : p y ≡ true = ap p is ∙ on in
    subst (λ (l : List _). Contains l x) (sym (ap (λ (b : Bool). cond b (y ∷ filter p xs) (filter p xs)) here)) (0, omega arith, is)
contains_filter p (y ∷ xs) x on (suc k, inside, is) = cons_if (p y) y x (filter p xs) (contains_filter p xs x on (k, omega (arith, inside), is))

-- a drive of which it is said that it is sealed
pub sealed_has : (words : List Word) (w : Word) → is_seal w.mark ≡ true → Contains words w → Contains (sealed_in words) w.drive
sealed_has words w seal has = contains_map drive_of (filter (λ (v : Word). is_seal v.mark) words) w (contains_filter (λ (v : Word). is_seal v.mark) words w seal has)

sealed_by : (all : List Word) (e : ℕ) (m : Mark) (words : List Word) → Contains all (word e m) → AllByRecursion (λ (d : ℕ). Contains all (word d Sealed)) (sealed_in words)
    → AllByRecursion (λ (d : ℕ). Contains all (word d Sealed)) (sealed_in (word e m ∷ words))
sealed_by all e (Begun k) words here rest = rest
sealed_by all e (Done j) words here rest = rest
sealed_by all e Sealed words here rest = (here, rest)
sealed_by all e (Lost loss) words here rest = rest

sealed_all : (all words : List Word) → AllByRecursion (Contains all) words → AllByRecursion (λ (d : ℕ). Contains all (word d Sealed)) (sealed_in words)
sealed_all all [] inside = tt
sealed_all all (w ∷ words) inside = sealed_by all w.drive w.mark words inside.0 (sealed_all all words inside.1)

pub sealed_from : (words : List Word) (d : ℕ) → Contains (sealed_in words) d → Contains words (record { drive = d; mark = Sealed })
sealed_from words d has =
    All-contains (λ (e : ℕ). Contains words (word e Sealed)) (sealed_in words) d
    (All-from_recursion (λ (e : ℕ). Contains words (word e Sealed)) (sealed_in words) (sealed_all words words (recursion_from_All (Contains words) words (All-contains_itself words)))) has

-- ---- how many drives are sealed

pub same_count : (old new : List DriveAt) → length new ≡ length old → ((k : ℕ) → is_sealed (drive_at new k) ≡ is_sealed (drive_at old k)) → count_sealed new ≡ count_sealed old
same_count [] [] count each = refl
same_count [] (y ∷ new) count each = absurd (omega (arith, count))
same_count (x ∷ old) [] count each = absurd (omega (arith, count))
same_count (x ∷ old) (y ∷ new) count each =
    let rest : count_sealed new ≡ count_sealed old = same_count old new (omega (arith, count)) (λ k. each (suc k)) in
    ap (λ (b : Bool). if b then suc (count_sealed new) else count_sealed new) (each 0) ∙ ap (λ (c : ℕ). if is_sealed x then suc c else c) rest

more_if_sealed : (b : Bool) (c : ℕ) → (if b then suc (suc c) else suc c) ≡ suc (if b then suc c else c)
more_if_sealed true c = refl
more_if_sealed false c = refl

pub one_more : (old new : List DriveAt) (d : ℕ) → length new ≡ length old → d < length old → is_sealed (drive_at old d) ≡ false → is_sealed (drive_at new d) ≡ true → ((k : ℕ) → k ≢ d → is_sealed (drive_at new k) ≡ is_sealed (drive_at old k))
    → count_sealed new ≡ suc (count_sealed old)
one_more [] new d count within was now others = absurd (omega (arith, within))
one_more (x ∷ old) [] d count within was now others = absurd (omega (arith, count))
one_more (x ∷ old) (y ∷ new) zero count within was now others =
    let rest : count_sealed new ≡ count_sealed old = same_count old new (omega (arith, count)) (λ k. others (suc k) (λ same. absurd (omega (arith, same)))) in
    ap (λ (b : Bool). if b then suc (count_sealed new) else count_sealed new) now ∙ ap (λ (c : ℕ). suc c) (rest ∙ sym (ap (λ (b : Bool). if b then suc (count_sealed old) else count_sealed old) was))
one_more (x ∷ old) (y ∷ new) (suc d) count within was now others =
    let rest : count_sealed new ≡ suc (count_sealed old) = one_more old new d (omega (arith, count)) (omega (arith, within)) was now (λ k ne. others (suc k) (λ same. ne (omega (arith, same)))) in
    let head : is_sealed y ≡ is_sealed x = others 0 (λ same. absurd (omega (arith, same))) in
    ap (λ (b : Bool). if b then suc (count_sealed new) else count_sealed new) head ∙ ap (λ (c : ℕ). if is_sealed x then suc c else c) rest ∙ more_if_sealed (is_sealed x) (count_sealed old)
