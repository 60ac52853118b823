-- Ancestors of a path among files in byte order.
use Rattle.std.proofs.Common.{◌≡◌, ◌≢◌, inl, inr, ℕ, zero, suc, ◌+◌, ◌<◌, ◌≤◌, Bool, true, false, List, [], ◌∷◌, ◌++◌, length, take, drop, get_or, drop-cons, add-one, refl, sym, ◌∙◌, ap, subst, arith, length-append}
use Rattle.std.specs.Prelude.{◌&&◌, nat_eq, slice_index, Err}
use Rattle.std.specs.List.{AllByRecursion, HoldsAt}
use Rattle.std.specs.List.Sorted.{IsSortedBy, IsBinarySearchResult}
use Rattle.std.specs.Ordering.{nat_cmp, is_lt, ordering_then, ordering_reverse}
use Rattle.std.specs.Cmp.Lexicographic.{slice_cmp}
use Rattle.std.specs.declared.cmp.Ordering.{Ordering}
use Rattle.std.specs.declared.cmp.Ordering.TheVariants.{Less, Equal, Greater}
use Rattle.std.proofs.lemmas.Bool.{false≢true}
use Rattle.std.proofs.lemmas.Bool.Decides.{nat_tests}
use Rattle.std.proofs.lemmas.Cmp.{nat_cmp_total, nat_list_cmp_total, tied_itself}
use Rattle.std.proofs.lemmas.Bool.{cases_lt}  -- `cases_lt` is `lt_or_ge` in other libraries, and gives their `le_total`
use Rattle.std.proofs.lemmas.List.{take_at, length-take-le, take-append-drop}
use Rattle.std.proofs.lemmas.List.Elements.{recursion_from_All, All-from_recursion}
use Rattle.std.proofs.lemmas.List.Sorted.{searchable_from_sorted}
use Rattle.std.proofs.lemmas.Map.Lookups.{exact_bytes}
use Rattle.path_text.specs.Path.{is_ancestor}
use Rattle.copy_plan.specs.declared.file.PlannedFile.{PlannedFile}
use Rattle.copy_plan.specs.Inventory.{Precedes, EachPair}
use Rattle.copy_plan.specs.Ancestors.{FirstAncestor, HasPath}
use Rattle.copy_plan.proofs.Files.{EachPair-before, AllByRecursion-front}

-- what lies below a path begins with it and a slash
pub below_whole : (a b : List ℕ) → is_ancestor a b ≡ true → (rest : List ℕ) × (b ≡ a ++ 47 ∷ rest)
below_whole [] [] is = absurd (false≢true is)
below_whole [] (y ∷ ys) is = (ys, let e : y ≡ 47 = slash y is in ap (λ (b : ℕ). b ∷ ys) e)
  where
    slash : (y : ℕ) → (nat_eq 47 y && true) ≡ true → y ≡ 47
    slash y is = grind (arith, nat_tests)
below_whole (x ∷ xs) [] is = absurd (false≢true is)
below_whole (x ∷ xs) (y ∷ ys) is =
    let parts = both (nat_eq x y) (is_ancestor xs ys) is in
    let first : x ≡ y = same x y parts.0 in
    let rest = below_whole xs ys parts.1 in
    (rest.0, λ i. sym first i ∷ rest.1 i)
  where
    both : (a b : Bool) → (a && b) ≡ true → (a ≡ true) × (b ≡ true)
    both true b is = (refl, is)
    both false b is = absurd (false≢true is)

    same : (x y : ℕ) → nat_eq x y ≡ true → x ≡ y
    same x y is = grind (arith, nat_tests)

pub below_is : (a rest : List ℕ) → is_ancestor a (a ++ 47 ∷ rest) ≡ true
below_is [] rest = refl
below_is (x ∷ xs) rest = ap (λ (b : Bool). b && is_ancestor xs (xs ++ 47 ∷ rest)) (itself x) ∙ below_is xs rest
  where
    itself : (x : ℕ) → nat_eq x x ≡ true
    itself x = grind (arith, nat_tests)

-- no list comes before its own beginning
pub not_before : (x y : List ℕ) → slice_cmp nat_cmp (x ++ y) x ≡ Less → ⊥
not_before [] [] less = absurd (cc)
not_before [] (b ∷ y) less = absurd (cc)
not_before (a ∷ x) y less =
    not_before x y (sym (ap (λ (o : Ordering). ordering_then o (slice_cmp nat_cmp (x ++ y) x)) (tied_itself nat_cmp_total a)) ∙ less)

-- of two beginnings of a list the longer one begins with the shorter one
pub begins_longer : (a b r s : List ℕ) → a ++ r ≡ b ++ s → length b ≤ length a → (y : List ℕ) × (a ≡ b ++ y)
begins_longer a [] r s is long = (a, refl)
begins_longer [] (y ∷ b) r s is long = absurd (omega arith)
begins_longer (x ∷ a) (y ∷ b) r s is long =
    let first : x ≡ y = cc in
    let tails : a ++ r ≡ b ++ s = cc in
    let rest = begins_longer a b r s tails (omega arith) in
    (rest.0, λ i. first i ∷ rest.1 i)

-- the element that stands at a place, with what holds of it
pub there : {A : Type 0} (P : A → Type 0) (xs : List A) (i : ℕ) → i < length xs → HoldsAt P xs i → (before : List A) × (x : A) × (after : List A) × (xs ≡ before ++ x ∷ after) × (length before ≡ i) × P x
there {A} P [] i lt holds = absurd (omega arith)
there {A} P (x ∷ xs) zero lt holds = ([], x, xs, refl, refl, holds x)
there {A} P (x ∷ xs) (suc i) lt holds =
    let rest = there P xs i (omega arith) holds in
    (x ∷ rest.0, rest.1, rest.2, ap (λ (l : List A). x ∷ l) rest.3, ap suc rest.4, rest.5)

-- each pair, by places
pub EachPair-at : {A : Type 0} (R : A → A → Type 0) (xs : List A) → EachPair R xs → (i j : ℕ) (d : A) → i < j → j < length xs → R (get_or xs i d) (get_or xs j d)
unfolding EachPair
EachPair-at R [] pairs i j d lt in' = absurd (omega arith)
EachPair-at R (x ∷ xs) pairs i zero d lt in' = absurd (omega arith)
EachPair-at R (x ∷ xs) pairs zero (suc j) d lt in' = All-from_recursion (R x) xs pairs.0 j d (omega arith)
EachPair-at R (x ∷ xs) pairs (suc i) (suc j) d lt in' = EachPair-at R xs pairs.1 i j d (omega arith) (omega arith)

-- a path that comes before another does not come after it
not_after : (a b : List ℕ) → slice_cmp nat_cmp a b ≡ Less → is_lt (slice_cmp nat_cmp b a) ≡ false
not_after a b less = ap is_lt (nat_list_cmp_total.antisymm b a) ∙ ap (λ (o : Ordering). is_lt (ordering_reverse o)) less

sorted : (files : List PlannedFile) → EachPair Precedes files → IsSortedBy (λ f g. is_lt (slice_cmp nat_cmp f.path g.path)) files
sorted files pairs k d low high =
    let next : Precedes (get_or files k d) (get_or files (k + 1) d) = EachPair-at Precedes files pairs k (k + 1) d (omega arith) high in
    not_after (get_or files k d).path (get_or files (k + 1) d).path next.less

-- what a binary search for a path answers among files in order
pub found_path : (path : List ℕ) (files : List PlannedFile) (at : ℕ) → at < length files → HoldsAt (λ f. slice_cmp nat_cmp f.path path ≡ Equal) files at → HasPath path files at
found_path path files at lt holds =
    let it = there (λ (f : PlannedFile). slice_cmp nat_cmp f.path path ≡ Equal) files at lt holds in
    record { before = it.0; file = it.1; after = it.2; is = it.3; place = it.4; same = exact_bytes it.1.path path it.5 }

unlike : (a b : List ℕ) (o : Ordering) → slice_cmp nat_cmp a b ≡ o → (Equal ≡ o → ⊥) → a ≢ b
unlike a b o is other same = other (sym (tied_itself nat_list_cmp_total b) ∙ ap (λ (l : List ℕ). slice_cmp nat_cmp l b) (sym same) ∙ is)

pub no_path : (path : List ℕ) (files : List PlannedFile) (at : ℕ) → EachPair Precedes files → IsBinarySearchResult (λ f. slice_cmp nat_cmp f.path path) files (Err at) → AllByRecursion (λ f. f.path ≢ path) files
no_path path files at pairs searched =
    let parts = searched (searchable_from_sorted nat_list_cmp_total (λ (f : PlannedFile). f.path) files path (sorted files pairs)) in
    recursion_from_All (λ (f : PlannedFile). f.path ≢ path) files (λ k d lt. elim (cases_lt k at) [
      | inl low ↦ unlike (get_or files k d).path path Less (parts.0 k d (omega arith) low) (λ e. cc)
      | inr high ↦ unlike (get_or files k d).path path Greater (parts.1 k d high lt) (λ e. cc)
    ])

-- the files that are shorter than n bytes lie not above the path
pub record NotYet (path : List ℕ) (n : ℕ) (f : PlannedFile) : Type 0 where
  pub so : length f.path < n → is_ancestor f.path path ≡ false

by_ancestor : (a path : List ℕ) → ((rest : List ℕ) → path ≡ a ++ 47 ∷ rest → ⊥) → is_ancestor a path ≡ false
by_ancestor a path not = elim (is_ancestor a path) as (λ b. is_ancestor a path ≡ b → b ≡ false) [
  | true ↦ λ is. let whole = below_whole a path is in absurd (not whole.0 whole.1)
  | false ↦ λ is. refl
] refl

pub map_all : {A : Type 0} (P Q : A → Type 0) → ((x : A) → P x → Q x) → (xs : List A) → AllByRecursion P xs → AllByRecursion Q xs
map_all P Q step [] all = tt
map_all P Q step (x ∷ xs) all = (step x all.0, map_all P Q step xs all.1)

pub both_all : {A : Type 0} (P Q R : A → Type 0) → ((x : A) → P x → Q x → R x) → (xs : List A) → AllByRecursion P xs → AllByRecursion Q xs → AllByRecursion R xs
both_all P Q R step [] all more = tt
both_all P Q R step (x ∷ xs) all more = (step x all.0 more.0, both_all P Q R step xs all.1 more.1)

pub every : {A : Type 0} (P : A → Type 0) → ((x : A) → P x) → (xs : List A) → AllByRecursion P xs
every P step [] = tt
every P step (x ∷ xs) = (step x, every P step xs)

pub none_yet : (path : List ℕ) (files : List PlannedFile) → AllByRecursion (NotYet path 0) files
none_yet path files = every (NotYet path 0) (λ f. record { so = λ lt. absurd (omega arith) }) files

-- the slash behind a path's beginning
slash_at : (a rest : List ℕ) → slice_index (a ++ 47 ∷ rest) (length a) ≡ 47
slash_at [] rest = refl
slash_at (x ∷ a) rest = slash_at a rest

-- one more byte, which is no slash
pub no_slash : (path : List ℕ) (n : ℕ) (files : List PlannedFile) → slice_index path n ≢ 47 → AllByRecursion (NotYet path n) files → AllByRecursion (NotYet path (n + 1)) files
no_slash path n files other all = map_all (NotYet path n) (NotYet path (n + 1)) (λ f not. record { so = λ lt. more f.path not.so lt }) files all
  where
    at_end : (a : List ℕ) → length a ≡ n → (rest : List ℕ) → path ≡ a ++ 47 ∷ rest → slice_index path n ≡ 47
    at_end a long rest is = ap (λ (l : List ℕ). slice_index l n) is ∙ ap (λ (k : ℕ). slice_index (a ++ 47 ∷ rest) k) (sym long) ∙ slash_at a rest

    more : (a : List ℕ) → (length a < n → is_ancestor a path ≡ false) → length a < n + 1 → is_ancestor a path ≡ false
    more a so lt = elim (cases_lt (length a) n) [
      | inl low ↦ so low
      | inr high ↦ by_ancestor a path (λ rest is. other (at_end a (omega arith) rest is))
    ]

-- one more byte, before which no file's path ends
pub no_file : (path : List ℕ) (n : ℕ) (files : List PlannedFile) → AllByRecursion (λ f. f.path ≢ take n path) files → AllByRecursion (NotYet path n) files → AllByRecursion (NotYet path (n + 1)) files
no_file path n files none all = both_all (λ (f : PlannedFile). f.path ≢ take n path) (NotYet path n) (NotYet path (n + 1)) (λ f other not. record { so = λ lt. more f.path other not.so lt }) files none all
  where
    more : (a : List ℕ) → a ≢ take n path → (length a < n → is_ancestor a path ≡ false) → length a < n + 1 → is_ancestor a path ≡ false
    more a other so lt = elim (cases_lt (length a) n) [
      | inl low ↦ so low
      | inr high ↦ by_ancestor a path (λ rest is. let long : length a ≡ n = omega arith in other (sym (ap (λ (l : List ℕ). take n l) is ∙ take_at a (47 ∷ rest) n long)))
    ]

-- at the end no file is left
pub none_above : (path : List ℕ) (n : ℕ) (files : List PlannedFile) → length path ≤ n → AllByRecursion (NotYet path n) files → AllByRecursion (λ f. is_ancestor f.path path ≡ false) files
none_above path n files whole all = map_all (NotYet path n) (λ f. is_ancestor f.path path ≡ false) (λ f not. at_end f.path not.so) files all
  where
    at_end : (a : List ℕ) → (length a < n → is_ancestor a path ≡ false) → is_ancestor a path ≡ false
    at_end a so = by_ancestor a path (λ rest is. let long = ap length is in let low : length a < n = omega (arith, long, length-append a (47 ∷ rest)) in absurd (false≢true (sym (so low) ∙ (ap (is_ancestor a) is ∙ below_is a rest))))

-- a file whose path is what stands before a slash is the first above
pub first_found : (path : List ℕ) (n : ℕ) (files : List PlannedFile) (at : ℕ) → EachPair Precedes files → n < length path → slice_index path n ≡ 47 → AllByRecursion (NotYet path n) files → HasPath (take n path) files at → FirstAncestor path files at
first_found path n files at pairs in' slash all has =
    let whole : path ≡ has.file.path ++ 47 ∷ drop (n + 1) path = parts path n in' slash ∙ ap (λ (a : List ℕ). a ++ 47 ∷ drop (n + 1) path) (sym has.same) in
    let long : length has.file.path ≡ n = ap length has.same ∙ length-take-le n path (omega arith) in
    record {
      before = has.before;
      file = has.file;
      after = has.after;
      is = has.is;
      place = has.place;
      above = ap (is_ancestor has.file.path) whole ∙ below_is has.file.path (drop (n + 1) path);
      first =
          both_all (λ (f : PlannedFile). Precedes f has.file) (NotYet path n) (λ (f : PlannedFile). is_ancestor f.path path ≡ false)
          (λ f precedes not. by_ancestor f.path path (λ rest is. earlier f.path has.file.path (drop (n + 1) path) rest (omega (arith, long)) whole precedes.less not.so is))
          has.before
          (EachPair-before Precedes has.before has.file has.after (subst (λ (l : List PlannedFile). EachPair Precedes l) has.is pairs))
          (AllByRecursion-front (NotYet path n) has.before (has.file ∷ has.after) (subst (λ (l : List PlannedFile). AllByRecursion (NotYet path n) l) has.is all));
    }
  where
    parts : (l : List ℕ) (k : ℕ) → k < length l → slice_index l k ≡ 47 → l ≡ take k l ++ 47 ∷ drop (k + 1) l
    parts l k lt is = sym (take-append-drop k l) ∙ ap (λ (t : List ℕ). take k l ++ t) (rest l k lt ∙ ap (λ (x : ℕ). x ∷ drop (k + 1) l) is)
      where
        rest : (l : List ℕ) (k : ℕ) → k < length l → drop k l ≡ slice_index l k ∷ drop (k + 1) l
        rest l k lt = rw (add-one, drop-cons l k 0) refl

    -- another path that begins the path and comes before this one is shorter, so it was tried before
    earlier : (a b more rest : List ℕ) → length b ≤ n → path ≡ b ++ 47 ∷ more → slice_cmp nat_cmp a b ≡ Less → (length a < n → is_ancestor a path ≡ false) → path ≡ a ++ 47 ∷ rest → ⊥
    earlier a b more rest short whole less so is = elim (cases_lt (length a) n) [
      | inl low ↦ false≢true (sym (so low) ∙ (ap (is_ancestor a) is ∙ below_is a rest))
      | inr high ↦
          let longer = begins_longer a b (47 ∷ rest) (47 ∷ more) (sym is ∙ whole) (omega arith) in
          not_before b longer.0 (ap (λ (l : List ℕ). slice_cmp nat_cmp l b) (sym longer.1) ∙ less)
    ]
