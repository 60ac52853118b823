-- Files in byte order of their paths: the first that is not fit, and the first clash.
use Rattle.std.proofs.Common.{◌≡◌, ◌≢◌, inl, inr, ℕ, zero, suc, ◌+◌, ◌<◌, ◌≤◌, Bool, true, false, cond, List, [], ◌∷◌, ◌++◌, length, take, drop, get_or, drop-cons, add-one, refl, sym, ◌∙◌, ap, subst, arith, length-append}
use Rattle.std.specs.Prelude.{Err, Option, Some, None, IfSome, IfNone}
use Rattle.std.specs.List.{AllByRecursion, IsLastAndRest}
use Rattle.std.specs.List.Sorted.{IsSortedBy}
use Rattle.std.specs.Ordering.{nat_cmp, is_lt, ordering_reverse}
use Rattle.std.specs.Cmp.{IsStrictWeakOrder}
use Rattle.std.specs.Cmp.Lexicographic.{slice_cmp}
use Rattle.std.specs.declared.cmp.Ordering.{Ordering}
use Rattle.std.specs.declared.cmp.Ordering.TheVariants.{Less, Equal, Greater}
use Rattle.std.proofs.lemmas.Bool.{false≢true}
use Rattle.std.proofs.lemmas.Cmp.{nat_list_cmp_total, tied_itself}
use Rattle.std.proofs.lemmas.List.{take-append-drop, length-take-le, get_or-take, take_more, take_all}
use Rattle.std.proofs.lemmas.List.Elements.{recursion_from_All}
use Rattle.std.proofs.lemmas.List.Sorted.{sorted_far, ranks_by}
use Rattle.std.proofs.lemmas.Map.Lookups.{exact_bytes}
use Rattle.path_text.specs.Path.{is_control_path, is_ancestor}
use Rattle.copy_plan.specs.declared.file.PlannedFile.{PlannedFile}
use Rattle.copy_plan.specs.declared.inventory.BuildError.TheVariants.{Control, TooBig, Clash}
use Rattle.copy_plan.specs.Inventory.{IsPlannable, Precedes, EachPair, size_limit, path_bytes}
use Rattle.copy_plan.specs.Ancestors.{FirstAncestor}
use Rattle.copy_plan.specs.Build.{IsInBounds, IsControl, IsTooBig, IsFit, IsFirstUnfit, IsApart, IsClashAt, IsFirstClashing, IsFirstNot, BuildGives}
use Rattle.copy_plan.proofs.Files.{AllByRecursion-append, AllByRecursion-front, all_one, EachPair-push, EachPair-before, path_bytes-append, path_bytes-one}
use Rattle.copy_plan.proofs.Above.{map_all, both_all}

-- the order of files by their paths
abbrev pub comes_before : PlannedFile → PlannedFile → Bool
comes_before f g = is_lt (slice_cmp nat_cmp f.path g.path)

pub by_paths : IsStrictWeakOrder comes_before
by_paths = ranks_by nat_list_cmp_total (λ (f : PlannedFile). f.path)

-- no path comes before itself
not_itself : (a b : List ℕ) → a ≡ b → slice_cmp nat_cmp a b ≡ Less → ⊥
not_itself a b same less =
    let tied : slice_cmp nat_cmp a b ≡ Equal = ap (λ (l : List ℕ). slice_cmp nat_cmp l b) same ∙ tied_itself nat_list_cmp_total b in
    let e : Equal ≡ Less = sym tied ∙ less in absurd (cc)

-- of two paths that differ the one that comes not later comes before
comes_first : (a b : List ℕ) → is_lt (slice_cmp nat_cmp b a) ≡ false → a ≢ b → slice_cmp nat_cmp a b ≡ Less
comes_first a b not other = elim (slice_cmp nat_cmp a b) as (λ o. slice_cmp nat_cmp a b ≡ o → o ≡ Less) [
  | Less ↦ λ is. refl
  | Equal ↦ λ is. absurd (other (exact_bytes a b is))
  | Greater ↦ λ is. absurd (false≢true (sym not ∙ (ap is_lt (nat_list_cmp_total.antisymm b a) ∙ ap (λ (o : Ordering). is_lt (ordering_reverse o)) is)))
] refl

pub precedes_apart : (f g : PlannedFile) → Precedes f g → IsApart f g
precedes_apart f g precedes (inl same) = not_itself f.path g.path same precedes.less
precedes_apart f g precedes (inr above) = absurd (false≢true (sym precedes.apart ∙ above))

apart_as : (f g h : PlannedFile) → g.path ≡ h.path → IsApart f g → IsApart f h
apart_as f g h same apart (inl e) = apart (inl (e ∙ sym same))
apart_as f g h same apart (inr e) = apart (inr (ap (is_ancestor f.path) same ∙ e))

-- where the last file has the path of the one behind it
pub clash_last : (before front : List PlannedFile) (last file : PlannedFile) → IsLastAndRest before last front → EachPair Precedes before → last.path ≡ file.path → IsFirstClashing before file (length front)
clash_last before front last file rest pairs same = record {
  front = front;
  above = last;
  between = [];
  is = rest.0;
  place = refl;
  clash = inl same;
  least =
      map_all (λ (f : PlannedFile). Precedes f last) (λ (f : PlannedFile). IsApart f file) (λ f precedes. apart_as f last file same (precedes_apart f last precedes)) front
      (EachPair-before Precedes front last [] (subst (λ (l : List PlannedFile). EachPair Precedes l) rest.0 pairs));
}

-- where some file lies above
pub clash_above : (before : List PlannedFile) (file : PlannedFile) (at : ℕ) → EachPair Precedes before → AllByRecursion (λ f. is_lt (slice_cmp nat_cmp file.path f.path) ≡ false) before → FirstAncestor file.path before at → IsFirstClashing before file at
clash_above before file at pairs order found =
    let late : AllByRecursion (λ (f : PlannedFile). is_lt (slice_cmp nat_cmp file.path f.path) ≡ false) (found.before ++ found.file ∷ found.after) = subst (λ (l : List PlannedFile). AllByRecursion (λ (f : PlannedFile). is_lt (slice_cmp nat_cmp file.path f.path) ≡ false) l) found.is order in
    let here = all_one (λ (f : PlannedFile). is_lt (slice_cmp nat_cmp file.path f.path) ≡ false) found.before found.file found.after late in
    record {
      front = found.before;
      above = found.file;
      between = found.after;
      is = found.is;
      place = found.place;
      clash = inr found.above;
      least =
          both_all (λ (f : PlannedFile). Precedes f found.file) (λ (f : PlannedFile). is_ancestor f.path file.path ≡ false) (λ (f : PlannedFile). IsApart f file)
          (λ f precedes other. apart f found.file here precedes other) found.before
          (EachPair-before Precedes found.before found.file found.after (subst (λ (l : List PlannedFile). EachPair Precedes l) found.is pairs)) found.first;
    }
  where
    apart : (f above : PlannedFile) → is_lt (slice_cmp nat_cmp file.path above.path) ≡ false → Precedes f above → is_ancestor f.path file.path ≡ false → IsApart f file
    apart f above late precedes other (inl same) = false≢true (sym late ∙ ap is_lt (ap (λ (l : List ℕ). slice_cmp nat_cmp l above.path) (sym same) ∙ precedes.less))
    apart f above late precedes other (inr is) = absurd (false≢true (sym other ∙ is))

-- where neither is so
pub clash_none : (before front : List PlannedFile) (last file : PlannedFile) → IsLastAndRest before last front → EachPair Precedes before → AllByRecursion (λ f. is_lt (slice_cmp nat_cmp file.path f.path) ≡ false) before → last.path ≢ file.path → AllByRecursion (λ f. is_ancestor f.path file.path ≡ false) before → AllByRecursion (λ f. Precedes f file) before
clash_none before front last file rest pairs order other none = subst (λ (l : List PlannedFile). AllByRecursion (λ (f : PlannedFile). Precedes f file) l) (sym rest.0) (AllByRecursion-append (λ (f : PlannedFile). Precedes f file) front (last ∷ []) fronts (ends, tt))
  where
    late : AllByRecursion (λ (f : PlannedFile). is_lt (slice_cmp nat_cmp file.path f.path) ≡ false) (front ++ last ∷ [])
    late = subst (λ (l : List PlannedFile). AllByRecursion (λ (f : PlannedFile). is_lt (slice_cmp nat_cmp file.path f.path) ≡ false) l) rest.0 order

    apart : AllByRecursion (λ (f : PlannedFile). is_ancestor f.path file.path ≡ false) (front ++ last ∷ [])
    apart = subst (λ (l : List PlannedFile). AllByRecursion (λ (f : PlannedFile). is_ancestor f.path file.path ≡ false) l) rest.0 none

    less : slice_cmp nat_cmp last.path file.path ≡ Less
    less = comes_first last.path file.path (all_one (λ (f : PlannedFile). is_lt (slice_cmp nat_cmp file.path f.path) ≡ false) front last [] late) other

    ends : Precedes last file
    ends = record { less = less; apart = all_one (λ (f : PlannedFile). is_ancestor f.path file.path ≡ false) front last [] apart }

    fronts : AllByRecursion (λ (f : PlannedFile). Precedes f file) front
    fronts =
        both_all (λ (f : PlannedFile). Precedes f last) (λ (f : PlannedFile). is_ancestor f.path file.path ≡ false) (λ (f : PlannedFile). Precedes f file)
        (λ f precedes no. record { less = nat_list_cmp_total.trans f.path last.path file.path precedes.less less; apart = no }) front
        (EachPair-before Precedes front last [] (subst (λ (l : List PlannedFile). EachPair Precedes l) rest.0 pairs))
        (AllByRecursion-front (λ (f : PlannedFile). is_ancestor f.path file.path ≡ false) front (last ∷ []) apart)

-- what the search for a file above answers, where the last file has another path
pub clash_found : (before : List PlannedFile) (file : PlannedFile) (r : Option ℕ) → EachPair Precedes before → AllByRecursion (λ f. is_lt (slice_cmp nat_cmp file.path f.path) ≡ false) before → IfSome r (λ at. FirstAncestor file.path before at) → IfSome r (λ at. IsFirstClashing before file at)
clash_found before file None pairs order found = tt
clash_found before file (Some at) pairs order found = clash_above before file at pairs order found

pub clash_lacks : (before front : List PlannedFile) (last file : PlannedFile) (r : Option ℕ) → IsLastAndRest before last front → EachPair Precedes before → AllByRecursion (λ f. is_lt (slice_cmp nat_cmp file.path f.path) ≡ false) before → last.path ≢ file.path → IfNone r (AllByRecursion (λ f. is_ancestor f.path file.path ≡ false) before) → IfNone r (AllByRecursion (λ f. Precedes f file) before)
clash_lacks before front last file None rest pairs order other none = clash_none before front last file rest pairs order other none
clash_lacks before front last file (Some at) rest pairs order other none = tt

-- the parts of a list before, at and behind a place
pub parts_at : {A : Type 0} (xs : List A) (k : ℕ) (x : A) → k < length xs → x ≡ get_or xs k x → xs ≡ take k xs ++ x ∷ drop (k + 1) xs
parts_at {A} xs k x lt is = sym (take-append-drop k xs) ∙ ap (λ (t : List A). take k xs ++ t) (rest xs k x lt ∙ ap (λ (y : A). y ∷ drop (k + 1) xs) (sym is))
  where
    rest : (l : List A) (k : ℕ) (d : A) → k < length l → drop k l ≡ get_or l k d ∷ drop (k + 1) l
    rest l k d lt = rw (add-one, drop-cons l k d) refl

-- an element that is there does not hang on the default
pub same_read : {A : Type 0} (xs : List A) (k : ℕ) (x d : A) → k < length xs → x ≡ get_or xs k x → get_or xs k d ≡ x
same_read {A} [] k x d lt is = absurd (omega arith)
same_read {A} (y ∷ xs) zero x d lt is = sym is
same_read {A} (y ∷ xs) (suc k) x d lt is = same_read xs k x d (omega arith) is

-- the element between two lists
pub read_between : {A : Type 0} (before : List A) (x : A) (after : List A) (k : ℕ) (d : A) → length before ≡ k → get_or (before ++ x ∷ after) k d ≡ x
read_between {A} [] x after zero d long = refl
read_between {A} [] x after (suc k) d long = absurd (omega arith)
read_between {A} (y ∷ before) x after zero d long = absurd (omega arith)
read_between {A} (y ∷ before) x after (suc k) d long = read_between before x after k d (omega arith)

pub order_before : (files : List PlannedFile) (at : ℕ) (file : PlannedFile) → IsSortedBy comes_before files → at < length files → file ≡ get_or files at file → AllByRecursion (λ f. is_lt (slice_cmp nat_cmp file.path f.path) ≡ false) (take at files)
order_before files at file sorted lt is = recursion_from_All (λ (f : PlannedFile). is_lt (slice_cmp nat_cmp file.path f.path) ≡ false) (take at files) (λ k d in'. one k d (let e = length-take-le at files (omega arith) in omega (arith, e, in')))
  where
    one : (k : ℕ) (d : PlannedFile) → k < at → is_lt (slice_cmp nat_cmp file.path (get_or (take at files) k d).path) ≡ false
    one k d low =
        let far : comes_before (get_or files at d) (get_or files k d) ≡ false = sorted_far comes_before by_paths files sorted k at d (omega arith) lt in
        subst (λ (f : PlannedFile). comes_before file f ≡ false) (sym (get_or-take at files k d low))
        (subst (λ (f : PlannedFile). comes_before f (get_or files k d) ≡ false) (same_read files at file d lt is) far)

EachPair-map : {A : Type 0} (R S : A → A → Type 0) → ((x y : A) → R x y → S x y) → (xs : List A) → EachPair R xs → EachPair S xs
unfolding EachPair
EachPair-map R S step [] pairs = tt
EachPair-map R S step (x ∷ xs) pairs = (map_all (R x) (S x) (step x) xs pairs.0, EachPair-map R S step xs pairs.1)

pub clash_at : (files : List PlannedFile) (at above : ℕ) (file : PlannedFile) → at < length files → file ≡ get_or files at file → EachPair Precedes (take at files) → IsFirstClashing (take at files) file above → IsClashAt files above at
clash_at files at above file lt is pairs found = record {
  front = found.front;
  above = found.above;
  between = found.between;
  below = file;
  after = drop (at + 1) files;
  found = record {
    is = parts_at files at file lt is ∙ ap (λ (l : List PlannedFile). l ++ file ∷ drop (at + 1) files) found.is;
    clash = found.clash;
    before = subst (λ (l : List PlannedFile). EachPair IsApart l) found.is (EachPair-map Precedes IsApart precedes_apart (take at files) pairs);
    least = found.least;
  };
  first_at = found.place;
  second_at = sym (ap length found.is) ∙ length-take-le at files (omega arith);
}

pub one_more : (files : List PlannedFile) (at : ℕ) (file : PlannedFile) → at < length files → file ≡ get_or files at file → take (at + 1) files ≡ take at files ++ file ∷ []
one_more files at file lt is = take_more files at file lt ∙ ap (λ (f : PlannedFile). take at files ++ f ∷ []) (sym is)

pub pairs_more : (files : List PlannedFile) (at : ℕ) (file : PlannedFile) → at < length files → file ≡ get_or files at file → EachPair Precedes (take at files) → AllByRecursion (λ f. Precedes f file) (take at files) → EachPair Precedes (take (at + 1) files)
pairs_more files at file lt is pairs all = subst (λ (l : List PlannedFile). EachPair Precedes l) (sym (one_more files at file lt is)) (EachPair-push Precedes (take at files) file pairs all)

pub pairs_none : (files : List PlannedFile) → EachPair Precedes (take 0 files)
unfolding EachPair
pairs_none files = tt

pub pairs_all : (files : List PlannedFile) (at : ℕ) → length files ≤ at → EachPair Precedes (take at files) → EachPair Precedes files
pairs_all files at whole pairs = subst (λ (l : List PlannedFile). EachPair Precedes l) (take_all at files whole) pairs

-- the same for a rule that each file keeps by itself
pub all_more : (P : PlannedFile → Type 0) (files : List PlannedFile) (at : ℕ) (file : PlannedFile) → at < length files → file ≡ get_or files at file → AllByRecursion P (take at files) → P file → AllByRecursion P (take (at + 1) files)
all_more P files at file lt is all here = subst (λ (l : List PlannedFile). AllByRecursion P l) (sym (one_more files at file lt is)) (AllByRecursion-append P (take at files) (file ∷ []) all (here, tt))

pub all_whole : (P : PlannedFile → Type 0) (files : List PlannedFile) (at : ℕ) → length files ≤ at → AllByRecursion P (take at files) → AllByRecursion P files
all_whole P files at whole all = subst (λ (l : List PlannedFile). AllByRecursion P l) (take_all at files whole) all

pub first_not : (P Q : PlannedFile → Type 0) → ((f : PlannedFile) → Q f → P f) → (files : List PlannedFile) (at : ℕ) (file : PlannedFile) → at < length files → file ≡ get_or files at file → AllByRecursion Q (take at files) → (P file → ⊥) → IsFirstNot P files at
first_not P Q weaker files at file lt is all fails = record {
  before = take at files;
  item = file;
  after = drop (at + 1) files;
  is = parts_at files at file lt is;
  place = length-take-le at files (omega arith);
  pass = map_all Q P weaker (take at files) all;
  fails = fails;
}

pub plannable_fit : (f : PlannedFile) → IsPlannable f → IsFit f
plannable_fit f plannable = record { own = plannable.own; small = plannable.small }

-- the bytes of the paths of one file more
pub bytes_more : (files : List PlannedFile) (at : ℕ) (file : PlannedFile) (sum : ℕ) → at < length files → file ≡ get_or files at file → sum ≡ path_bytes (take at files) → sum + length file.path ≡ path_bytes (take (at + 1) files)
bytes_more files at file sum lt is so =
    let whole = ap path_bytes (one_more files at file lt is) ∙ path_bytes-append (take at files) (file ∷ []) in
    let one = path_bytes-one file in
    omega (arith, whole, one, so)

pub bytes_none : (files : List PlannedFile) → 0 ≡ path_bytes (take 0 files)
unfolding path_bytes
bytes_none files = refl

-- what the place of the first unfit file tells
pub unfit_gives : (arranged : List PlannedFile) (at : ℕ) (path : List ℕ) → IsInBounds arranged → IsFirstNot IsFit arranged at → ((f : PlannedFile) → path ≡ (get_or arranged at f).path) → BuildGives arranged (Err (cond (is_control_path path) (Control path) (TooBig path)))
unfit_gives arranged at path bounds found reads = elim (is_control_path path) as (λ b. is_control_path path ≡ b → BuildGives arranged (Err (cond b (Control path) (TooBig path)))) [
  | true ↦ λ is. (bounds, unfit IsControl (ap is_control_path named ∙ is))
  | false ↦ λ is. (bounds, unfit IsTooBig (big (ap is_control_path named ∙ is)))
] refl
  where
    named : found.item.path ≡ path
    named = sym (reads found.item ∙ ap (λ (f : PlannedFile). f.path) (ap (λ (l : List PlannedFile). get_or l at found.item) found.is ∙ read_between found.before found.item found.after at found.item found.place))

    unfit : (fault : PlannedFile → Type 0) → fault found.item → IsFirstUnfit fault arranged path
    unfit fault faulty = record { before = found.before; file = found.item; after = found.after; is = found.is; fit = found.pass; faulty = faulty; named = named }

    big : is_control_path found.item.path ≡ false → IsTooBig found.item
    big own = record { own = own; big = not_small (λ small. found.fails (record { own = own; small = small })) }
      where
        not_small : (found.item.size < size_limit → ⊥) → size_limit ≤ found.item.size
        not_small not = omega (arith, not)

-- what the places of the first clash tell
pub clash_gives : (arranged : List PlannedFile) (i j : ℕ) (first second : List ℕ) → IsInBounds arranged → AllByRecursion IsPlannable arranged → IsClashAt arranged i j → ((f : PlannedFile) → first ≡ (get_or arranged i f).path) → ((f : PlannedFile) → second ≡ (get_or arranged j f).path) → BuildGives arranged (Err (Clash first second))
clash_gives arranged i j first second bounds all at reads_first reads_second = (
  bounds,
  map_all IsPlannable IsFit plannable_fit arranged all,
  record { front = at.front; above = at.above; between = at.between; below = at.below; after = at.after; found = at.found; first_is = first_is; second_is = second_is },
)
  where
    second_is : at.below.path ≡ second
    second_is = sym (reads_second at.below ∙ ap (λ (f : PlannedFile). f.path) (ap (λ (l : List PlannedFile). get_or l j at.below) at.found.is ∙ read_between (at.front ++ at.above ∷ at.between) at.below at.after j at.below at.second_at))

    regroup : (a b c : List PlannedFile) (x : PlannedFile) → (a ++ x ∷ b) ++ c ≡ a ++ x ∷ (b ++ c)
    regroup [] b c x = refl
    regroup (y ∷ a) b c x = ap (λ (l : List PlannedFile). y ∷ l) (regroup a b c x)

    first_is : at.above.path ≡ first
    first_is = sym (reads_first at.above ∙ ap (λ (f : PlannedFile). f.path) (ap (λ (l : List PlannedFile). get_or l i at.above) (at.found.is ∙ regroup at.front at.between (at.below ∷ at.after) at.above) ∙ read_between at.front at.above (at.between ++ at.below ∷ at.after) i at.above at.first_at))

pub clash_order : (files : List PlannedFile) (i j : ℕ) → IsClashAt files i j → i < j
clash_order files i j at =
    let whole = length-append at.front (at.above ∷ at.between) in
    let first = at.first_at in
    let second = at.second_at in
    omega (arith, whole, first, second)
