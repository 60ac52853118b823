-- Paths above and below a path.
use Rattle.std.proofs.Common.{◌≡◌, ◌≢◌, ◌⊎◌, inl, inr, ℕ, zero, suc, ◌<◌, ◌≤◌, Bool, true, false, List, [], ◌∷◌, ◌++◌, length, take, drop, refl, sym, ◌∙◌, ap, arith}
use Rattle.std.specs.Prelude.{◌&&◌, nat_eq, Option, Some, None, option_map, Result, Ok, Err, IfOk, Decides, cond, is_some, String, string_bytes, string_cmp}
use Rattle.std.specs.Global.{Global}
use Rattle.std.specs.List.{starts_with}
use Rattle.std.specs.Map.{lookup}
use Rattle.std.specs.FinMap.{get}
use Rattle.std.specs.BTreeMap.{is_at, get_by_text}
use Rattle.std.specs.BTreeMap.Range.{IsRangeOf}
use Rattle.std.specs.declared.ops.Bound.TheVariants.{Included, Unbounded}
use Rattle.std.specs.Ordering.{nat_cmp, is_gt, is_eq, ordering_then}
use Rattle.std.specs.Cmp.Lexicographic.{slice_cmp, same_text}
use Rattle.std.specs.declared.cmp.Ordering.{Ordering}
use Rattle.std.specs.declared.cmp.Ordering.TheVariants.{Less, Equal, Greater}
use Rattle.std.proofs.lemmas.Bool.{false≢true}
use Rattle.std.proofs.lemmas.Bool.Decides.{nat_tests}
use Rattle.std.proofs.lemmas.Cmp.{nat_cmp_total, tied_itself}
use Rattle.std.proofs.lemmas.Grind.{common_steps}
use Rattle.std.proofs.lemmas.Map.Text.{is_eq-slice_cmp}
use Rattle.path_text.specs.Path.{is_ancestor}
use Rattle.folder_listing.specs.declared.folder.Seen.{Seen}
use Rattle.folder_listing.specs.Listing.{Contents, sizes_in, IsCrossed, IsTaken}
use Rattle.folder_listing.specs.Tree.{Tree, contents_of, HasAbove}
use Rattle.folder_listing.proofs.Trees.{size_of, get-kept}

both : (a b : Bool) → (a && b) ≡ true → (a ≡ true) × (b ≡ true)
both true b is = (refl, is)
both false b is = absurd (false≢true is)

and : (a b : Bool) → a ≡ true → b ≡ true → (a && b) ≡ true
and true b x y = y
and false b x y = x

same : (x y : ℕ) → nat_eq x y ≡ true → x ≡ y
same x y is = grind (arith, nat_tests)

itself : (x : ℕ) → nat_eq x x ≡ true
itself x = grind (arith, nat_tests)

slash : (y : ℕ) → y ≡ 47 → (nat_eq 47 y && true) ≡ true
slash y is = and (nat_eq 47 y) true (ap (nat_eq 47) is ∙ itself 47) refl

-- below a path stands a slash where the path ends
slash_past : (q s : List ℕ) → is_ancestor q s ≡ true → (length q ≤ length s) × (rest : List ℕ) × (drop (length q) s ≡ 47 ∷ rest)
slash_past [] [] is = absurd (false≢true is)
slash_past [] (y ∷ ys) is = (omega arith, ys, (let e : y ≡ 47 = sym (same 47 y (both (nat_eq 47 y) true is).0) in ap (λ (b : ℕ). b ∷ ys) e))
slash_past (x ∷ xs) [] is = absurd (false≢true is)
slash_past (x ∷ xs) (y ∷ ys) is =
    let rest = slash_past xs ys (both (nat_eq x y) (is_ancestor xs ys) is).1 in
    (omega arith, rest.1, rest.2)

-- what stands before a slash lies above the whole
pub above_cut : (s : List ℕ) (i : ℕ) (back : List ℕ) → drop i s ≡ 47 ∷ back → is_ancestor (take i s) s ≡ true
above_cut [] zero back is = absurd (cc)
above_cut [] (suc i) back is = absurd (cc)
above_cut (y ∷ ys) zero back is = slash y (cc)
above_cut (y ∷ ys) (suc i) back is = and (nat_eq y y) (is_ancestor (take i ys) ys) (itself y) (above_cut ys i back is)

-- what lies above a beginning lies above the whole
pub above_whole : (q s : List ℕ) (i : ℕ) → is_ancestor q (take i s) ≡ true → is_ancestor q s ≡ true
above_whole [] s zero is = absurd (false≢true is)
above_whole (x ∷ xs) s zero is = absurd (false≢true is)
above_whole q [] (suc i) is = is
above_whole [] (y ∷ ys) (suc i) is = is
above_whole (x ∷ xs) (y ∷ ys) (suc i) is =
    let parts = both (nat_eq x y) (is_ancestor xs (take i ys)) is in
    and (nat_eq x y) (is_ancestor xs ys) parts.0 (above_whole xs ys i parts.1)

-- from this place on there is no slash
abbrev NoSlashPast : ℕ → List ℕ → Type 0
NoSlashPast i s = (k : ℕ) → i < k → k ≤ length s → (rest : List ℕ) → drop k s ≢ 47 ∷ rest

-- what lies above a path is what stands before its last slash, or lies above that
pub above_last : (q s : List ℕ) (i : ℕ) (back : List ℕ) → drop i s ≡ 47 ∷ back → NoSlashPast i s → is_ancestor q s ≡ true → (q ≡ take i s) ⊎ (is_ancestor q (take i s) ≡ true)
above_last q [] zero back at last is = absurd (cc)
above_last q [] (suc i) back at last is = absurd (cc)
above_last [] (y ∷ ys) zero back at last is = inl refl
above_last [] (y ∷ ys) (suc i) back at last is = inr is
above_last (x ∷ xs) (y ∷ ys) zero back at last is =
    let rest = slash_past (x ∷ xs) (y ∷ ys) is in
    absurd (last (suc (length xs)) (omega arith) rest.0 rest.1 rest.2)
above_last (x ∷ xs) (y ∷ ys) (suc i) back at last is =
    let parts = both (nat_eq x y) (is_ancestor xs ys) is in
    step parts.0 (above_last xs ys i back at (λ k past within. last (suc k) (omega arith) (omega arith)) parts.1)
  where
    step : nat_eq x y ≡ true → (xs ≡ take i ys) ⊎ (is_ancestor xs (take i ys) ≡ true) → ((x ∷ xs) ≡ (y ∷ take i ys)) ⊎ ((nat_eq x y && is_ancestor xs (take i ys)) ≡ true)
    step first (inl e) = inl (λ j. same x y first j ∷ e j)
    step first (inr e) = inr (and (nat_eq x y) (is_ancestor xs (take i ys)) first e)

-- where there is no slash, nothing lies above
pub above_none : (q s : List ℕ) → ((i : ℕ) → i ≤ length s → (rest : List ℕ) → drop i s ≢ 47 ∷ rest) → is_ancestor q s ≡ true → ⊥
above_none q s none is =
    let rest = slash_past q s is in
    none (length q) rest.0 rest.1 rest.2

-- what is left of a path has above it what the path has above it of the files, and nothing else
pub record LeavesAbove (tree : Tree) (path rest : List ℕ) : Type 0 where
  pub within : (q : List ℕ) → is_ancestor q rest ≡ true → is_ancestor q path ≡ true
  pub whole : (q : List ℕ) → is_some (get_by_text tree q) ≡ true → is_ancestor q path ≡ true → is_ancestor q rest ≡ true

pub leaves_first : (tree : Tree) (path : List ℕ) → LeavesAbove tree path path
leaves_first tree path = record { within = λ q is. is; whole = λ q there is. is }

pub leaves_next : (tree : Tree) (path rest : List ℕ) (i : ℕ) (back : List ℕ) → LeavesAbove tree path rest → drop i rest ≡ 47 ∷ back → NoSlashPast i rest
    → is_some (get_by_text tree (take i rest)) ≡ false → LeavesAbove tree path (take i rest)
leaves_next tree path rest i back was at last absent = record {
  within = λ q is. was.within q (above_whole q rest i is);
  whole = λ q there is. step q there (above_last q rest i back at last (was.whole q there is));
}
  where
    step : (q : List ℕ) → is_some (get_by_text tree q) ≡ true → (q ≡ take i rest) ⊎ (is_ancestor q (take i rest) ≡ true) → is_ancestor q (take i rest) ≡ true
    step q there (inl e) = absurd (false≢true (sym absent ∙ ap (λ (p : List ℕ). is_some (get_by_text tree p)) (sym e) ∙ there))
    step q there (inr e) = e

pub found_above : (tree : Tree) (path rest : List ℕ) (i : ℕ) (back : List ℕ) → LeavesAbove tree path rest → drop i rest ≡ 47 ∷ back → is_some (get_by_text tree (take i rest)) ≡ true → HasAbove tree path
found_above tree path rest i back was at there = (take i rest, there, was.within (take i rest) (above_cut rest i back at))

pub none_above : (tree : Tree) (path rest : List ℕ) → LeavesAbove tree path rest → ((i : ℕ) → i ≤ length rest → (back : List ℕ) → drop i rest ≢ 47 ∷ back) → HasAbove tree path → ⊥
none_above tree path rest was none has = above_none has.0 rest none (was.whole has.0 has.1 has.2)

-- ---- below a path

-- a file of the tree lies below the path
abbrev pub HasBelow : Tree → List ℕ → Type 0
HasBelow tree path = (name : List ℕ) × (is_some (get_by_text tree name) ≡ true) × (is_ancestor path name ≡ true)

no_greater : (x y : ℕ) (o : Ordering) → is_gt (ordering_then (nat_cmp x y) o) ≡ false → x ≤ y
no_greater x y o is = elim (nat_cmp x y) as (λ r. nat_cmp x y ≡ r → is_gt (ordering_then r o) ≡ false → x ≤ y) [
  | Less ↦ λ e no. grind (arith, common_steps)
  | Equal ↦ λ e no. grind (arith, common_steps)
  | Greater ↦ λ e no. absurd (false≢true (sym no))
] refl is

rest_of : (x y : ℕ) (o : Ordering) → x ≡ y → is_gt (ordering_then (nat_cmp x y) o) ≡ false → is_gt o ≡ false
rest_of x y o e is = sym (ap (λ (r : Ordering). is_gt (ordering_then r o)) (ap (nat_cmp x) (sym e) ∙ tied_itself nat_cmp_total x)) ∙ is

-- what stands in byte order from a beginning up to a list that begins with it begins with it too
pub begins_between : (p e q : List ℕ) → is_gt (slice_cmp nat_cmp p e) ≡ false → is_gt (slice_cmp nat_cmp e q) ≡ false → starts_with nat_eq q p ≡ true → starts_with nat_eq e p ≡ true
begins_between [] e q from to is = refl
begins_between (x ∷ p) [] q from to is = absurd (false≢true (sym from))
begins_between (x ∷ p) (y ∷ e) [] from to is = absurd (false≢true is)
begins_between (x ∷ p) (y ∷ e) (z ∷ q) from to is =
    let parts = both (nat_eq x z) (starts_with nat_eq q p) is in
    let first : x ≡ z = same x z parts.0 in
    let upward : x ≤ y = no_greater x y (slice_cmp nat_cmp p e) from in
    let downward : y ≤ z = no_greater y z (slice_cmp nat_cmp e q) to in
    let middle : x ≡ y = omega arith in
    let last : y ≡ z = omega arith in
    and (nat_eq x y) (starts_with nat_eq e p) (ap (nat_eq x) (sym middle) ∙ itself x)
    (begins_between p e q (rest_of x y (slice_cmp nat_cmp p e) middle from) (rest_of y z (slice_cmp nat_cmp e q) last to) parts.1)

-- the key of a file of the tree
pub key_of : (es : List (String Global × Seen)) (q : List ℕ) → is_some (lookup (is_at (λ k. slice_cmp nat_cmp q (string_bytes k))) es) ≡ true → (k : String Global) × (string_bytes k ≡ q)
key_of [] q is = absurd (false≢true is)
key_of (e ∷ es) q is = step (is_eq (slice_cmp nat_cmp q (string_bytes e.0))) refl is (key_of es q)
  where
    step : (b : Bool) → is_eq (slice_cmp nat_cmp q (string_bytes e.0)) ≡ b → is_some (cond b (Some e.1) (lookup (is_at (λ k. slice_cmp nat_cmp q (string_bytes k))) es)) ≡ true
        → (is_some (lookup (is_at (λ k. slice_cmp nat_cmp q (string_bytes k))) es) ≡ true → (k : String Global) × (string_bytes k ≡ q)) → (k : String Global) × (string_bytes k ≡ q)
    step true found there later = (e.0, sym (same_text q (string_bytes e.0) (sym (sym (is_eq-slice_cmp q (string_bytes e.0)) ∙ found))))
    step false other there later = later there

-- a list does not come after one that begins with it
not_after : (p q : List ℕ) → starts_with nat_eq q p ≡ true → is_gt (slice_cmp nat_cmp p q) ≡ false
not_after [] [] is = refl
not_after [] (z ∷ q) is = refl
not_after (x ∷ p) [] is = absurd (false≢true is)
not_after (x ∷ p) (z ∷ q) is =
    let parts = both (nat_eq x z) (starts_with nat_eq q p) is in
    ap (λ (r : Ordering). is_gt (ordering_then r (slice_cmp nat_cmp p q))) (ap (nat_cmp x) (sym (same x z parts.0)) ∙ tied_itself nat_cmp_total x) ∙ not_after p q parts.1

-- the files of a tree from the path and a slash on
module _ (m : Tree) (path : List ℕ) (start : String Global) (is : string_bytes start ≡ path ++ 47 ∷ []) where
  from_start : (k : String Global) (q : List ℕ) → string_bytes k ≡ q → is_ancestor path q ≡ true → is_gt (string_cmp start k) ≡ false
  from_start k q same_bytes below =
      not_after (string_bytes start) (string_bytes k) (ap (λ (p : List ℕ). starts_with nat_eq (string_bytes k) p) is ∙ ap (is_ancestor path) same_bytes ∙ below)

  at_key : (k : String Global) (q : List ℕ) → string_bytes k ≡ q → is_some (get_by_text m q) ≡ true → is_some (get_by_text m (string_bytes k)) ≡ true
  at_key k q same_bytes there = ap (λ (p : List ℕ). is_some (get_by_text m p)) same_bytes ∙ there

  -- where there are none, nothing lies below the path
  pub none_from : (r : List (String Global × Seen)) → r ≡ [] → IsRangeOf string_cmp (Included start) Unbounded m r → Decides false (HasBelow m path)
  none_from r none range = (
    λ no. absurd (false≢true no),
    λ has. (let key = key_of m.entries has.0 has.1 in
        sym (ap (λ (o : Option Seen). is_some o) (range.5 none key.0 (from_start key.0 has.0 key.1 has.2, tt))) ∙ at_key key.0 has.0 key.1 has.1),
  )

  -- and else the first of them tells
  pub first_from : (e : String Global × Seen) (rest : List (String Global × Seen)) → IsRangeOf string_cmp (Included start) Unbounded m (e ∷ rest) → Decides (starts_with nat_eq (string_bytes e.0) (string_bytes start)) (HasBelow m path)
  first_from e rest range = (
    λ begins. (string_bytes e.0, ap (λ (o : Option Seen). is_some o) range.1.1, ap (λ (p : List ℕ). starts_with nat_eq (string_bytes e.0) p) (sym is) ∙ begins),
    λ has. (let key = key_of m.entries has.0 has.1 in
        begins_between (string_bytes start) (string_bytes e.0) (string_bytes key.0) range.1.0.0 (range.2 key.0 (from_start key.0 has.0 key.1 has.2, tt) (at_key key.0 has.0 key.1 has.1))
        (ap (λ (p : List ℕ). starts_with nat_eq (string_bytes key.0) p) is ∙ ap (is_ancestor path) key.1 ∙ has.2)),
  )

-- ---- what the methods answer

some_size : (o : Option Seen) → is_some (option_map size_of o) ≡ is_some o
some_size None = refl
some_size (Some f) = refl

listed_in : (m : Tree) (q : List ℕ) → is_some (get (sizes_in (contents_of m)) q) ≡ is_some (get_by_text m q)
listed_in m q = ap (λ (o : Option ℕ). is_some o) (get-kept size_of m q) ∙ some_size (get_by_text m q)

module _ (m : Tree) (c : Contents) (path : List ℕ) (is : contents_of m ≡ c) where
  listed_seen : (q : List ℕ) → is_some (get (sizes_in c) q) ≡ is_some (get_by_text m q)
  listed_seen q = ap (λ (d : Contents). is_some (get (sizes_in d) q)) (sym is) ∙ listed_in m q

  pub crossed_above : HasAbove m path → IsCrossed (get (sizes_in c)) path
  crossed_above has = (has.0, listed_seen has.0 ∙ has.1, inl has.2)

  crossed_below : HasBelow m path → IsCrossed (get (sizes_in c)) path
  crossed_below has = (has.0, listed_seen has.0 ∙ has.1, inr has.2)

  only_below : (HasAbove m path → ⊥) → IsCrossed (get (sizes_in c)) path → HasBelow m path
  only_below none (name, there, inl above) = absurd (none (name, sym (listed_seen name) ∙ there, above))
  only_below none (name, there, inr below) = (name, sym (listed_seen name) ∙ there, below)

  -- where nothing lies above, what lies below decides
  pub crossed_decided : (b : Bool) → (HasAbove m path → ⊥) → Decides b (HasBelow m path) → Decides b (IsCrossed (get (sizes_in c)) path)
  crossed_decided b none below = (λ yes. crossed_below (below.0 yes), λ crossed. below.1 (only_below none crossed))

module _ (size : List ℕ → Option ℕ) (path : List ℕ) where
  pub taken_there : is_some (size path) ≡ true → IsTaken size path
  taken_there there = (path, there, inl refl)

  taken_crossed : IsCrossed size path → IsTaken size path
  taken_crossed (name, there, where_it_is) = (name, there, inr where_it_is)

  only_crossed : is_some (size path) ≡ false → IsTaken size path → IsCrossed size path
  only_crossed absent (name, there, inl at) = absurd (false≢true (sym absent ∙ ap (λ (q : List ℕ). is_some (size q)) (sym at) ∙ there))
  only_crossed absent (name, there, inr where_it_is) = (name, there, where_it_is)

  pub taken_decided : {E : Type 0} (r : Result Bool E) → is_some (size path) ≡ false → IfOk r (λ b. Decides b (IsCrossed size path)) → IfOk r (λ b. Decides b (IsTaken size path))
  taken_decided (Ok b) absent crossed = (λ yes. taken_crossed (crossed.0 yes), λ taken. crossed.1 (only_crossed absent taken))
  taken_decided (Err e) absent crossed = tt
