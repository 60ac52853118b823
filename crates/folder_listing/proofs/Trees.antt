-- A tree of files as finite maps.
use Rattle.std.proofs.Common.{◌≡◌, ℕ, Bool, true, false, cond, not, List, [], ◌∷◌, ◌++◌, map, refl, sym, ◌∙◌, ap, subst}
use Rattle.std.proofs.Math.Bool.{or-false}
use Rattle.std.specs.Prelude.{T, ◌&&◌, ◌||◌, Option, Some, None, option_map, is_some, unwrap_or, String, string_bytes, string_cmp, bytes_eq}
use Rattle.std.specs.Option.{option_or}
use Rattle.std.specs.Global.{Global}
use Rattle.std.specs.List.{filter, AllByRecursion}
use Rattle.std.specs.List.Sorted.{IsStrictlySortedBy}
use Rattle.std.specs.FinMap.{FinMap, entries, keys, from_sorted, get-from_sorted, entries-from_sorted, is_sorted, find, get, from_entries, get-from_entries, same_map, slice_cmp-IsAntisymmetric, nat_cmp-IsAntisymmetric}
use Rattle.std.specs.FinMap.Entries.{below_all}
use Rattle.std.specs.declared.cmp.Ordering.TheVariants.{Less}
use Rattle.std.specs.Ordering.{nat_cmp, is_eq, is_lt, eq_by_cmp}
use Rattle.std.specs.Cmp.{eq_by_cmp_equiv}
use Rattle.std.specs.Cmp.Lexicographic.{slice_cmp, nat_list_cmp_total}
use Rattle.std.specs.BTreeMap.{get_by_text, is_at, UpdatesBy, IsOrdered}
use Rattle.std.specs.Map.{lookup, keys_of}
use Rattle.std.proofs.lemmas.Map.Text.{btree_map_updates_text, is_eq-slice_cmp}
use Rattle.bay_core.specs.declared.event.FileInfo.{FileInfo}
use Rattle.bay_core.specs.Map.{sizes}
use Rattle.folder_listing.specs.declared.folder.Seen.{Seen}
use Rattle.folder_listing.specs.Listing.{listing, Contents, sizes_in, is_marked, is_there, Marks}
use Rattle.folder_listing.specs.Tree.{Tree, kept, contents_of, fresh, Notes}
use Rattle.folder_listing.proofs.Texts.{bytes_eq-flip, along}

abbrev Entry : Type 0
Entry = String Global × Seen

abbrev pub name_of : Entry → List ℕ
name_of e = string_bytes e.0

abbrev pub size_of : Seen → ℕ
size_of f = f.size

abbrev pub mark_of : Seen → Bool
mark_of f = f.marked

abbrev R : List ℕ → List ℕ → Rattle.std.specs.declared.cmp.Ordering.Ordering
R = slice_cmp nat_cmp

-- maps that give the same at each path are the same
pub same_at : {V : Type 0} (m n : FinMap (slice_cmp nat_cmp) V) → ((q : List ℕ) → get m q ≡ get n q) → m ≡ n
same_at m n same = same_map nat_list_cmp_total (slice_cmp-IsAntisymmetric nat_cmp-IsAntisymmetric) m n same

-- ---- what is kept of a tree

module _ {V : Type 0} (f : Seen → V) where
  abbrev pairs : List Entry → List (List ℕ × V)
  pairs es = map (λ e. (string_bytes e.0, f e.1)) es

  picked : (b : Bool) (v : Seen) (o : Option Seen) (p : Option V) → p ≡ option_map f o → cond b (Some (f v)) p ≡ option_map f (cond b (Some v) o)
  picked true v o p e = refl
  picked false v o p e = e

  found : (q : List ℕ) (es : List Entry) → find (slice_cmp nat_cmp) q (pairs es) ≡ option_map f (lookup (is_at (λ k. slice_cmp nat_cmp q (string_bytes k))) es)
  found q [] = refl
  found q (e ∷ es) = picked (is_eq (slice_cmp nat_cmp q (string_bytes e.0))) e.1 _ _ (found q es)

  pub get-kept : (m : Tree) (q : List ℕ) → get (kept f m) q ≡ option_map f (get_by_text m q)
  get-kept m q = get-from_entries nat_list_cmp_total (pairs m.entries) q ∙ found q m.entries

-- ---- a file is marked

-- told by a path with a file v, of which a marked one takes the place
size_stays : (b : Bool) (v : Seen) (o : Option Seen) → (b ≡ true → o ≡ Some v) → option_map size_of (cond b (Some (record { size = v.size; marked = true })) o) ≡ option_map size_of o
size_stays true v o h = sym (ap (option_map size_of) (h refl))
size_stays false v o h = refl

or_marked : (b : Bool) → true ≡ (b || true)
or_marked true = refl
or_marked false = refl

abbrev told : Option Seen → Bool
told o = unwrap_or (option_map mark_of o) false

mark_added : (b : Bool) (v : Seen) (o : Option Seen) → (b ≡ true → o ≡ Some v) → told (cond b (Some (record { size = v.size; marked = true })) o) ≡ (told o || (b && is_some (option_map size_of o)))
mark_added true v o h = or_marked v.marked ∙ ap (λ (p : Option Seen). told p || (true && is_some (option_map size_of p))) (sym (h refl))
mark_added false v o h = sym (or-false (told o))

mark_absent : (b : Bool) (o : Option Seen) → (b ≡ true → o ≡ None) → told o ≡ (told o || (b && is_some (option_map size_of o)))
mark_absent true o h = ap told (h refl) ∙ ap (λ (p : Option Seen). told p || (true && is_some (option_map size_of p))) (sym (h refl))
mark_absent false o h = sym (or-false (told o))

-- the words of a contract, by what the tree has
marked_in : (m : Tree) (q : List ℕ) → is_marked (contents_of m) q ≡ told (get_by_text m q)
marked_in m q = ap (λ (o : Option Bool). unwrap_or o false) (get-kept mark_of m q)

there_in : (m : Tree) (q : List ℕ) → is_there (contents_of m) q ≡ is_some (option_map size_of (get_by_text m q))
there_in m q = ap (λ (o : Option ℕ). is_some o) (get-kept size_of m q)

pub marked_there : (m n : Tree) (path : List ℕ) (v : Seen) → get_by_text m path ≡ Some v
    → UpdatesBy string_cmp (λ k. slice_cmp nat_cmp path (string_bytes k)) m n (Some (record { size = v.size; marked = true })) → Marks path (contents_of m) (contents_of n)
marked_there m n path v has updates =
    let at : (q : List ℕ) → get_by_text n q ≡ cond (bytes_eq path q) (Some (record { size = v.size; marked = true })) (get_by_text m q) = btree_map_updates_text path m n _ updates in
    let same : (q : List ℕ) → bytes_eq path q ≡ true → get_by_text m q ≡ Some v = λ q e. along (get_by_text m) path q (Some v) has e in
    record {
      sizes = same_at _ _ (λ q. get-kept size_of n q ∙ ap (option_map size_of) (at q) ∙ size_stays (bytes_eq path q) v (get_by_text m q) (same q) ∙ sym (get-kept size_of m q));
      marked = λ q. marked_in n q ∙ ap told (at q) ∙ mark_added (bytes_eq path q) v (get_by_text m q) (same q) ∙ (λ i. sym (marked_in m q) i || (bytes_eq path q && sym (there_in m q) i));
    }

pub marked_nowhere : (m : Tree) (path : List ℕ) → get_by_text m path ≡ None → Marks path (contents_of m) (contents_of m)
marked_nowhere m path none = record {
  sizes = refl;
  marked = λ q. marked_in m q ∙ mark_absent (bytes_eq path q) (get_by_text m q) (λ e. along (get_by_text m) path q None none e) ∙ (λ i. sym (marked_in m q) i || (bytes_eq path q && sym (there_in m q) i));
}

-- the same of the values that a contract sees
pub marks_seen : (path : List ℕ) (m n t : Tree) (old : Contents) → contents_of m ≡ old → t ≡ n → Marks path (contents_of m) (contents_of n) → Marks path old (contents_of t)
marks_seen path m n t old was is marks = subst (λ (c : Contents). Marks path c (contents_of t)) was (subst (λ (x : Tree). Marks path (contents_of m) (contents_of x)) (sym is) marks)

-- ---- a listing's files are noted

-- the tree has the files of a listing, none of them marked
abbrev pub HasListed : Tree → List FileInfo → Type 0
HasListed m files = (q : List ℕ) → get_by_text m q ≡ option_map fresh (lookup (bytes_eq q) (sizes files))

one_listed : (b c : Bool) → b ≡ c → (size : ℕ) → option_map fresh (cond b (Some size) None) ≡ cond c (Some (fresh size)) None
one_listed b true e size = ap (λ t. option_map fresh (cond t (Some size) None)) e
one_listed b false e size = ap (λ t. option_map fresh (cond t (Some size) None)) e

listed_more : (files : List FileInfo) (f : FileInfo) (q : List ℕ)
    → option_map fresh (lookup (bytes_eq q) (sizes (files ++ f ∷ []))) ≡ option_or (option_map fresh (lookup (bytes_eq q) (sizes files))) (cond (bytes_eq f.path q) (Some (fresh f.size)) None)
listed_more [] f q = one_listed _ _ (bytes_eq-flip q f.path) f.size
listed_more (g ∷ files) f q =
    elim (bytes_eq q g.path) as (λ b. option_map fresh (cond b (Some g.size) (lookup (bytes_eq q) (sizes (files ++ f ∷ [])))) ≡ option_or (option_map fresh (cond b (Some g.size) (lookup (bytes_eq q) (sizes files)))) (cond (bytes_eq f.path q) (Some (fresh f.size)) None)) [
      | true ↦ refl
      | false ↦ listed_more files f q
    ]

pub noted_more : (m n : Tree) (files : List FileInfo) (f : FileInfo) (path : List ℕ) → path ≡ f.path → HasListed m files → Notes path f.size m n → HasListed n (files ++ f ∷ [])
noted_more m n files f path is has notes q =
    notes q ∙ ap (λ o. option_or o (cond (bytes_eq path q) (Some (fresh f.size)) None)) (has q)
    ∙ ap (λ p. option_or (option_map fresh (lookup (bytes_eq q) (sizes files))) (cond (bytes_eq p q) (Some (fresh f.size)) None)) is
    ∙ sym (listed_more files f q)

size_of_fresh : (o : Option ℕ) → option_map size_of (option_map fresh o) ≡ o
size_of_fresh None = refl
size_of_fresh (Some n) = refl

told_fresh : (o : Option ℕ) → told (option_map fresh o) ≡ false
told_fresh None = refl
told_fresh (Some n) = refl

pub find-lookup : {V : Type 0} (q : List ℕ) (es : List (List ℕ × V)) → find (slice_cmp nat_cmp) q es ≡ lookup (bytes_eq q) es
find-lookup q [] = refl
find-lookup q (e ∷ es) = λ i. cond (is_eq-slice_cmp q e.0 i) (Some e.1) (find-lookup q es i)

pub get-listing : (files : List FileInfo) (q : List ℕ) → get (listing files) q ≡ lookup (bytes_eq q) (sizes files)
get-listing files q = get-from_entries nat_list_cmp_total (sizes files) q ∙ find-lookup q (sizes files)

pub listed_sizes : (m : Tree) (files : List FileInfo) → HasListed m files → sizes_in (contents_of m) ≡ listing files
listed_sizes m files has = same_at _ _ (λ q.
    get-kept size_of m q ∙ ap (option_map size_of) (has q) ∙ size_of_fresh (lookup (bytes_eq q) (sizes files)) ∙ sym (get-listing files q))

pub listed_unmarked : (m : Tree) (files : List FileInfo) → HasListed m files → (q : List ℕ) → is_marked (contents_of m) q ≡ false
listed_unmarked m files has q = marked_in m q ∙ ap told (has q) ∙ told_fresh (lookup (bytes_eq q) (sizes files))

-- ---- the paths in order

both : (a b : Bool) → T a → T b → T (a && b)
both true true x y = tt
both true false x y = absurd y
both false b x y = absurd x

below : (x : String Global) (es : List Entry) → AllByRecursion (λ y. string_cmp x y ≡ Less) (keys_of es) → T (below_all (slice_cmp nat_cmp) (string_bytes x) (pairs size_of es))
below x [] all = tt
below x (e ∷ es) all = both _ _ (subst (λ r. T (is_lt r)) (sym all.0) tt) (below x es all.1)

sorted_tree : (es : List Entry) → IsStrictlySortedBy string_cmp (keys_of es) → T (is_sorted (slice_cmp nat_cmp) (pairs size_of es))
unfolding IsStrictlySortedBy
sorted_tree [] s = tt
sorted_tree (e ∷ es) s = both _ _ (below e.0 es s.0) (sorted_tree es s.1)

entries_tree : (m : Tree) → IsOrdered string_cmp m → entries (kept size_of m) ≡ pairs size_of m.entries
entries_tree m ordered =
    let h = sorted_tree m.entries ordered in
    let same : kept size_of m ≡ from_sorted (pairs size_of m.entries) = same_at (kept size_of m) (from_sorted (pairs size_of m.entries)) (λ q.
    get-from_entries nat_list_cmp_total (pairs size_of m.entries) q ∙ sym (get-from_sorted (slice_cmp nat_cmp) (pairs size_of m.entries) q h)) in
    ap entries same ∙ entries-from_sorted (slice_cmp nat_cmp) (pairs size_of m.entries) h

names_tree : (es : List Entry) → map (λ (e : List ℕ × ℕ). e.0) (pairs size_of es) ≡ map name_of es
names_tree [] = refl
names_tree (e ∷ es) = ap (λ (l : List (List ℕ)). string_bytes e.0 ∷ l) (names_tree es)

keys_tree : (m : Tree) → IsOrdered string_cmp m → keys (sizes_in (contents_of m)) ≡ map name_of m.entries
keys_tree m ordered = ap (map (λ (e : List ℕ × ℕ). e.0)) (entries_tree m ordered) ∙ names_tree m.entries

-- ---- the names that are not marked

abbrev file_at : List ℕ → List Entry → Option Seen
file_at q es = lookup (is_at (λ k. slice_cmp nat_cmp q (string_bytes k))) es

-- an entry below another one is found past it
past : (k : String Global) (v : Seen) (es rest : List Entry) → AllByRecursion (λ y. string_cmp k y ≡ Less) (keys_of rest) → AllByRecursion (λ e. file_at (name_of e) es ≡ Some e.1) rest
    → AllByRecursion (λ e. file_at (name_of e) ((k, v) ∷ es) ≡ Some e.1) rest
past k v es [] below all = tt
past k v es (e ∷ rest) below all =
    (ap (λ b. cond b (Some v) (file_at (name_of e) es)) ((eq_by_cmp_equiv nat_list_cmp_total).symm (name_of e) (string_bytes k) ∙ ap is_eq below.0) ∙ all.0, past k v es rest below.1 all.1)

each_found : (es : List Entry) → IsStrictlySortedBy string_cmp (keys_of es) → AllByRecursion (λ e. file_at (name_of e) es ≡ Some e.1) es
unfolding IsStrictlySortedBy
each_found [] s = tt
each_found (e ∷ es) s = (ap (λ b. cond b (Some e.1) (file_at (name_of e) es)) ((eq_by_cmp_equiv nat_list_cmp_total).refl (name_of e)), past e.0 e.1 es es s.0 (each_found es s.1))

-- an entry with no mark
abbrev pub left_out : Entry → Bool
left_out e = not (mark_of e.1)

named : (e : Entry) (b c : Bool) → b ≡ c → (xs : List (List ℕ)) (es : List Entry) → xs ≡ map name_of es → cond b (name_of e ∷ xs) xs ≡ map name_of (cond c (e ∷ es) es)
named e b true same xs es is = (λ i. cond (same i) (name_of e ∷ is i) (is i))
named e b false same xs es is = (λ i. cond (same i) (name_of e ∷ is i) (is i))

left_names : (m : Tree) (es : List Entry) → AllByRecursion (λ e. get_by_text m (name_of e) ≡ Some e.1) es → filter (λ q. not (is_marked (contents_of m) q)) (map name_of es) ≡ map name_of (filter left_out es)
left_names m [] all = refl
left_names m (e ∷ es) all =
    named e _ _ (ap not (marked_in m (name_of e) ∙ ap told all.0)) _ _ (left_names m es all.1)

pub unmarked_tree : (m : Tree) → IsOrdered string_cmp m → map name_of (filter left_out m.entries) ≡ filter (λ q. not (is_marked (contents_of m) q)) (keys (sizes_in (contents_of m)))
unmarked_tree m ordered =
    sym (ap (filter (λ q. not (is_marked (contents_of m) q))) (keys_tree m ordered) ∙ left_names m m.entries (each_found m.entries ordered))
