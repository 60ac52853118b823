-- A tree of files as finite maps.
use Rattle.std.proofs.Common.{◌≡◌, ℕ, ◌+◌, Bool, true, false, cond, List, [], ◌∷◌, ◌++◌, length, map, refl, sym, ◌∙◌, ap, subst, arith}
use Rattle.std.specs.Prelude.{Option, Some, None, option_map, is_some, String, string_bytes, string_cmp, bytes_eq}
use Rattle.std.specs.Global.{Global}
use Rattle.std.specs.FinMap.{FinMap, find, get, insert, remove, get-remove, len, len-insert, len-empty, from_entries, get-from_entries, get-insert, same_map, slice_cmp-IsAntisymmetric, nat_cmp-IsAntisymmetric}
use Rattle.std.specs.Ordering.{nat_cmp, is_eq, eq_by_cmp}
use Rattle.std.specs.Cmp.{eq_by_cmp_equiv}
use Rattle.std.specs.Cmp.Lexicographic.{slice_cmp, nat_list_cmp_total}
use Rattle.std.specs.BTreeMap.{BTreeMap, get_by_text, is_at, UpdatesBy, IsOrdered, IsClone}
use Rattle.std.specs.Map.{lookup, keys_of}
use Rattle.std.specs.Map.Iter.{deref_pair}
use Rattle.std.specs.List.{IsDistinct, AllByRecursion, AllZip}
use Rattle.std.specs.Borrow.{Bor}
use Rattle.std.proofs.lemmas.Map.Keys.{IsDistinct-from_sorted}
use Rattle.std.proofs.lemmas.Map.Text.{btree_map_updates_text, is_eq-slice_cmp}
use Rattle.bay_core.specs.declared.event.FileInfo.{FileInfo}
use Rattle.bay_mem.specs.declared.mem_map.MemFile.{MemFile}
use Rattle.bay_core.specs.Map.{Lists, AllDated, paths, sizes, listed_dates}
use Rattle.bay_mem.specs.Files.{with_file, without_file}
use Rattle.bay_mem.specs.Tree.{kept, files_of}

abbrev pub Tree : Type 0
Tree = BTreeMap (String Global) MemFile

abbrev Entry : Type 0
Entry = String Global × MemFile

-- the file of an entry at a path
abbrev file_at : List ℕ → List Entry → Option MemFile
file_at q es = lookup (is_at (λ k. slice_cmp nat_cmp q (string_bytes k))) es

-- the bytes of a file
abbrev pub bytes_of : MemFile → List ℕ
bytes_of f = f.bytes.items

module _ {V : Type 0} (f : MemFile → V) where
  abbrev pairs : List Entry → List (List ℕ × V)
  pairs es = map (λ e. (string_bytes e.0, f e.1)) es

  picked : (b : Bool) (v : MemFile) (o : Option MemFile) (p : Option V) → p ≡ option_map f o → cond b (Some (f v)) p ≡ option_map f (cond b (Some v) o)
  picked true v o p e = refl
  picked false v o p e = e

  found : (q : List ℕ) (es : List Entry) → find (slice_cmp nat_cmp) q (pairs es) ≡ option_map f (file_at q es)
  found q [] = refl
  found q (e ∷ es) = picked (is_eq (slice_cmp nat_cmp q (string_bytes e.0))) e.1 _ _ (found q es)

  pub get-kept : (m : Tree) (q : List ℕ) → get (kept f m) q ≡ option_map f (get_by_text m q)
  get-kept m q = get-from_entries nat_list_cmp_total (pairs m.entries) q ∙ found q m.entries

  -- maps that give the same at each path are the same
  same_kept : (m n : FinMap (slice_cmp nat_cmp) V) → ((q : List ℕ) → get m q ≡ get n q) → m ≡ n
  same_kept m n same = same_map nat_list_cmp_total (slice_cmp-IsAntisymmetric nat_cmp-IsAntisymmetric) m n same

  cond_of : (b : Bool) (w o : Option MemFile) → option_map f (cond b w o) ≡ cond b (option_map f w) (option_map f o)
  cond_of true w o = refl
  cond_of false w o = refl

  -- a key is tested from either side
  tested : (p q : List ℕ) → bytes_eq p q ≡ eq_by_cmp (slice_cmp nat_cmp) q p
  tested p q = sym (is_eq-slice_cmp p q) ∙ (eq_by_cmp_equiv nat_list_cmp_total).symm p q

  changed_at : (m n : Tree) (path : List ℕ) (w : Option MemFile) → UpdatesBy string_cmp (λ k. slice_cmp nat_cmp path (string_bytes k)) m n w
      → (q : List ℕ) → get (kept f n) q ≡ cond (eq_by_cmp (slice_cmp nat_cmp) q path) (option_map f w) (get (kept f m) q)
  changed_at m n path w updates q =
      get-kept n q
      ∙ ap (option_map f) (btree_map_updates_text path m n w updates q)
      ∙ cond_of (bytes_eq path q) w (get_by_text m q)
      ∙ (λ i. cond (tested path q i) (option_map f w) (sym (get-kept m q) i))

  -- an added file
  pub kept_insert : (m n : Tree) (path : List ℕ) (v : MemFile) → UpdatesBy string_cmp (λ k. slice_cmp nat_cmp path (string_bytes k)) m n (Some v) → kept f n ≡ insert (kept f m) path (f v)
  kept_insert m n path v updates = same_kept _ _ (λ q. changed_at m n path (Some v) updates q ∙ sym (get-insert nat_list_cmp_total (kept f m) path (f v) q))

  -- a removed file
  pub kept_remove : (m n : Tree) (path : List ℕ) → UpdatesBy string_cmp (λ k. slice_cmp nat_cmp path (string_bytes k)) m n None → kept f n ≡ remove (kept f m) path
  kept_remove m n path updates = same_kept _ _ (λ q. changed_at m n path None updates q ∙ sym (get-remove nat_list_cmp_total (kept f m) path q))

  later_keys : (k : String Global) (es : List Entry) → AllByRecursion (λ y. eq_by_cmp string_cmp k y ≡ false) (keys_of es) → AllByRecursion (λ y. bytes_eq (string_bytes k) (string_bytes y) ≡ false) (keys_of es)
  later_keys k [] all = tt
  later_keys k (e ∷ es) all = (sym (is_eq-slice_cmp (string_bytes k) (string_bytes e.0)) ∙ all.0, later_keys k es all.1)

  one_longer : (e : Entry) (es : List Entry) → length es + 1 ≡ length (e ∷ es)
  one_longer e es = omega arith

  none_found : (k : List ℕ) (es : List Entry) → AllByRecursion (λ y. bytes_eq k (string_bytes y) ≡ false) (keys_of es) → find (slice_cmp nat_cmp) k (pairs es) ≡ None
  none_found k [] all = refl
  none_found k (e ∷ es) all = ap (λ b. cond b (Some (f e.1)) (find (slice_cmp nat_cmp) k (pairs es))) (is_eq-slice_cmp k (string_bytes e.0) ∙ all.0) ∙ none_found k es all.1

  counted : (es : List Entry) → IsDistinct (eq_by_cmp string_cmp) (keys_of es) → len (from_entries {R = slice_cmp nat_cmp} (pairs es)) ≡ length es
  unfolding IsDistinct
  counted [] all = len-empty (slice_cmp nat_cmp) V
  counted (e ∷ es) all =
      len-insert nat_list_cmp_total (from_entries (pairs es)) (string_bytes e.0) (f e.1)
      ∙ ap (λ (o : Option V). cond (is_some o) (len (from_entries {R = slice_cmp nat_cmp} (pairs es))) (len (from_entries {R = slice_cmp nat_cmp} (pairs es)) + 1)) (get-from_entries nat_list_cmp_total (pairs es) (string_bytes e.0) ∙ none_found (string_bytes e.0) es (later_keys e.0 es all.0))
      ∙ ap (λ (n : ℕ). n + 1) (counted es all.1)
      ∙ one_longer e es

  -- a tree has each path once
  pub len-kept : (m : Tree) → IsOrdered string_cmp m → len (kept f m) ≡ length m.entries
  len-kept m ordered = counted m.entries (IsDistinct-from_sorted string_cmp (keys_of m.entries) ordered)

-- a tree with a file more
pub files_added : (m n : Tree) (path : List ℕ) (v : MemFile) → UpdatesBy string_cmp (λ k. slice_cmp nat_cmp path (string_bytes k)) m n (Some v) → files_of n ≡ with_file (files_of m) path v.bytes.items v.modified
files_added m n path v updates i = record { map = kept_insert (λ f. f.bytes.items) m n path v updates i; dates = kept_insert (λ f. f.modified) m n path v updates i }

-- a tree with a file less
pub files_removed : (m n : Tree) (path : List ℕ) → UpdatesBy string_cmp (λ k. slice_cmp nat_cmp path (string_bytes k)) m n None → files_of n ≡ without_file (files_of m) path
files_removed m n path updates i = record { map = kept_remove (λ f. f.bytes.items) m n path updates i; dates = kept_remove (λ f. f.modified) m n path updates i }

-- a file in a listing
abbrev pub info_of : Entry → FileInfo
info_of e = record { path = string_bytes e.0; size = length e.1.bytes.items; modified = e.1.modified }

none_later : (k : String Global) (es : List Entry) → AllByRecursion (λ y. eq_by_cmp string_cmp k y ≡ false) (keys_of es) → AllByRecursion (λ y. bytes_eq (string_bytes k) y ≡ false) (paths (map info_of es))
none_later k [] all = tt
none_later k (e ∷ es) all = (sym (is_eq-slice_cmp (string_bytes k) (string_bytes e.0)) ∙ all.0, none_later k es all.1)

once_each : (es : List Entry) → IsDistinct (eq_by_cmp string_cmp) (keys_of es) → IsDistinct bytes_eq (paths (map info_of es))
unfolding IsDistinct
once_each [] all = tt
once_each (e ∷ es) all = (none_later e.0 es all.0, once_each es all.1)

module _ {V : Type 0} (f : MemFile → V) (h : FileInfo → V) (same : (e : Entry) → h (info_of e) ≡ f e.1) where
  listed_at : (b c : Bool) → b ≡ c → (e : Entry) (x : Option V) (o : Option MemFile) → x ≡ option_map f o → cond b (Some (h (info_of e))) x ≡ option_map f (cond c (Some e.1) o)
  listed_at b true is e x o rest = ap (λ t. cond t (Some (h (info_of e))) x) is ∙ ap Some (same e)
  listed_at b false is e x o rest = ap (λ t. cond t (Some (h (info_of e))) x) is ∙ rest

  listed : (q : List ℕ) (es : List Entry) → lookup (bytes_eq q) (map (λ i. (i.path, h i)) (map info_of es)) ≡ option_map f (file_at q es)
  listed q [] = refl
  listed q (e ∷ es) = listed_at _ _ (sym (is_eq-slice_cmp q (string_bytes e.0))) e _ _ (listed q es)

length_of : (o : Option MemFile) → option_map (λ (f : MemFile). length f.bytes.items) o ≡ option_map length (option_map (λ (f : MemFile). f.bytes.items) o)
length_of None = refl
length_of (Some f) = refl

-- a list of a tree's files lists them
pub lists_files : (m : Tree) (files : List FileInfo) → files ≡ map info_of m.entries → IsOrdered string_cmp m → Lists (files_of m).map (files_of m).dates files
lists_files m files is ordered = record {
  once = subst (λ fs. IsDistinct bytes_eq (paths fs)) (sym is) (once_each m.entries (IsDistinct-from_sorted string_cmp (keys_of m.entries) ordered));
  same = λ q. ap (λ fs. lookup (bytes_eq q) (sizes fs)) is ∙ listed (λ f. length f.bytes.items) (λ i. i.size) (λ e. refl) q m.entries ∙ length_of (file_at q m.entries)
      ∙ ap (option_map length) (sym (get-kept (λ f. f.bytes.items) m q));
  dated = λ q t has. ap (λ fs. lookup (bytes_eq q) (listed_dates fs)) is ∙ listed (λ f. f.modified) (λ i. i.modified) (λ e. refl) q m.entries
      ∙ sym (get-kept (λ f. f.modified) m q) ∙ has;
}

pub pushed_file : (xs : List (Bor (String Global) × Bor MemFile)) (x : Bor (String Global) × Bor MemFile) → map info_of (map deref_pair (xs ++ x ∷ [])) ≡ map info_of (map deref_pair xs) ++ info_of (deref_pair x) ∷ []
pushed_file [] x = refl
pushed_file (y ∷ xs) x = ap (λ (l : List FileInfo). info_of (deref_pair y) ∷ l) (pushed_file xs x)

-- what a clone of a file keeps
pub record SameFile (v w : MemFile) : Type 0 where
  pub bytes : w.bytes.items ≡ v.bytes.items
  pub modified : w.modified ≡ v.modified

cloned_pairs : {V : Type 0} (f : MemFile → V) (C : String Global → String Global → Type 0) (D : MemFile → MemFile → Type 0) → ((s t : String Global) → C s t → string_bytes t ≡ string_bytes s) → ((v w : MemFile) → D v w → f w ≡ f v)
    → (es fs : List Entry) → AllZip (λ p q. C p.0 q.0 × D p.1 q.1) es fs → pairs f fs ≡ pairs f es
cloned_pairs f C D keys files [] [] all = refl
cloned_pairs f C D keys files [] (q ∷ fs) all = absurd all
cloned_pairs f C D keys files (p ∷ es) [] all = absurd all
cloned_pairs f C D keys files (p ∷ es) (q ∷ fs) all =
    λ i. (keys p.0 q.0 all.0.0 i, files p.1 q.1 all.0.1 i) ∷ cloned_pairs f C D keys files es fs all.1 i

-- a clone of a tree has the same files
pub files_cloned : (C : String Global → String Global → Type 0) (D : MemFile → MemFile → Type 0) → ((s t : String Global) → C s t → string_bytes t ≡ string_bytes s) → ((v w : MemFile) → D v w → SameFile v w)
    → (m n : Tree) → IsClone C D m n → files_of n ≡ files_of m
files_cloned C D keys files m n all =
    let bytes = cloned_pairs (λ f. f.bytes.items) C D keys (λ v w d. (files v w d).bytes) m.entries n.entries all in
    let dates = cloned_pairs (λ f. f.modified) C D keys (λ v w d. (files v w d).modified) m.entries n.entries all in
    λ i. record { map = from_entries (bytes i); dates = from_entries (dates i) }

-- each file of a tree has its date
pub tree_dated : (m : Tree) → AllDated (files_of m).map (files_of m).dates
tree_dated m q bytes has = found (get_by_text m q) (sym (get-kept (λ f. f.bytes.items) m q) ∙ has) (get-kept (λ f. f.modified) m q)
  where
    found : (o : Option MemFile) → option_map (λ f. f.bytes.items) o ≡ Some bytes → get (files_of m).dates q ≡ option_map (λ f. f.modified) o → (t : ℕ) × (get (files_of m).dates q ≡ Some t)
    found None same is = absurd (cc same)
    found (Some f) same is = (f.modified, is)
