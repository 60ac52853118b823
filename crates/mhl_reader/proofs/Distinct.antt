-- No two entries of a document have the same path.
use Rattle.std.proofs.Common.{◌≡◌, ◌⊎◌, inl, inr, ℕ, Bool, true, false, cond, List, [], ◌∷◌, ◌++◌, Option, Some, None, Result, Ok, Err, refl, sym, ap, subst, ◌∙◌}
use Rattle.std.specs.Str.{bytes_eq}
use Rattle.std.specs.List.{IsDistinct}
use Rattle.std.specs.Cmp.Lexicographic.{nat_list_eq_equiv}
use Rattle.std.proofs.lemmas.List.{map-append}
use Rattle.std.proofs.lemmas.Map.Keys.{IsDistinct-push}
use Rattle.mhl_writer.specs.declared.values.HashEntry.{HashEntry}
use Rattle.std.specs.Prelude.{IfOk}
use Rattle.mhl_writer.specs.declared.values.HashList.{HashList}
use Rattle.mhl_writer.specs.ListText.{Values, values_of, paths_of}
use Rattle.mhl_reader.specs.declared.error.ReadError.{ReadError}
use Rattle.mhl_reader.specs.declared.found.HashLeaf.{HashLeaf}
use Rattle.mhl_reader.specs.declared.found.HashLeaf.TheVariants.{File, Size, Modified, Hashed, Md5, Sha1, Xxh}
use Rattle.mhl_reader.specs.declared.found.HashLeaves.{HashLeaves}
use Rattle.mhl_reader.specs.Leaves.{is_taken, path_of, unless_taken, with_value, with_leaf, size_of, digest_of, date_of, no_leaves, kept, entry_of}
use Rattle.mhl_reader.specs.Grammar.{Content, nothing, a_text, an_aside, element, HashContent, Found, with_entry, with_creator, nothing_found, ListContent, Document}
use Rattle.mhl_reader.specs.Reading.{Reading}

-- a file that was read is new
abbrev IsNew : List HashEntry → HashLeaves → Type 0
IsNew earlier h = (path : List ℕ) → h.file ≡ Some path → is_taken earlier path ≡ false

abbrev some : {A : Type 0} → A → Option A
some x = Some x

some_is : {A : Type 0} (x y : A) → some x ≡ some y → x ≡ y
some_is x y e = cc

none_some : {A : Type 0} {x : A} → None ≡ Some x → ⊥
none_some e = cc

value_is : {A B : Type 0} (o : Option A) (f : A → B) (y : B) → with_value o f ≡ Some y → (x : A) × (o ≡ Some x) × (f x ≡ y)
value_is (Some x) f y e = (x, refl, some_is (f x) y e)
value_is None f y e = absurd (none_some e)

which : {X : Type 0} (b : Bool) (x y z : X) → cond b x y ≡ z → ((b ≡ true) × (x ≡ z)) ⊎ ((b ≡ false) × (y ≡ z))
which true x y z e = inl (refl, e)
which false x y z e = inr (refl, e)

unless_new : (earlier : List HashEntry) (o : Option (List ℕ)) (path : List ℕ) → unless_taken earlier o ≡ Some path → is_taken earlier path ≡ false
unless_new earlier None path e = absurd (none_some e)
unless_new earlier (Some p) path e = elim (which {X = Option (List ℕ)} (is_taken earlier p) None (Some p) (Some path) e) [
  | inl h ↦ absurd (none_some h.1)
  | inr h ↦ subst (λ (q : List ℕ). is_taken earlier q ≡ false) (some_is p path h.1) h.0
]

-- other leaves leave the file as it is
same_file : (earlier : List HashEntry) (h next : HashLeaves) → next.file ≡ h.file → IsNew earlier h → IsNew earlier next
same_file earlier h next same new = λ path e. new path (sym same ∙ e)

leaf_new : (earlier : List HashEntry) (leaf : HashLeaf) (t : List ℕ) (h next : HashLeaves) → with_leaf earlier leaf t h ≡ Some next → IsNew earlier h → IsNew earlier next
leaf_new earlier File t h next e new = λ path is.
    let v = value_is (unless_taken earlier (path_of t)) (λ (path : List ℕ). record h { file = Some path }) next e in
    let same : v.0 ≡ path = some_is v.0 path (ap (λ (h : HashLeaves). h.file) v.2 ∙ is) in
    subst (λ (q : List ℕ). is_taken earlier q ≡ false) same (unless_new earlier (path_of t) v.0 v.1)
leaf_new earlier Size t h next e new =
    let v = value_is (size_of t) (λ (size : ℕ). record h { size = Some size }) next e in
    same_file earlier h next (sym (ap (λ (h : HashLeaves). h.file) v.2)) new
leaf_new earlier Modified t h next e new = same_file earlier h next (sym (ap (λ (h : HashLeaves). h.file) (some_is (record h { modified = Some (date_of t) }) next e))) new
leaf_new earlier Hashed t h next e new = same_file earlier h next (sym (ap (λ (h : HashLeaves). h.file) (some_is (record h { hashed = Some (date_of t) }) next e))) new
leaf_new earlier Md5 t h next e new =
    let v = value_is (digest_of 16 t) (λ (digest : List ℕ). record h { md5 = Some digest }) next e in
    same_file earlier h next (sym (ap (λ (h : HashLeaves). h.file) v.2)) new
leaf_new earlier Sha1 t h next e new =
    let v = value_is (digest_of 20 t) (λ (digest : List ℕ). record h { sha1 = Some digest }) next e in
    same_file earlier h next (sym (ap (λ (h : HashLeaves). h.file) v.2)) new
leaf_new earlier Xxh t h next e new =
    let v = value_is (digest_of 8 t) (λ (digest : List ℕ). record h { xxh = Some digest }) next e in
    same_file earlier h next (sym (ap (λ (h : HashLeaves). h.file) v.2)) new

hash_new : (earlier : List HashEntry) (h : HashLeaves) (c : Content) (out : HashLeaves) → HashContent earlier h c out → IsNew earlier h → IsNew earlier out
hash_new earlier h nothing out m new = subst (λ (h : HashLeaves). IsNew earlier h) m new
hash_new earlier h (a_text place raw bytes next) out m new = hash_new earlier h next out m.1 new
hash_new earlier h (an_aside place next) out m new = hash_new earlier h next out m new
hash_new earlier h (element place name attributes inside end next) out (inl m) new =
    let (leaf, t, then, is_leaf, first, leaf_text, added, rest) = m in
    hash_new earlier then next out rest (leaf_new earlier leaf t h then added new)
hash_new earlier h (element place name attributes inside end next) out (inr m) new = hash_new earlier h next out m.2 new

nothing_new : (earlier : List HashEntry) → IsNew earlier no_leaves
nothing_new earlier = λ path e. absurd (none_some e)

abbrev AreDistinct : List HashEntry → Type 0
AreDistinct entries = IsDistinct bytes_eq (paths_of entries)

with_new : (entries : List HashEntry) (h : HashLeaves) (e : HashEntry) → entry_of h ≡ Some e → IsNew entries h → AreDistinct entries → AreDistinct (entries ++ e ∷ [])
with_new entries h e is new distinct =
    let v = value_is h.file (λ (path : List ℕ). record { path = path; size = h.size; modified = kept h.modified; hashed = kept h.hashed; md5 = h.md5; sha1 = h.sha1; xxh = h.xxh }) e is in
    let free : is_taken entries e.path ≡ false = subst (λ (e : HashEntry). is_taken entries e.path ≡ false) v.2 (new v.0 v.1) in
    subst (λ (paths : List (List ℕ)). IsDistinct bytes_eq paths) (sym (map-append (λ (e : HashEntry). e.path) entries (e ∷ []))) (IsDistinct-push nat_list_eq_equiv (paths_of entries) e.path distinct free)

list_distinct : (found : Found) (c : Content) (out : Found) → ListContent found c out → AreDistinct found.entries → AreDistinct out.entries
list_distinct found nothing out m d = subst (λ (f : Found). AreDistinct f.entries) m d
list_distinct found (a_text place raw bytes next) out m d = list_distinct found next out m.1 d
list_distinct found (an_aside place next) out m d = list_distinct found next out m d
list_distinct found (element place name attributes inside end next) out (inl m) d =
    let (h, e, is_hash, few, content, has_file, rest) = m in
    list_distinct (with_entry e found) next out rest (with_new found.entries h e has_file (hash_new found.entries no_leaves inside h content (nothing_new found.entries)) d)
list_distinct found (element place name attributes inside end next) out (inr (inl m)) d = list_distinct (with_creator m.0 found) next out m.3 d
list_distinct found (element place name attributes inside end next) out (inr (inr m)) d = list_distinct found next out m.2 d

none_distinct : AreDistinct []
unfolding IsDistinct
none_distinct = tt

document_distinct : (c : Content) (out : Found) → Document c out → AreDistinct out.entries
document_distinct nothing out m = absurd m
document_distinct (a_text place raw bytes next) out m = document_distinct next out m.1
document_distinct (an_aside place next) out m = document_distinct next out m
document_distinct (element place name attributes inside end next) out m = list_distinct nothing_found inside out m.2 none_distinct

pub reading_distinct : (bytes : List ℕ) (list : Values) → Reading bytes list → AreDistinct list.entries
reading_distinct bytes list r = subst (λ (l : Values). AreDistinct l.entries) r.meaning (document_distinct r.content r.found r.document)

-- so in what was read
pub read_distinct : (bytes : List ℕ) (r : Result HashList ReadError) → IfOk r (λ list. Reading bytes (values_of list)) → IfOk r (λ list. IsDistinct bytes_eq (paths_of list.entries.items))
read_distinct bytes (Ok list) h = reading_distinct bytes (values_of list) h
read_distinct bytes (Err e) h = tt
