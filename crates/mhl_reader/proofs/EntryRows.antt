-- The texts of entries spell those entries, one after another.
use Rattle.std.proofs.Common.{◌≡◌, inl, ℕ, ◌+◌, ◌^◌, ◌≤◌, ◌<◌, false, List, [], ◌∷◌, ◌++◌, length, length-append, Option, Some, None, refl, sym, ap, subst, ◌∙◌, append_assoc, append-nil, codes, arith}
use Rattle.std.specs.Prelude.{decimal, IfSome}
use Rattle.std.specs.List.{flat_map, list_any, AllByRecursion, IsDistinct}
use Rattle.std.specs.Str.{bytes_eq}
use Rattle.std.specs.Cmp.Lexicographic.{nat_list_eq_equiv}
use Rattle.std.proofs.lemmas.List.{map-append}
use Rattle.std.proofs.lemmas.List.Folds.{list_any-append}
use Rattle.std.proofs.lemmas.Map.Keys.{IsDistinct-head, IsDistinct-tail}
use Rattle.hex.specs.Hex.{encode_lower}
use Rattle.path_text.specs.Moment.{moment_text}
use Rattle.mhl_writer.specs.ListText.{part, file_line, size_line, modified_line, md5_line, sha1_line, xxh_line, hashed_line, entry_text, paths_of, IsDigest, IsWholeEntry}
use Rattle.mhl_writer.specs.declared.values.HashEntry.{HashEntry}
use Rattle.mhl_reader.specs.declared.found.HashLeaf.TheVariants.{Size, Modified, Hashed, Md5, Sha1, Xxh}
use Rattle.mhl_reader.specs.declared.found.HashLeaves.{HashLeaves}
use Rattle.mhl_reader.specs.Leaves.{the_hash, is_taken, no_leaves, with_value, entry_of}
use Rattle.mhl_reader.specs.Grammar.{Content, Found, with_entry, most_entries, ListContent}
use Rattle.mhl_reader.proofs.Spelt.{Spells, TakesBlank, tag, end_of, spells_nothing, spells_blank, spells_blanks, spells_element}
use Rattle.mhl_reader.proofs.Told.{IsMoment, met, kept_met, if_there, number_signs, size_told, digest_signs, digest_told, moment_signs, date_told}
use Rattle.mhl_reader.proofs.Lines.{Hash, hash_blank, spells_file, spells_hash_part}

-- ---- each line

spells_size : (earlier : List HashEntry) (out h : HashLeaves) (o : Option ℕ) (rest : List ℕ) → IfSome o (λ n. n < 2 ^ 64) → Spells (Hash earlier out (record h { size = o })) rest
    → Spells (Hash earlier out (record h { size = None })) (part size_line o ++ rest)
spells_size earlier out h o rest =
    spells_hash_part earlier out Size (λ n. n < 2 ^ 64) decimal (λ o. record h { size = o }) o rest refl (λ x g. ap (λ (o : Option ℕ). with_value o (λ (x : ℕ). record h { size = Some x })) (size_told x g)) (λ x g. number_signs x g)

spells_modified : (earlier : List HashEntry) (out h : HashLeaves) (o : Option ℕ) (rest : List ℕ) → IfSome o IsMoment → Spells (Hash earlier out (record h { modified = met o })) rest
    → Spells (Hash earlier out (record h { modified = None })) (part modified_line o ++ rest)
spells_modified earlier out h o rest =
    spells_hash_part earlier out Modified IsMoment moment_text (λ o. record h { modified = met o }) o rest refl (λ x g. ap (λ (o : Option ℕ). Some (record h { modified = Some o })) (date_told x g)) (λ x g. moment_signs x)

spells_hashed : (earlier : List HashEntry) (out h : HashLeaves) (o : Option ℕ) (rest : List ℕ) → IfSome o IsMoment → Spells (Hash earlier out (record h { hashed = met o })) rest
    → Spells (Hash earlier out (record h { hashed = None })) (part hashed_line o ++ rest)
spells_hashed earlier out h o rest =
    spells_hash_part earlier out Hashed IsMoment moment_text (λ o. record h { hashed = met o }) o rest refl (λ x g. ap (λ (o : Option ℕ). Some (record h { hashed = Some o })) (date_told x g)) (λ x g. moment_signs x)

spells_md5 : (earlier : List HashEntry) (out h : HashLeaves) (o : Option (List ℕ)) (rest : List ℕ) → IfSome o (IsDigest 16) → Spells (Hash earlier out (record h { md5 = o })) rest
    → Spells (Hash earlier out (record h { md5 = None })) (part md5_line o ++ rest)
spells_md5 earlier out h o rest =
    spells_hash_part earlier out Md5 (IsDigest 16) encode_lower (λ o. record h { md5 = o }) o rest refl (λ x g. ap (λ (o : Option (List ℕ)). with_value o (λ (x : (List ℕ)). record h { md5 = Some x })) (digest_told 16 x g)) (λ x g. digest_signs 16 x g)

spells_sha1 : (earlier : List HashEntry) (out h : HashLeaves) (o : Option (List ℕ)) (rest : List ℕ) → IfSome o (IsDigest 20) → Spells (Hash earlier out (record h { sha1 = o })) rest
    → Spells (Hash earlier out (record h { sha1 = None })) (part sha1_line o ++ rest)
spells_sha1 earlier out h o rest =
    spells_hash_part earlier out Sha1 (IsDigest 20) encode_lower (λ o. record h { sha1 = o }) o rest refl (λ x g. ap (λ (o : Option (List ℕ)). with_value o (λ (x : (List ℕ)). record h { sha1 = Some x })) (digest_told 20 x g)) (λ x g. digest_signs 20 x g)

spells_xxh : (earlier : List HashEntry) (out h : HashLeaves) (o : Option (List ℕ)) (rest : List ℕ) → IfSome o (IsDigest 8) → Spells (Hash earlier out (record h { xxh = o })) rest
    → Spells (Hash earlier out (record h { xxh = None })) (part xxh_line o ++ rest)
spells_xxh earlier out h o rest =
    spells_hash_part earlier out Xxh (IsDigest 8) encode_lower (λ o. record h { xxh = o }) o rest refl (λ x g. ap (λ (o : Option (List ℕ)). with_value o (λ (x : (List ℕ)). record h { xxh = Some x })) (digest_told 8 x g)) (λ x g. digest_signs 8 x g)

-- ---- the inside of an entry

-- the leaves with these values
abbrev leaves : Option (List ℕ) → Option ℕ → Option ℕ → Option (List ℕ) → Option (List ℕ) → Option (List ℕ) → Option ℕ → HashLeaves
leaves path size modified md5 sha1 xxh hashed = record { file = path; size = size; modified = met modified; hashed = met hashed; md5 = md5; sha1 = sha1; xxh = xxh }

-- the leaves of an entry
abbrev leaves_of : HashEntry → HashLeaves
leaves_of e = leaves (Some e.path) e.size e.modified e.md5 e.sha1 e.xxh e.hashed

entry_again : (e : HashEntry) → entry_of (leaves_of e) ≡ Some e
entry_again e = rw (kept_met e.modified, kept_met e.hashed) refl

-- the lines between the tags
abbrev lines : HashEntry → List ℕ
lines e = file_line e.path ++ (part size_line e.size ++ (part modified_line e.modified ++ (part md5_line e.md5 ++ (part sha1_line e.sha1 ++ (part xxh_line e.xxh ++ (part hashed_line e.hashed ++ codes "  "))))))

spells_lines : (earlier : List HashEntry) (e : HashEntry) → IsWholeEntry e → is_taken earlier e.path ≡ false → Spells (Hash earlier (leaves_of e) no_leaves) (lines e)
spells_lines earlier e whole free =
    let out = leaves_of e in
    let path = Some e.path in
    let end = codes "  " in
    let from_hashed = part hashed_line e.hashed ++ end in
    let from_xxh = part xxh_line e.xxh ++ from_hashed in
    let from_sha1 = part sha1_line e.sha1 ++ from_xxh in
    let from_md5 = part md5_line e.md5 ++ from_sha1 in
    let from_modified = part modified_line e.modified ++ from_md5 in
    let from_size = part size_line e.size ++ from_modified in
    spells_file earlier out no_leaves e.path from_size whole.path free
    (spells_size earlier out (leaves path None None None None None None) e.size from_modified (if_there (λ n. n < 2 ^ 64) e.size whole.size)
    (spells_modified earlier out (leaves path e.size None None None None None) e.modified from_md5 (if_there IsMoment e.modified whole.modified)
    (spells_md5 earlier out (leaves path e.size e.modified None None None None) e.md5 from_sha1 whole.md5
    (spells_sha1 earlier out (leaves path e.size e.modified e.md5 None None None) e.sha1 from_xxh whole.sha1
    (spells_xxh earlier out (leaves path e.size e.modified e.md5 e.sha1 None None) e.xxh from_hashed whole.xxh
    (spells_hashed earlier out (leaves path e.size e.modified e.md5 e.sha1 e.xxh None) e.hashed end (if_there IsMoment e.hashed whole.hashed)
    (spells_blanks (Hash earlier out out) end [] (hash_blank earlier out out) refl (spells_nothing (Hash earlier out out) refl))))))))

-- ---- an entry

-- content of a list behind which this was found
abbrev pub Lists : Found → Found → Content → Type 0
Lists out found c = ListContent found c out

pub list_blank : (out found : Found) → TakesBlank (Lists out found)
list_blank out found place bytes c blank p = (blank, p)

regroup : (a b c d e f g x y rest : List ℕ) → (a ++ (b ++ (c ++ (d ++ (e ++ (f ++ (g ++ (x ++ y)))))))) ++ rest ≡ (a ++ (b ++ (c ++ (d ++ (e ++ (f ++ (g ++ x))))))) ++ (y ++ rest)
regroup a b c d e f g x y rest = simp append_assoc

entry_layout : (e : HashEntry) (rest : List ℕ) → entry_text e ++ rest ≡ codes "  " ++ (tag the_hash [] ++ ((10 ∷ lines e) ++ (end_of the_hash ++ 10 ∷ rest)))
unfolding entry_text
entry_layout e rest =
    ap (λ (r : List ℕ). codes "  <hash>\n" ++ r)
    (regroup (file_line e.path) (part size_line e.size) (part modified_line e.modified) (part md5_line e.md5) (part sha1_line e.sha1) (part xxh_line e.xxh) (part hashed_line e.hashed) (codes "  ") (codes "</hash>\n") rest)

spells_entry : (out found : Found) (e : HashEntry) (rest : List ℕ) → IsWholeEntry e → is_taken found.entries e.path ≡ false → length found.entries < most_entries → Spells (Lists out (with_entry e found)) rest
    → Spells (Lists out found) (entry_text e ++ rest)
spells_entry out found e rest whole free few more =
    let P = Hash found.entries (leaves_of e) no_leaves in
    let inside : Spells P (10 ∷ lines e) = spells_blank P 10 (lines e) (hash_blank found.entries (leaves_of e) no_leaves) refl (spells_lines found.entries e whole free) in
    let Q = Lists out (with_entry e found) in
    let after : Spells Q (10 ∷ rest) = spells_blank Q 10 rest (list_blank out (with_entry e found)) refl more in
    let whole = spells_element P Q (Lists out found) the_hash [] (10 ∷ lines e) (10 ∷ rest) ((refl, refl), tt, refl)
    (λ place end c d p q. inl (leaves_of e, e, refl, few, p, entry_again e, q)) inside after in
    subst (Spells (Lists out found)) (sym (entry_layout e rest)) (spells_blanks (Lists out found) (codes "  ") (tag the_hash [] ++ ((10 ∷ lines e) ++ (end_of the_hash ++ 10 ∷ rest))) (list_blank out found) refl whole)

-- ---- entries in a row

-- no entry has the path of an earlier one
abbrev Fresh : List HashEntry → List HashEntry → Type 0
Fresh earlier [] = Unit {0}
Fresh earlier (e ∷ es) = (is_taken earlier e.path ≡ false) × Fresh (earlier ++ e ∷ []) es

-- none of the earlier entries has the path of one of these
abbrev Free : List HashEntry → List HashEntry → Type 0
Free earlier es = AllByRecursion (λ (e : HashEntry). is_taken earlier e.path ≡ false) es

free_of_none : (es : List HashEntry) → Free [] es
free_of_none [] = tt
free_of_none (e ∷ es) = (refl, free_of_none es)

still_free : (earlier : List HashEntry) (e : HashEntry) (path : List ℕ) → is_taken earlier path ≡ false → bytes_eq e.path path ≡ false → is_taken (earlier ++ e ∷ []) path ≡ false
still_free earlier e path h k =
    let differs : bytes_eq path e.path ≡ false = nat_list_eq_equiv.symm path e.path ∙ k in
    ap (list_any (bytes_eq path)) (map-append (λ (e : HashEntry). e.path) earlier (e ∷ []))
    ∙ list_any-append (bytes_eq path) (paths_of earlier) (e.path ∷ [])
    ∙ rw (h, differs) refl

free_of_more : (earlier : List HashEntry) (e : HashEntry) (es : List HashEntry) → Free earlier es → AllByRecursion (λ (path : List ℕ). bytes_eq e.path path ≡ false) (paths_of es) → Free (earlier ++ e ∷ []) es
free_of_more earlier e [] h k = tt
free_of_more earlier e (x ∷ es) h k = (still_free earlier e x.path h.0 k.0, free_of_more earlier e es h.1 k.1)

fresh : (earlier es : List HashEntry) → Free earlier es → IsDistinct bytes_eq (paths_of es) → Fresh earlier es
fresh earlier [] h d = tt
fresh earlier (e ∷ es) h d =
    let apart = IsDistinct-head bytes_eq e.path (paths_of es) d in
    (h.0, fresh (earlier ++ e ∷ []) es (free_of_more earlier e es h.1 apart) (IsDistinct-tail bytes_eq e.path (paths_of es) d))

-- what was found, with these entries more
abbrev pub with_entries : List HashEntry → Found → Found
with_entries es found = record { creator = found.creator; entries = found.entries ++ es }

entries_behind : (es : List HashEntry) (out found : Found) → with_entries es found ≡ out → AllByRecursion IsWholeEntry es → Fresh found.entries es → length found.entries + length es ≤ most_entries → Spells (Lists out found) (flat_map entry_text es)
entries_behind [] out found is whole free few =
    let same : found ≡ out = ap (λ (entries : List HashEntry). (let f : Found = record { creator = found.creator; entries = entries } in f)) (sym (append-nil found.entries)) ∙ is in
    spells_nothing (Lists out found) same
entries_behind (e ∷ es) out found is whole free few =
    let next : Found = with_entry e found in
    let same : with_entries es next ≡ out = ap (λ (entries : List HashEntry). (let f : Found = record { creator = found.creator; entries = entries } in f)) (append_assoc found.entries (e ∷ []) es) ∙ is in
    let there : length next.entries + length es ≤ most_entries = omega (arith, length-append found.entries (e ∷ []), few) in
    spells_entry out found e (flat_map entry_text es) whole.0 free.0 (omega (arith, few)) (entries_behind es out next same whole.1 free.1 there)

-- entries with distinct paths, where none was found before
pub spells_entries : (es : List HashEntry) (out found : Found) → found.entries ≡ [] → with_entries es found ≡ out → AllByRecursion IsWholeEntry es → IsDistinct bytes_eq (paths_of es) → length es ≤ most_entries
    → Spells (Lists out found) (flat_map entry_text es)
spells_entries es out found none is whole distinct few =
    let free : Fresh found.entries es = subst (λ (earlier : List HashEntry). Fresh earlier es) (sym none) (fresh [] es (free_of_none es) distinct) in
    entries_behind es out found is whole free (omega (arith, few, ap length none))
