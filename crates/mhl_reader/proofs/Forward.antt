-- Content that is as the grammar says goes through the steps.
use Rattle.std.proofs.Common.{◌≡◌, inl, inr, ℕ, ◌+◌, Bool, true, false, cond, ◌&&◌, List, [], ◌∷◌, ◌++◌, length, Option, Result, Ok, Err, refl, ap, subst, ◌∙◌, arith}
use Rattle.std.specs.Prelude.{is_none}
use Rattle.std.proofs.lemmas.Bool.{le-leb, lt-ltb}
use Rattle.markup.specs.Mark.{Mark, start, stop, aside, text, Placed}
use Rattle.mhl_writer.specs.declared.values.HashEntry.{HashEntry}
use Rattle.mhl_reader.specs.declared.error.ReadError.{ReadError}
use Rattle.mhl_reader.specs.declared.error.ReadError.TheVariants.{Malformed}
use Rattle.mhl_reader.specs.declared.found.HashLeaf.{HashLeaf}
use Rattle.mhl_reader.specs.declared.found.HashLeaves.{HashLeaves}
use Rattle.mhl_reader.specs.declared.found.CreatorLeaf.{CreatorLeaf}
use Rattle.mhl_reader.specs.declared.found.CreatorLeaves.{CreatorLeaves}
use Rattle.mhl_reader.specs.Leaves.{is_named, the_hash, the_creator, no_leaves, with_creator_leaf, no_creator_leaves}
use Rattle.mhl_reader.specs.Grammar.{Content, nothing, a_text, an_aside, element, marks, Filler, Skipped, Leaf, HashContent, CreatorContent, Found, nothing_found, with_creator, with_entry, ListElement, a_hash, first_creator, another, list_element, most_entries, ListContent, Document}
use Rattle.mhl_reader.specs.Faults.{Base, in_list, in_hash, in_hash_leaf, in_creator, in_creator_leaf, after, State, depth, provided, entered_list, entered_hash, entered_creator, left_hash_leaf, left_hash, step, steps, nothing_open}
use Rattle.mhl_reader.proofs.Steps.{steps_none, one_step, around}
use Rattle.mhl_reader.proofs.Named.{same_name, hash_leaf_has_name, new_creator_leaf_has_name}

abbrev pub st : Base → Found → List (List ℕ) → State
st base found names = record { base = base; found = found; skipped = names }

abbrev pub place_mark : ℕ → Mark → Placed
place_mark place mark = record { place = place; mark = mark }

abbrev pub ok : State → Result State ReadError
ok s = Ok s

-- a fault is not met where its test passes
given_true : (b : Bool) (fault : ReadError) (r : Result State ReadError) → b ≡ true → provided b fault r ≡ r
given_true b fault r e = ap (λ (b : Bool). provided b fault r) e

-- ---- skipped elements

skipped_steps : (base : Base) (found : Found) (n : List ℕ) (names : List (List ℕ)) (c : Content) → Skipped (depth base + length (n ∷ names) + 1) c → steps (st base found (n ∷ names)) (marks c) ≡ Ok (st base found (n ∷ names))
skipped_steps base found n names nothing h = steps_none (st base found (n ∷ names))
skipped_steps base found n names (a_text place raw bytes next) h = one_step (st base found (n ∷ names)) (st base found (n ∷ names)) (place_mark place (text raw bytes)) (marks next) refl ∙ skipped_steps base found n names next h
skipped_steps base found n names (an_aside place next) h = one_step (st base found (n ∷ names)) (st base found (n ∷ names)) (place_mark place aside) (marks next) refl ∙ skipped_steps base found n names next h
skipped_steps base found n names (element place name attributes inside end next) h =
    let s = st base found (n ∷ names) in
    let inner = st base found (name ∷ n ∷ names) in
    let deeper : depth base + length (n ∷ names) + 1 + 1 ≡ depth base + length (name ∷ n ∷ names) + 1 = omega arith in
    around s inner inner s s (place_mark place (start name attributes)) (place_mark end (stop name)) inside next
    (given_true _ _ (ok inner) (le-leb (depth base + length (n ∷ names) + 1) 32 h.0))
    (skipped_steps base found name (n ∷ names) inside (subst (λ (d : ℕ). Skipped d inside) deeper h.1))
    (given_true _ _ (ok s) (same_name name))
    (skipped_steps base found n names next h.2)

-- one that is skipped where nothing is
first_skipped : (base : Base) (found : Found) (name : List ℕ) (c : Content) → Skipped (depth base + 2) c → steps (st base found (name ∷ [])) (marks c) ≡ Ok (st base found (name ∷ []))
first_skipped base found name c h =
    let deep : depth base + 2 ≡ depth base + length (name ∷ []) + 1 = omega arith in
    skipped_steps base found name [] c (subst (λ (d : ℕ). Skipped d c) deep h)

-- its end
skipped_ends : (base : Base) (found : Found) (name : List ℕ) (place : ℕ) → step (st base found (name ∷ [])) (place_mark place (stop name)) ≡ Ok (st base found [])
skipped_ends base found name place = given_true _ _ (ok (st base found [])) (same_name name)

-- ---- leaves

hash_leaf_steps : (found : Found) (hash : ℕ) (h : HashLeaves) (leaf : HashLeaf) (at : ℕ) (t : List ℕ) (c : Content) (out : List ℕ) → Leaf t c out → steps (st (in_hash_leaf hash h leaf at t) found []) (marks c) ≡ Ok (st (in_hash_leaf hash h leaf at out) found [])
hash_leaf_steps found hash h leaf at t nothing out l = steps_none (st (in_hash_leaf hash h leaf at t) found []) ∙ ap (λ (t : List ℕ). ok (st (in_hash_leaf hash h leaf at t) found [])) l
hash_leaf_steps found hash h leaf at t (a_text place raw bytes next) out l =
    one_step (st (in_hash_leaf hash h leaf at t) found []) (st (in_hash_leaf hash h leaf at (t ++ bytes)) found []) (place_mark place (text raw bytes)) (marks next) refl
    ∙ hash_leaf_steps found hash h leaf at (t ++ bytes) next out l
hash_leaf_steps found hash h leaf at t (an_aside place next) out l = absurd l
hash_leaf_steps found hash h leaf at t (element place name attributes inside end next) out l = absurd l

creator_leaf_steps : (found : Found) (k : CreatorLeaves) (leaf : CreatorLeaf) (t : List ℕ) (c : Content) (out : List ℕ) → Leaf t c out → steps (st (in_creator_leaf k leaf t) found []) (marks c) ≡ Ok (st (in_creator_leaf k leaf out) found [])
creator_leaf_steps found k leaf t nothing out l = steps_none (st (in_creator_leaf k leaf t) found []) ∙ ap (λ (t : List ℕ). ok (st (in_creator_leaf k leaf t) found [])) l
creator_leaf_steps found k leaf t (a_text place raw bytes next) out l =
    one_step (st (in_creator_leaf k leaf t) found []) (st (in_creator_leaf k leaf (t ++ bytes)) found []) (place_mark place (text raw bytes)) (marks next) refl
    ∙ creator_leaf_steps found k leaf (t ++ bytes) next out l
creator_leaf_steps found k leaf t (an_aside place next) out l = absurd l
creator_leaf_steps found k leaf t (element place name attributes inside end next) out l = absurd l

-- ---- a hash

hash_steps : (found : Found) (hash : ℕ) (h : HashLeaves) (c : Content) (out : HashLeaves) → HashContent found.entries h c out → steps (st (in_hash hash h) found []) (marks c) ≡ Ok (st (in_hash hash out) found [])
hash_steps found hash h nothing out m = steps_none (st (in_hash hash h) found []) ∙ ap (λ (h : HashLeaves). ok (st (in_hash hash h) found [])) m
hash_steps found hash h (a_text place raw bytes next) out m =
    let s = st (in_hash hash h) found [] in
    one_step s s (place_mark place (text raw bytes)) (marks next) (given_true _ _ (ok s) m.0) ∙ hash_steps found hash h next out m.1
hash_steps found hash h (an_aside place next) out m =
    let s = st (in_hash hash h) found [] in
    one_step s s (place_mark place aside) (marks next) refl ∙ hash_steps found hash h next out m
hash_steps found hash h (element place name attributes inside end next) out (inl m) =
    let (leaf, t, then, is_leaf, first, leaf_text, added, rest) = m in
    let s = st (in_hash hash h) found [] in
    let inner = st (in_hash_leaf hash h leaf place []) found [] in
    let filled = st (in_hash_leaf hash h leaf place t) found [] in
    let behind = st (in_hash hash then) found [] in
    around s inner filled behind (st (in_hash hash out) found []) (place_mark place (start name attributes)) (place_mark end (stop name)) inside next
    (ap (λ (l : Option HashLeaf). entered_hash l s hash h place name) is_leaf ∙ ap (λ (b : Bool). cond b (Err (Malformed place)) (ok inner)) first)
    (hash_leaf_steps found hash h leaf place [] inside t leaf_text)
    (given_true _ _ _ (hash_leaf_has_name name leaf is_leaf) ∙ ap (λ (l : Option HashLeaves). left_hash_leaf l filled hash leaf place t) added)
    (hash_steps found hash then next out rest)
hash_steps found hash h (element place name attributes inside end next) out (inr m) =
    let s = st (in_hash hash h) found [] in
    let inner = st (in_hash hash h) found (name ∷ []) in
    around s inner inner s (st (in_hash hash out) found []) (place_mark place (start name attributes)) (place_mark end (stop name)) inside next
    (ap (λ (l : Option HashLeaf). entered_hash l s hash h place name) m.0)
    (first_skipped (in_hash hash h) found name inside m.1)
    (skipped_ends (in_hash hash h) found name end)
    (hash_steps found hash h next out m.2)

-- ---- a creator

creator_steps : (found : Found) (k : CreatorLeaves) (c : Content) (out : CreatorLeaves) → CreatorContent k c out → steps (st (in_creator k) found []) (marks c) ≡ Ok (st (in_creator out) found [])
creator_steps found k nothing out m = steps_none (st (in_creator k) found []) ∙ ap (λ (k : CreatorLeaves). ok (st (in_creator k) found [])) m
creator_steps found k (a_text place raw bytes next) out m =
    let s = st (in_creator k) found [] in
    one_step s s (place_mark place (text raw bytes)) (marks next) (given_true _ _ (ok s) m.0) ∙ creator_steps found k next out m.1
creator_steps found k (an_aside place next) out m =
    let s = st (in_creator k) found [] in
    one_step s s (place_mark place aside) (marks next) refl ∙ creator_steps found k next out m
creator_steps found k (element place name attributes inside end next) out (inl m) =
    let (leaf, t, is_leaf, leaf_text, rest) = m in
    let s = st (in_creator k) found [] in
    let inner = st (in_creator_leaf k leaf []) found [] in
    let filled = st (in_creator_leaf k leaf t) found [] in
    let behind = st (in_creator (with_creator_leaf leaf t k)) found [] in
    around s inner filled behind (st (in_creator out) found []) (place_mark place (start name attributes)) (place_mark end (stop name)) inside next
    (ap (λ (l : Option CreatorLeaf). entered_creator l s k name) is_leaf)
    (creator_leaf_steps found k leaf [] inside t leaf_text)
    (given_true _ _ _ (new_creator_leaf_has_name k name leaf is_leaf))
    (creator_steps found (with_creator_leaf leaf t k) next out rest)
creator_steps found k (element place name attributes inside end next) out (inr m) =
    let s = st (in_creator k) found [] in
    let inner = st (in_creator k) found (name ∷ []) in
    around s inner inner s (st (in_creator out) found []) (place_mark place (start name attributes)) (place_mark end (stop name)) inside next
    (ap (λ (l : Option CreatorLeaf). entered_creator l s k name) m.0)
    (first_skipped (in_creator k) found name inside m.1)
    (skipped_ends (in_creator k) found name end)
    (creator_steps found k next out m.2)

-- ---- a list

first_is : (b c : Bool) → cond b a_hash (cond c first_creator another) ≡ a_hash → b ≡ true
first_is true c e = refl
first_is false true e = absurd cc
first_is false false e = absurd cc

second_is : (a b c : Bool) → cond a a_hash (cond (b && c) first_creator another) ≡ first_creator → b ≡ true
second_is true b c e = absurd cc
second_is false true c e = refl
second_is false false c e = absurd cc

-- what the name of an element of a list is
pub hash_is_named : (found : Found) (name : List ℕ) → list_element found name ≡ a_hash → is_named the_hash name ≡ true
hash_is_named found name e = first_is (is_named the_hash name) (is_named the_creator name && is_none found.creator) e

pub creator_is_named : (found : Found) (name : List ℕ) → list_element found name ≡ first_creator → is_named the_creator name ≡ true
creator_is_named found name e = second_is (is_named the_hash name) (is_named the_creator name) (is_none found.creator) e

list_steps : (found : Found) (c : Content) (out : Found) → ListContent found c out → steps (st in_list found []) (marks c) ≡ Ok (st in_list out [])
list_steps found nothing out m = steps_none (st in_list found []) ∙ ap (λ (found : Found). ok (st in_list found [])) m
list_steps found (a_text place raw bytes next) out m =
    let s = st in_list found [] in
    one_step s s (place_mark place (text raw bytes)) (marks next) (given_true _ _ (ok s) m.0) ∙ list_steps found next out m.1
list_steps found (an_aside place next) out m =
    let s = st in_list found [] in
    one_step s s (place_mark place aside) (marks next) refl ∙ list_steps found next out m
list_steps found (element place name attributes inside end next) out (inl m) =
    let (h, e, is_hash, few, content, has_file, rest) = m in
    let s = st in_list found [] in
    let inner = st (in_hash place no_leaves) found [] in
    let filled = st (in_hash place h) found [] in
    let behind = st in_list (with_entry e found) [] in
    around s inner filled behind (st in_list out []) (place_mark place (start name attributes)) (place_mark end (stop name)) inside next
    (ap (λ (l : ListElement). entered_list l s place name) is_hash ∙ given_true _ _ (ok inner) (lt-ltb (length found.entries) most_entries few))
    (hash_steps found place no_leaves inside h content)
    (given_true _ _ _ (hash_is_named found name is_hash) ∙ ap (λ (l : Option HashEntry). left_hash l filled place) has_file)
    (list_steps (with_entry e found) next out rest)
list_steps found (element place name attributes inside end next) out (inr (inl m)) =
    let (k, is_creator, content, rest) = m in
    let s = st in_list found [] in
    let inner = st (in_creator no_creator_leaves) found [] in
    let filled = st (in_creator k) found [] in
    let behind = st in_list (with_creator k found) [] in
    around s inner filled behind (st in_list out []) (place_mark place (start name attributes)) (place_mark end (stop name)) inside next
    (ap (λ (l : ListElement). entered_list l s place name) is_creator)
    (creator_steps found no_creator_leaves inside k content)
    (given_true _ _ _ (creator_is_named found name is_creator))
    (list_steps (with_creator k found) next out rest)
list_steps found (element place name attributes inside end next) out (inr (inr m)) =
    let s = st in_list found [] in
    let inner = st in_list found (name ∷ []) in
    around s inner inner s (st in_list out []) (place_mark place (start name attributes)) (place_mark end (stop name)) inside next
    (ap (λ (l : ListElement). entered_list l s place name) m.0)
    (first_skipped in_list found name inside m.1)
    (skipped_ends in_list found name end)
    (list_steps found next out m.2)

-- ---- a document

filler_steps : (found : Found) (c : Content) → Filler c → steps (st after found []) (marks c) ≡ Ok (st after found [])
filler_steps found nothing m = steps_none (st after found [])
filler_steps found (a_text place raw bytes next) m =
    let s = st after found [] in
    one_step s s (place_mark place (text raw bytes)) (marks next) (given_true _ _ (ok s) m.0) ∙ filler_steps found next m.1
filler_steps found (an_aside place next) m =
    let s = st after found [] in
    one_step s s (place_mark place aside) (marks next) refl ∙ filler_steps found next m
filler_steps found (element place name attributes inside end next) m = absurd m

pub document_steps : (c : Content) (out : Found) → Document c out → steps nothing_open (marks c) ≡ Ok (st after out [])
document_steps nothing out m = absurd m
document_steps (a_text place raw bytes next) out m = one_step nothing_open nothing_open (place_mark place (text raw bytes)) (marks next) (given_true _ _ (ok nothing_open) m.0) ∙ document_steps next out m.1
document_steps (an_aside place next) out m = one_step nothing_open nothing_open (place_mark place aside) (marks next) refl ∙ document_steps next out m
document_steps (element place name attributes inside end next) out m =
    let (named, version, content, filler) = m in
    let inner = st in_list nothing_found [] in
    let filled = st in_list out [] in
    let behind = st after out [] in
    around nothing_open inner filled behind behind (place_mark place (start name attributes)) (place_mark end (stop name)) inside next
    (given_true _ _ _ named ∙ given_true _ _ (ok inner) version)
    (list_steps nothing_found inside out content)
    (given_true _ _ (ok behind) named)
    (filler_steps out next filler)
