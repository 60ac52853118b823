-- What may still come, given what is open: content up to the end of each open element, and then the end of the document.
use Rattle.std.proofs.Common.{◌≡◌, inl, inr, ℕ, ◌+◌, Bool, true, false, cond, List, [], ◌∷◌, ◌++◌, length, Option, Some, None, Result, Ok, Err, refl, sym, ap, subst, ◌∙◌, append_assoc, arith}
use Rattle.std.proofs.lemmas.Bool.{leb-true, ltb-true}
use Rattle.markup.specs.Mark.{Named, Mark, start, stop, aside, text, Placed}
use Rattle.mhl_writer.specs.declared.values.HashEntry.{HashEntry}
use Rattle.mhl_reader.specs.declared.error.ReadError.{ReadError}
use Rattle.mhl_reader.specs.declared.found.HashLeaf.{HashLeaf}
use Rattle.mhl_reader.specs.declared.found.HashLeaves.{HashLeaves}
use Rattle.mhl_reader.specs.declared.found.CreatorLeaf.{CreatorLeaf}
use Rattle.mhl_reader.specs.declared.found.CreatorLeaves.{CreatorLeaves}
use Rattle.mhl_reader.specs.Leaves.{is_named, the_list, the_hash, the_creator, hash_leaf_name, creator_leaf_name, hash_leaf, with_leaf, no_leaves, entry_of, new_creator_leaf, with_creator_leaf, no_creator_leaves}
use Rattle.mhl_reader.specs.Grammar.{Content, nothing, a_text, an_aside, element, marks, Filler, Skipped, Leaf, HashContent, CreatorContent, Found, nothing_found, with_creator, with_entry, ListElement, a_hash, first_creator, another, list_element, most_entries, ListContent, Document}
use Rattle.mhl_reader.specs.Faults.{Base, before, in_list, in_hash, in_hash_leaf, in_creator, in_creator_leaf, after, State, depth, provided, entered_list, entered_hash, entered_creator, left_hash_leaf, left_hash, step_skipping, step, steps, ended_base, ended_skipping, ended, nothing_open}
use Rattle.mhl_reader.proofs.Steps.{bind_ok, steps_none, steps_more}
use Rattle.mhl_reader.proofs.Named.{name_is, hash_leaf_has_name, new_creator_leaf_has_name}
use Rattle.mhl_reader.proofs.Forward.{st, place_mark, ok, hash_is_named, creator_is_named}

-- content up to an end tag, and what holds of the rest
record Tail (word : List ℕ) (c : Content) (ts : List Placed) (Next : List Placed → Type 0) : Type 0 where
  pub end : ℕ
  pub others : List Placed
  pub split : ts ≡ marks c ++ place_mark end (stop word) ∷ others
  pub rest : Next others

tail_nothing : {word : List ℕ} {ts : List Placed} {Next : List Placed → Type 0} (place : ℕ) → Next ts → Tail word nothing (place_mark place (stop word) ∷ ts) Next
tail_nothing {word} {ts} {Next} place n = record { end = place; others = ts; split = refl; rest = n }

more : (m : Placed) (xs ys : List Placed) → xs ≡ ys → (m ∷ xs) ≡ (m ∷ ys)
more m xs ys e = ap (λ (ts : List Placed). m ∷ ts) e

tail_text : {word : List ℕ} {c : Content} {ts : List Placed} {Next : List Placed → Type 0} (place : ℕ) (raw : Bool) (bytes : List ℕ) → Tail word c ts Next → Tail word (a_text place raw bytes c) (place_mark place (text raw bytes) ∷ ts) Next
tail_text {word} {c} {ts} {Next} place raw bytes t = record { end = t.end; others = t.others; split = more (place_mark place (text raw bytes)) ts _ t.split; rest = t.rest }

tail_aside : {word : List ℕ} {c : Content} {ts : List Placed} {Next : List Placed → Type 0} (place : ℕ) → Tail word c ts Next → Tail word (an_aside place c) (place_mark place aside ∷ ts) Next
tail_aside {word} {c} {ts} {Next} place t = record { end = t.end; others = t.others; split = more (place_mark place aside) ts _ t.split; rest = t.rest }

tail_element : {word name : List ℕ} {inside next : Content} {ts others : List Placed} {Next : List Placed → Type 0} (place : ℕ) (attributes : List Named) (end : ℕ) → ts ≡ marks inside ++ place_mark end (stop name) ∷ others → Tail word next others Next
    → Tail word (element place name attributes inside end next) (place_mark place (start name attributes) ∷ ts) Next
tail_element {word} {name} {inside} {next} {ts} {others} {Next} place attributes end split t =
    let inner = marks inside in
    let stopped = place_mark end (stop name) in
    let behind = place_mark t.end (stop word) ∷ t.others in
    record {
      end = t.end;
      others = t.others;
      split = more (place_mark place (start name attributes)) ts _ (split ∙ ap (λ (r : List Placed). inner ++ stopped ∷ r) t.split ∙ sym (append_assoc inner (stopped ∷ marks next) behind));
      rest = t.rest;
    }

-- ---- what may come

abbrev AfterRest : Found → Found → List Placed → Type 0
AfterRest out found ts = (c : Content) × (ts ≡ marks c) × Filler c × (found ≡ out)

abbrev ListRest : Found → Found → List Placed → Type 0
ListRest out found ts = (c : Content) × (then : Found) × ListContent found c then × Tail the_list c ts (AfterRest out then)

abbrev HashRest : Found → Found → HashLeaves → List Placed → Type 0
HashRest out found h ts = (c : Content) × (then : HashLeaves) × (e : HashEntry) × HashContent found.entries h c then × (entry_of then ≡ Some e) × Tail the_hash c ts (ListRest out (with_entry e found))

abbrev HashLeafRest : Found → Found → HashLeaves → HashLeaf → List ℕ → List Placed → Type 0
HashLeafRest out found h leaf t ts = (c : Content) × (whole : List ℕ) × (then : HashLeaves) × Leaf t c whole × (with_leaf found.entries leaf whole h ≡ Some then) × Tail (hash_leaf_name leaf) c ts (HashRest out found then)

abbrev CreatorRest : Found → Found → CreatorLeaves → List Placed → Type 0
CreatorRest out found k ts = (c : Content) × (then : CreatorLeaves) × CreatorContent k c then × Tail the_creator c ts (ListRest out (with_creator then found))

abbrev CreatorLeafRest : Found → Found → CreatorLeaves → CreatorLeaf → List ℕ → List Placed → Type 0
CreatorLeafRest out found k leaf t ts = (c : Content) × (whole : List ℕ) × Leaf t c whole × Tail (creator_leaf_name leaf) c ts (CreatorRest out found (with_creator_leaf leaf whole k))

abbrev BeforeRest : Found → Found → List Placed → Type 0
BeforeRest out found ts = found ≡ nothing_found → (c : Content) × (ts ≡ marks c) × Document c out

abbrev BaseRest : Base → Found → Found → List Placed → Type 0
BaseRest before out found ts = BeforeRest out found ts
BaseRest in_list out found ts = ListRest out found ts
BaseRest (in_hash hash h) out found ts = HashRest out found h ts
BaseRest (in_hash_leaf hash h leaf at t) out found ts = HashLeafRest out found h leaf t ts
BaseRest (in_creator k) out found ts = CreatorRest out found k ts
BaseRest (in_creator_leaf k leaf t) out found ts = CreatorLeafRest out found k leaf t ts
BaseRest after out found ts = AfterRest out found ts

abbrev SkipRest : ℕ → List (List ℕ) → (List Placed → Type 0) → List Placed → Type 0
SkipRest d [] Next ts = Next ts
SkipRest d (n ∷ names) Next ts = (c : Content) × Skipped (d + length (n ∷ names) + 1) c × Tail n c ts (SkipRest d names Next)

abbrev Rest : State → Found → List Placed → Type 0
Rest s out ts = SkipRest (depth s.base) s.skipped (BaseRest s.base out s.found) ts

-- ---- what a step that is no fault was

ok_is : (a b : State) → ok a ≡ ok b → a ≡ b
ok_is a b e = cc

err_ok : {fault : ReadError} {b : State} → Err fault ≡ ok b → ⊥
err_ok e = cc

found_is : (a b : Found) → ◌≡◌ {A = Result Found ReadError} (Ok a) (Ok b) → a ≡ b
found_is a b e = cc

no_end : {fault : ReadError} {b : Found} → ◌≡◌ {A = Result Found ReadError} (Err fault) (Ok b) → ⊥
no_end e = cc

provided_ok : (b : Bool) (fault : ReadError) (r : Result State ReadError) (next : State) → provided b fault r ≡ Ok next → (b ≡ true) × (r ≡ Ok next)
provided_ok true fault r next e = (refl, e)
provided_ok false fault r next e = absurd (err_ok e)

unless_ok : (b : Bool) (fault : ReadError) (r : Result State ReadError) (next : State) → cond b (Err fault) r ≡ Ok next → (b ≡ false) × (r ≡ Ok next)
unless_ok true fault r next e = absurd (err_ok e)
unless_ok false fault r next e = (refl, e)

-- what may come after the state that a step leads to
led : (a next : State) (out : Found) (ts : List Placed) → ok a ≡ ok next → Rest next out ts → Rest a out ts
led a next out ts e r = subst (λ (s : State). Rest s out ts) (sym (ok_is a next e)) r

-- an end tag of another word is none
stopped : {word name : List ℕ} {ts : List Placed} (P : List Placed → Type 0) (place : ℕ) → is_named word name ≡ true → P (place_mark place (stop word) ∷ ts) → P (place_mark place (stop name) ∷ ts)
stopped {word} {name} {ts} P place e h = subst (λ (n : List ℕ). P (place_mark place (stop n) ∷ ts)) (sym (name_is word name e)) h

-- ---- back over one mark, in skipped elements

skip_back : (base : Base) (found : Found) (n : List ℕ) (names : List (List ℕ)) (out : Found) (place : ℕ) (m : Mark) (ts : List Placed) (next : State) → step_skipping (n ∷ names) (st base found (n ∷ names)) place m ≡ Ok next → Rest next out ts
    → Rest (st base found (n ∷ names)) out (place_mark place m ∷ ts)
skip_back base found n names out place (start name attributes) ts next e r =
    let p = provided_ok _ _ _ _ e in
    let inner = led (st base found (name ∷ n ∷ names)) next out ts p.1 r in
    let outer = inner.2.rest in
    let deeper : depth base + length (name ∷ n ∷ names) + 1 ≡ depth base + length (n ∷ names) + 1 + 1 = omega arith in
    let deep = leb-true (depth base + length (n ∷ names) + 1) 32 p.0 in
    (element place name attributes inner.0 inner.2.end outer.0, (deep, subst (λ (d : ℕ). Skipped d inner.0) deeper inner.1, outer.1), tail_element place attributes inner.2.end inner.2.split outer.2)
skip_back base found n names out place (stop name) ts next e r =
    let p = provided_ok _ _ _ _ e in
    stopped (λ ts. Rest (st base found (n ∷ names)) out ts) place p.0 (nothing, tt, tail_nothing place (led (st base found names) next out ts p.1 r))
skip_back base found n names out place aside ts next e r =
    let h = led (st base found (n ∷ names)) next out ts e r in
    (an_aside place h.0, h.1, tail_aside place h.2)
skip_back base found n names out place (text raw bytes) ts next e r =
    let h = led (st base found (n ∷ names)) next out ts e r in
    (a_text place raw bytes h.0, h.1, tail_text place raw bytes h.2)

-- a skipped element where nothing else is skipped
first_skip : (base : Base) (found : Found) (name : List ℕ) (out : Found) (ts : List Placed) → Rest (st base found (name ∷ [])) out ts → (c : Content) × Skipped (depth base + 2) c × Tail name c ts (BaseRest base out found)
first_skip base found name out ts h =
    let deep : depth base + length (name ∷ []) + 1 ≡ depth base + 2 = omega arith in
    (h.0, subst (λ (d : ℕ). Skipped d h.0) deep h.1, h.2)

-- ---- in a list

list_entered : (found out : Found) (place : ℕ) (name : List ℕ) (attributes : List Named) (ts : List Placed) (next : State) (kind : ListElement) → list_element found name ≡ kind → entered_list kind (st in_list found []) place name ≡ Ok next → Rest next out ts
    → ListRest out found (place_mark place (start name attributes) ∷ ts)
list_entered found out place name attributes ts next a_hash is e r =
    let p = provided_ok _ _ _ _ e in
    let few = ltb-true (length found.entries) most_entries p.0 in
    let (inside, h, entry, content, has_file, tail) = led (st (in_hash place no_leaves) found []) next out ts p.1 r in
    let (behind, then, others, last) = tail.rest in
    let named = name_is the_hash name (hash_is_named found name is) in
    let split = subst (λ (w : List ℕ). ts ≡ marks inside ++ place_mark tail.end (stop w) ∷ tail.others) (sym named) tail.split in
    (element place name attributes inside tail.end behind, then, inl (h, entry, is, few, content, has_file, others), tail_element place attributes tail.end split last)
list_entered found out place name attributes ts next first_creator is e r =
    let (inside, k, content, tail) = led (st (in_creator no_creator_leaves) found []) next out ts e r in
    let (behind, then, others, last) = tail.rest in
    let named = name_is the_creator name (creator_is_named found name is) in
    let split = subst (λ (w : List ℕ). ts ≡ marks inside ++ place_mark tail.end (stop w) ∷ tail.others) (sym named) tail.split in
    (element place name attributes inside tail.end behind, then, inr (inl (k, is, content, others)), tail_element place attributes tail.end split last)
list_entered found out place name attributes ts next another is e r =
    let (inside, skipped, tail) = first_skip (in_list) found name out ts (led (st in_list found (name ∷ [])) next out ts e r) in
    let (behind, then, others, last) = tail.rest in
    (element place name attributes inside tail.end behind, then, inr (inr (is, skipped, others)), tail_element place attributes tail.end tail.split last)

list_back : (found out : Found) (place : ℕ) (m : Mark) (ts : List Placed) (next : State) → step_skipping [] (st in_list found []) place m ≡ Ok next → Rest next out ts → ListRest out found (place_mark place m ∷ ts)
list_back found out place (start name attributes) ts next e r = list_entered found out place name attributes ts next (list_element found name) refl e r
list_back found out place (stop name) ts next e r =
    let p = provided_ok _ _ _ _ e in
    stopped (ListRest out found) place p.0 (nothing, found, refl, tail_nothing place (led (st after found []) next out ts p.1 r))
list_back found out place aside ts next e r =
    let (c, then, content, tail) = led (st in_list found []) next out ts e r in
    (an_aside place c, then, content, tail_aside place tail)
list_back found out place (text raw bytes) ts next e r =
    let p = provided_ok _ _ _ _ e in
    let (c, then, content, tail) = led (st in_list found []) next out ts p.1 r in
    (a_text place raw bytes c, then, (p.0, content), tail_text place raw bytes tail)

-- ---- in a hash

hash_entered : (found out : Found) (hash : ℕ) (h : HashLeaves) (place : ℕ) (name : List ℕ) (attributes : List Named) (ts : List Placed) (next : State) (leaf : Option HashLeaf) → hash_leaf name ≡ leaf → entered_hash leaf (st (in_hash hash h) found []) hash h place name ≡ Ok next → Rest next out ts
    → HashRest out found h (place_mark place (start name attributes) ∷ ts)
hash_entered found out hash h place name attributes ts next (Some leaf) is e r =
    let p = unless_ok _ _ _ _ e in
    let (inside, whole, added, leaf_text, adds, tail) = led (st (in_hash_leaf hash h leaf place []) found []) next out ts p.1 r in
    let (behind, then, entry, content, has_file, last) = tail.rest in
    let named = name_is (hash_leaf_name leaf) name (hash_leaf_has_name name leaf is) in
    let split = subst (λ (w : List ℕ). ts ≡ marks inside ++ place_mark tail.end (stop w) ∷ tail.others) (sym named) tail.split in
    (element place name attributes inside tail.end behind, then, entry, inl (leaf, whole, added, is, p.0, leaf_text, adds, content), has_file, tail_element place attributes tail.end split last)
hash_entered found out hash h place name attributes ts next None is e r =
    let (inside, skipped, tail) = first_skip (in_hash hash h) found name out ts (led (st (in_hash hash h) found (name ∷ [])) next out ts e r) in
    let (behind, then, entry, content, has_file, last) = tail.rest in
    (element place name attributes inside tail.end behind, then, entry, inr (is, skipped, content), has_file, tail_element place attributes tail.end tail.split last)

hash_left : (found out : Found) (hash : ℕ) (h : HashLeaves) (place : ℕ) (ts : List Placed) (next : State) (e : Option HashEntry) → entry_of h ≡ e → left_hash e (st (in_hash hash h) found []) hash ≡ Ok next → Rest next out ts → HashRest out found h (place_mark place (stop the_hash) ∷ ts)
hash_left found out hash h place ts next (Some entry) is e r = (nothing, h, entry, refl, is, tail_nothing place (led (st in_list (with_entry entry found) []) next out ts e r))
hash_left found out hash h place ts next None is e r = absurd (err_ok e)

hash_back : (found out : Found) (hash : ℕ) (h : HashLeaves) (place : ℕ) (m : Mark) (ts : List Placed) (next : State) → step_skipping [] (st (in_hash hash h) found []) place m ≡ Ok next → Rest next out ts → HashRest out found h (place_mark place m ∷ ts)
hash_back found out hash h place (start name attributes) ts next e r = hash_entered found out hash h place name attributes ts next (hash_leaf name) refl e r
hash_back found out hash h place (stop name) ts next e r =
    let p = provided_ok _ _ _ _ e in
    stopped (HashRest out found h) place p.0 (hash_left found out hash h place ts next (entry_of h) refl p.1 r)
hash_back found out hash h place aside ts next e r =
    let (c, then, entry, content, has_file, tail) = led (st (in_hash hash h) found []) next out ts e r in
    (an_aside place c, then, entry, content, has_file, tail_aside place tail)
hash_back found out hash h place (text raw bytes) ts next e r =
    let p = provided_ok _ _ _ _ e in
    let (c, then, entry, content, has_file, tail) = led (st (in_hash hash h) found []) next out ts p.1 r in
    (a_text place raw bytes c, then, entry, (p.0, content), has_file, tail_text place raw bytes tail)

hash_leaf_left : (found out : Found) (hash : ℕ) (h : HashLeaves) (leaf : HashLeaf) (at : ℕ) (t : List ℕ) (place : ℕ) (ts : List Placed) (next : State) (added : Option HashLeaves) → with_leaf found.entries leaf t h ≡ added → left_hash_leaf added (st (in_hash_leaf hash h leaf at t) found []) hash leaf at t ≡ Ok next → Rest next out ts
    → HashLeafRest out found h leaf t (place_mark place (stop (hash_leaf_name leaf)) ∷ ts)
hash_leaf_left found out hash h leaf at t place ts next (Some added) is e r = (nothing, t, added, refl, is, tail_nothing place (led (st (in_hash hash added) found []) next out ts e r))
hash_leaf_left found out hash h leaf at t place ts next None is e r = absurd (err_ok e)

hash_leaf_back : (found out : Found) (hash : ℕ) (h : HashLeaves) (leaf : HashLeaf) (at : ℕ) (t : List ℕ) (place : ℕ) (m : Mark) (ts : List Placed) (next : State) → step_skipping [] (st (in_hash_leaf hash h leaf at t) found []) place m ≡ Ok next → Rest next out ts
    → HashLeafRest out found h leaf t (place_mark place m ∷ ts)
hash_leaf_back found out hash h leaf at t place (start name attributes) ts next e r = absurd (err_ok e)
hash_leaf_back found out hash h leaf at t place (stop name) ts next e r =
    let p = provided_ok _ _ _ _ e in
    stopped (HashLeafRest out found h leaf t) place p.0 (hash_leaf_left found out hash h leaf at t place ts next (with_leaf found.entries leaf t h) refl p.1 r)
hash_leaf_back found out hash h leaf at t place aside ts next e r = absurd (err_ok e)
hash_leaf_back found out hash h leaf at t place (text raw bytes) ts next e r =
    let (c, whole, then, leaf_text, adds, tail) = led (st (in_hash_leaf hash h leaf at (t ++ bytes)) found []) next out ts e r in
    (a_text place raw bytes c, whole, then, leaf_text, adds, tail_text place raw bytes tail)

-- ---- in a creator

creator_entered : (found out : Found) (k : CreatorLeaves) (place : ℕ) (name : List ℕ) (attributes : List Named) (ts : List Placed) (next : State) (leaf : Option CreatorLeaf) → new_creator_leaf k name ≡ leaf → entered_creator leaf (st (in_creator k) found []) k name ≡ Ok next → Rest next out ts
    → CreatorRest out found k (place_mark place (start name attributes) ∷ ts)
creator_entered found out k place name attributes ts next (Some leaf) is e r =
    let (inside, whole, leaf_text, tail) = led (st (in_creator_leaf k leaf []) found []) next out ts e r in
    let (behind, then, content, last) = tail.rest in
    let named = name_is (creator_leaf_name leaf) name (new_creator_leaf_has_name k name leaf is) in
    let split = subst (λ (w : List ℕ). ts ≡ marks inside ++ place_mark tail.end (stop w) ∷ tail.others) (sym named) tail.split in
    (element place name attributes inside tail.end behind, then, inl (leaf, whole, is, leaf_text, content), tail_element place attributes tail.end split last)
creator_entered found out k place name attributes ts next None is e r =
    let (inside, skipped, tail) = first_skip (in_creator k) found name out ts (led (st (in_creator k) found (name ∷ [])) next out ts e r) in
    let (behind, then, content, last) = tail.rest in
    (element place name attributes inside tail.end behind, then, inr (is, skipped, content), tail_element place attributes tail.end tail.split last)

creator_back : (found out : Found) (k : CreatorLeaves) (place : ℕ) (m : Mark) (ts : List Placed) (next : State) → step_skipping [] (st (in_creator k) found []) place m ≡ Ok next → Rest next out ts → CreatorRest out found k (place_mark place m ∷ ts)
creator_back found out k place (start name attributes) ts next e r = creator_entered found out k place name attributes ts next (new_creator_leaf k name) refl e r
creator_back found out k place (stop name) ts next e r =
    let p = provided_ok _ _ _ _ e in
    stopped (CreatorRest out found k) place p.0 (nothing, k, refl, tail_nothing place (led (st in_list (with_creator k found) []) next out ts p.1 r))
creator_back found out k place aside ts next e r =
    let (c, then, content, tail) = led (st (in_creator k) found []) next out ts e r in
    (an_aside place c, then, content, tail_aside place tail)
creator_back found out k place (text raw bytes) ts next e r =
    let p = provided_ok _ _ _ _ e in
    let (c, then, content, tail) = led (st (in_creator k) found []) next out ts p.1 r in
    (a_text place raw bytes c, then, (p.0, content), tail_text place raw bytes tail)

creator_leaf_back : (found out : Found) (k : CreatorLeaves) (leaf : CreatorLeaf) (t : List ℕ) (place : ℕ) (m : Mark) (ts : List Placed) (next : State) → step_skipping [] (st (in_creator_leaf k leaf t) found []) place m ≡ Ok next → Rest next out ts
    → CreatorLeafRest out found k leaf t (place_mark place m ∷ ts)
creator_leaf_back found out k leaf t place (start name attributes) ts next e r = absurd (err_ok e)
creator_leaf_back found out k leaf t place (stop name) ts next e r =
    let p = provided_ok _ _ _ _ e in
    stopped (CreatorLeafRest out found k leaf t) place p.0 (nothing, t, refl, tail_nothing place (led (st (in_creator (with_creator_leaf leaf t k)) found []) next out ts p.1 r))
creator_leaf_back found out k leaf t place aside ts next e r = absurd (err_ok e)
creator_leaf_back found out k leaf t place (text raw bytes) ts next e r =
    let (c, whole, leaf_text, tail) = led (st (in_creator_leaf k leaf (t ++ bytes)) found []) next out ts e r in
    (a_text place raw bytes c, whole, leaf_text, tail_text place raw bytes tail)

-- ---- before the list and behind it

after_back : (found out : Found) (place : ℕ) (m : Mark) (ts : List Placed) (next : State) → step_skipping [] (st after found []) place m ≡ Ok next → Rest next out ts → AfterRest out found (place_mark place m ∷ ts)
after_back found out place (start name attributes) ts next e r = absurd (err_ok e)
after_back found out place (stop name) ts next e r = absurd (err_ok e)
after_back found out place aside ts next e r =
    let (c, is, filler, same) = led (st after found []) next out ts e r in
    (an_aside place c, more (place_mark place aside) ts (marks c) is, filler, same)
after_back found out place (text raw bytes) ts next e r =
    let p = provided_ok _ _ _ _ e in
    let (c, is, filler, same) = led (st after found []) next out ts p.1 r in
    (a_text place raw bytes c, more (place_mark place (text raw bytes)) ts (marks c) is, (p.0, filler), same)

before_back : (found out : Found) (place : ℕ) (m : Mark) (ts : List Placed) (next : State) → step_skipping [] (st before found []) place m ≡ Ok next → Rest next out ts → BeforeRest out found (place_mark place m ∷ ts)
before_back found out place (start name attributes) ts next e r = λ none.
    let p = provided_ok _ _ _ _ e in
    let v = provided_ok _ _ _ _ p.1 in
    let (inside, then, content, tail) = led (st in_list found []) next out ts v.1 r in
    let (behind, is, filler, same) = tail.rest in
    let named = name_is the_list name p.0 in
    let first = place_mark place (start name attributes) in
    let split = subst (λ (w : List ℕ). ts ≡ marks inside ++ place_mark tail.end (stop w) ∷ tail.others) (sym named) tail.split in
    let whole = split ∙ ap (λ (r : List Placed). marks inside ++ place_mark tail.end (stop name) ∷ r) is in
    let read = subst (λ (f : Found). ListContent f inside out) none (subst (λ (f : Found). ListContent found inside f) same content) in
    (element place name attributes inside tail.end behind, more first ts _ whole, (p.0, v.0, read, filler))
before_back found out place (stop name) ts next e r = absurd (err_ok e)
before_back found out place aside ts next e r = λ none.
    let (c, is, document) = led (st before found []) next out ts e r none in
    (an_aside place c, more (place_mark place aside) ts (marks c) is, document)
before_back found out place (text raw bytes) ts next e r = λ none.
    let p = provided_ok _ _ _ _ e in
    let (c, is, document) = led (st before found []) next out ts p.1 r none in
    (a_text place raw bytes c, more (place_mark place (text raw bytes)) ts (marks c) is, (p.0, document))

-- ---- back over all marks

base_back : (base : Base) (found out : Found) (place : ℕ) (m : Mark) (ts : List Placed) (next : State) → step_skipping [] (st base found []) place m ≡ Ok next → Rest next out ts → BaseRest base out found (place_mark place m ∷ ts)
base_back before found out place m ts next e r = before_back found out place m ts next e r
base_back in_list found out place m ts next e r = list_back found out place m ts next e r
base_back (in_hash hash h) found out place m ts next e r = hash_back found out hash h place m ts next e r
base_back (in_hash_leaf hash h leaf at t) found out place m ts next e r = hash_leaf_back found out hash h leaf at t place m ts next e r
base_back (in_creator k) found out place m ts next e r = creator_back found out k place m ts next e r
base_back (in_creator_leaf k leaf t) found out place m ts next e r = creator_leaf_back found out k leaf t place m ts next e r
base_back after found out place m ts next e r = after_back found out place m ts next e r

back : (base : Base) (found : Found) (names : List (List ℕ)) (out : Found) (place : ℕ) (m : Mark) (ts : List Placed) (next : State) → step_skipping names (st base found names) place m ≡ Ok next → Rest next out ts → Rest (st base found names) out (place_mark place m ∷ ts)
back base found [] out place m ts next e r = base_back base found out place m ts next e r
back base found (n ∷ names) out place m ts next e r = skip_back base found n names out place m ts next e r

-- the end of the input
base_ended : (base : Base) (found out : Found) (len : ℕ) → ended_base base found len ≡ Ok out → BaseRest base out found []
base_ended after found out len e = (nothing, refl, tt, found_is found out e)
base_ended before found out len e = absurd (no_end e)
base_ended in_list found out len e = absurd (no_end e)
base_ended (in_hash hash h) found out len e = absurd (no_end e)
base_ended (in_hash_leaf hash h leaf at t) found out len e = absurd (no_end e)
base_ended (in_creator k) found out len e = absurd (no_end e)
base_ended (in_creator_leaf k leaf t) found out len e = absurd (no_end e)

all_ended : (base : Base) (found : Found) (names : List (List ℕ)) (out : Found) (len : ℕ) → ended_skipping names (st base found names) len ≡ Ok out → Rest (st base found names) out []
all_ended base found [] out len e = base_ended base found out len e
all_ended base found (n ∷ names) out len e = absurd (no_end e)

all_back : (ts : List Placed) (s last : State) (out : Found) (len : ℕ) → steps s ts ≡ Ok last → ended last len ≡ Ok out → Rest s out ts
all_back [] s last out len e f = subst (λ (s : State). Rest s out []) (sym (ok_is s last (sym (steps_none s) ∙ e))) (all_ended last.base last.found last.skipped out len f)
all_back (m ∷ ts) s last out len e f =
    let g = bind_ok (step s m) (λ next. steps next ts) last (sym (steps_more s m ts) ∙ e) in
    back s.base s.found s.skipped out m.place m.mark ts g.0 g.1 (all_back ts g.0 last out len g.2 f)

-- steps without a fault up to the end of the input read a document
pub document_read : (ts : List Placed) (last : State) (out : Found) (len : ℕ) → steps nothing_open ts ≡ Ok last → ended last len ≡ Ok out → (c : Content) × (ts ≡ marks c) × Document c out
document_read ts last out len e f = all_back ts nothing_open last out len e f refl
