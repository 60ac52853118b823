-- Attributes are taken exactly.
use Rattle.std.proofs.Common.{◌≡◌, inl, inr, ℕ, zero, suc, ◌+◌, ◌<◌, ◌≤◌, true, false, cond, ◌||◌, eqb, List, [], ◌∷◌, ◌++◌, length, map, Option, Some, None, refl, sym, ap, subst, ◌∙◌, append_assoc, length-append, codes, arith}
use Rattle.std.specs.Prelude.{IsTrue, option_map}
use Rattle.std.specs.List.{flat_map, list_all, AllByRecursion}
use Rattle.std.proofs.lemmas.Bool.{eq-eqb, ne_eqb, cases_eq}
use Rattle.std.proofs.lemmas.List.{append-nil}
use Rattle.markup.specs.Piece.{begins_name, is_space, IsName, Attribute, in_value, spelled_attribute, IsAttribute}
use Rattle.markup.specs.Mark.{Named, pair_of}
use Rattle.markup.specs.Taking.{◌>>=◌, strip, front, back, name_at, quoted_at, attribute_at, ends_tag, begins_space, attributes_at, attributes_of}
use Rattle.markup.proofs.Options.{bind_some, which, some_is, none_some, option_cases, elim_bool, true_false, strip_takes, strip_again}
use Rattle.markup.proofs.Names.{front_back, front_passes, front_at, back_again, StopsAt, name_takes, name_again, begins_goes, no_space, space_stops}

both_heads : (a b : Named) (xs ys : List Named) → a ≡ b → xs ≡ ys → (a ∷ xs) ≡ (b ∷ ys)
both_heads a b xs ys p q = cc

back_space : (b : ℕ) (bs : List ℕ) → is_space b ≡ true → back is_space (b ∷ bs) ≡ back is_space bs
unfolding back
back_space b bs h = rw h refl

regroup_attribute : (a : Attribute) (rest : List ℕ) → spelled_attribute a ++ rest ≡ a.first_space ∷ (a.space ++ (a.name ++ (a.left ++ 61 ∷ (a.right ++ a.quote ∷ (a.value ++ a.quote ∷ rest)))))
regroup_attribute a rest = simp append_assoc

name_stops : (name rest : List ℕ) → IsName name → StopsAt is_space (name ++ rest)
name_stops [] rest n = absurd n
name_stops (b ∷ bs) rest n = no_space b (begins_goes b n.0)

quote_stops : (q : ℕ) → IsTrue (eqb q 34 || eqb q 39) → is_space q ≡ false
quote_stops q h = elim (cases_eq q 34) [
  | inl e ↦ rw e refl
  | inr m ↦ elim (cases_eq q 39) [
    | inl e ↦ rw e refl
    | inr n ↦ absurd (true_false (sym h ∙ rw (ne_eqb q 34 m, ne_eqb q 39 n) refl))
  ]
]

name_goes_on : (name rest : List ℕ) → IsName name → ends_tag (name ++ rest) ≡ false
name_goes_on [] rest n = absurd n
name_goes_on (b ∷ bs) rest n = elim (cases_eq b 62) [
  | inl e ↦ absurd (true_false (sym n.0 ∙ ap begins_name e))
  | inr m ↦ elim (cases_eq b 47) [
    | inl e ↦ absurd (true_false (sym n.0 ∙ ap begins_name e))
    | inr k ↦ rw (ne_eqb b 62 m, ne_eqb b 47 k) refl
  ]
]

not_ended : (a : Attribute) (rest : List ℕ) → IsAttribute a → ends_tag (back is_space (spelled_attribute a ++ rest)) ≡ false
not_ended a rest h =
    let after_name = a.left ++ 61 ∷ (a.right ++ a.quote ∷ (a.value ++ a.quote ∷ rest)) in
    let start : back is_space (spelled_attribute a ++ rest) ≡ a.name ++ after_name = ap (back is_space) (regroup_attribute a rest) ∙ back_space a.first_space (a.space ++ (a.name ++ after_name)) h.first_space ∙ (front_at is_space a.space (a.name ++ after_name) h.space (name_stops a.name after_name h.name)).1 in
    ap ends_tag start ∙ name_goes_on a.name after_name h.name

-- ---- one attribute

pub quoted_none : (name : List ℕ) → quoted_at name [] ≡ None
unfolding quoted_at
quoted_none name = refl

pub quoted_other : (name : List ℕ) (q : ℕ) (bs : List ℕ) → (eqb q 34 || eqb q 39) ≡ false → quoted_at name (q ∷ bs) ≡ None
unfolding quoted_at
quoted_other name q bs h = rw h refl

pub quoted_open : (name : List ℕ) (q : ℕ) (bs : List ℕ) → (eqb q 34 || eqb q 39) ≡ true → strip (q ∷ []) (back (in_value q) bs) ≡ None → quoted_at name (q ∷ bs) ≡ None
unfolding quoted_at
quoted_open name q bs h e = rw (h, e) refl

pub quoted_whole : (name : List ℕ) (q : ℕ) (bs rest : List ℕ) → (eqb q 34 || eqb q 39) ≡ true → strip (q ∷ []) (back (in_value q) bs) ≡ Some rest → quoted_at name (q ∷ bs) ≡ Some ((name, front (in_value q) bs), rest)
unfolding quoted_at
quoted_whole name q bs rest h e = rw (h, e) refl

quoted_takes : (name bytes : List ℕ) (x : Named × List ℕ) → quoted_at name bytes ≡ Some x → (q : ℕ) × (value : List ℕ) × (bytes ≡ q ∷ (value ++ q ∷ x.1)) × IsTrue (eqb q 34 || eqb q 39) × IsTrue (list_all (in_value q) value) × (x.0 ≡ (name, value))
unfolding quoted_at
quoted_takes name [] x e = absurd cc
quoted_takes name (q ∷ bs) x e =
    elim (which {X = Option (Named × List ℕ)} (eqb q 34 || eqb q 39) (strip (q ∷ []) (back (in_value q) bs) >>= λ rest. Some ((name, front (in_value q) bs), rest)) None (Some x) e) [
      | inl h ↦ (let a = bind_some (strip (q ∷ []) (back (in_value q) bs)) (λ rest. Some ((name, front (in_value q) bs), rest)) x h.1 in
          let made : Named × List ℕ = ((name, front (in_value q) bs), a.0) in
          subst (λ (y : Named × List ℕ). (p : ℕ) × (value : List ℕ) × (q ∷ bs ≡ p ∷ (value ++ p ∷ y.1)) × IsTrue (eqb p 34 || eqb p 39) × IsTrue (list_all (in_value p) value) × (y.0 ≡ (name, value))) (some_is made x a.2)
          (q, front (in_value q) bs, ap (λ (r : List ℕ). q ∷ r) (front_back (in_value q) bs ∙ ap (λ (r : List ℕ). front (in_value q) bs ++ r) (strip_takes (q ∷ []) (back (in_value q) bs) a.0 a.1)), h.0, front_passes (in_value q) bs, refl))
      | inr h ↦ absurd cc
    ]

abbrev pub TakenAttribute : List ℕ → Named × List ℕ → Type 0
TakenAttribute bytes x = (a : Attribute) × IsAttribute a × (bytes ≡ spelled_attribute a ++ x.1) × (pair_of a ≡ x.0)

pub attribute_takes : (b : ℕ) (bs : List ℕ) (x : Named × List ℕ) → is_space b ≡ true → attribute_at (b ∷ bs) ≡ Some x → TakenAttribute (b ∷ bs) x
unfolding attribute_at
attribute_takes b bs x isspace e =
    let n = bind_some (name_at (back is_space (b ∷ bs))) (λ name. strip (codes "=") (back is_space name.1) >>= λ value. quoted_at name.0 (back is_space value)) x e in
    let v = bind_some (strip (codes "=") (back is_space n.0.1)) (λ value. quoted_at n.0.0 (back is_space value)) x n.2 in
    let q = quoted_takes n.0.0 (back is_space v.0) x v.2 in
    let rest = back is_space (b ∷ bs) in
    let nt = name_takes (back is_space (b ∷ bs)) n.0 n.1 in
    let space = front is_space bs in
    let left = front is_space n.0.1 in
    let right = front is_space v.0 in
    let skipped : bs ≡ space ++ (n.0.0 ++ n.0.1) = front_back is_space bs ∙ ap (λ (r : List ℕ). space ++ r) (sym (back_space b bs isspace) ∙ nt.0) in
    let value : v.0 ≡ right ++ (q.0 ∷ (q.1 ++ q.0 ∷ x.1)) = front_back is_space v.0 ∙ ap (λ (r : List ℕ). right ++ r) q.2 in
    let equals : n.0.1 ≡ left ++ 61 ∷ (right ++ (q.0 ∷ (q.1 ++ q.0 ∷ x.1))) = front_back is_space n.0.1 ∙ ap (λ (r : List ℕ). left ++ r) (strip_takes (codes "=") (back is_space n.0.1) v.0 v.1 ∙ ap (λ (r : List ℕ). 61 ∷ r) value) in
    let a : Attribute = record { first_space = b; space = space; name = n.0.0; left = left; right = right; quote = q.0; value = q.1 } in (
      a,
      record { first_space = isspace; space = front_passes is_space bs; name = nt.1; left = front_passes is_space n.0.1; right = front_passes is_space v.0; quote = q.3; value = q.4 },
      ap (λ (r : List ℕ). b ∷ r) (skipped ∙ ap (λ (r : List ℕ). space ++ (n.0.0 ++ r)) equals) ∙ sym (regroup_attribute a x.1),
      sym q.5,
    )

quoted_again : (name value rest : List ℕ) (q : ℕ) → IsTrue (eqb q 34 || eqb q 39) → IsTrue (list_all (in_value q) value) → quoted_at name (q ∷ (value ++ q ∷ rest)) ≡ Some ((name, value), rest)
unfolding quoted_at
quoted_again name value rest q h v =
    let stops : in_value q q ≡ false = rw (eq-eqb q q refl) refl in
    let k = front_at (in_value q) value (q ∷ rest) v stops in
    rw (h, k.1, k.0, strip_again (q ∷ []) rest) refl

pub attribute_again : (a : Attribute) (rest : List ℕ) → IsAttribute a → attribute_at (spelled_attribute a ++ rest) ≡ Some (pair_of a, rest)
unfolding attribute_at
attribute_again a rest h =
    let tail = a.quote ∷ (a.value ++ a.quote ∷ rest) in
    let after_name = a.left ++ 61 ∷ (a.right ++ tail) in
    let start : back is_space (a.first_space ∷ (a.space ++ (a.name ++ after_name))) ≡ a.name ++ after_name = back_space a.first_space (a.space ++ (a.name ++ after_name)) h.first_space ∙ (front_at is_space a.space (a.name ++ after_name) h.space (name_stops a.name after_name h.name)).1 in
    let named : name_at (a.name ++ after_name) ≡ Some (a.name, after_name) = name_again a.name after_name h.name (space_stops 61 a.left (a.right ++ tail) refl h.left) in
    let equals : back is_space after_name ≡ 61 ∷ (a.right ++ tail) = (front_at is_space a.left (61 ∷ (a.right ++ tail)) h.left refl).1 in
    let quoted : back is_space (a.right ++ tail) ≡ tail = (front_at is_space a.right tail h.right (quote_stops a.quote h.quote)).1 in
    ap attribute_at (regroup_attribute a rest) ∙ rw (start, named, equals, strip_again (codes "=") (a.right ++ tail), quoted, quoted_again a.name a.value rest a.quote h.quote h.value) refl

-- ---- attributes in a row

pub one_takes : (bytes : List ℕ) (x : Named × List ℕ) → begins_space bytes ≡ true → attribute_at bytes ≡ Some x → TakenAttribute bytes x
one_takes [] x g e = absurd (true_false (sym g))
one_takes (b ∷ bs) x g e = attribute_takes b bs x g e

pub attributes_again : (n : ℕ) (all : List Attribute) (rest : List ℕ) → AllByRecursion IsAttribute all → length all < n → ends_tag (back is_space rest) ≡ true → attributes_at n (flat_map spelled_attribute all ++ rest) ≡ Some (map pair_of all, rest)
unfolding attributes_at
attributes_again zero all rest h lt ends = absurd (omega arith)
attributes_again (suc n) [] rest h lt ends = rw ends refl
attributes_again (suc n) (a ∷ all) rest h lt ends =
    let more = flat_map spelled_attribute all ++ rest in
    rw (append_assoc (spelled_attribute a) (flat_map spelled_attribute all) rest, not_ended a more h.0, h.0.first_space, attribute_again a more h.0, attributes_again n all rest h.1 (omega arith) ends) refl

abbrev pub TakenAll : List ℕ → List Named × List ℕ → Type 0
TakenAll bytes x = (all : List Attribute) × AllByRecursion IsAttribute all × (bytes ≡ flat_map spelled_attribute all ++ x.1) × (map pair_of all ≡ x.0) × (ends_tag (back is_space x.1) ≡ true)

pub attributes_take : (n : ℕ) (bytes : List ℕ) (x : List Named × List ℕ) → attributes_at n bytes ≡ Some x → TakenAll bytes x
unfolding attributes_at
attributes_take zero bytes x e = absurd cc
attributes_take (suc n) bytes x e =
    let one : List ℕ → Option (List Named × List ℕ) = λ bytes. (attribute_at bytes >>= λ a. attributes_at n a.1 >>= λ all. Some (a.0 ∷ all.0, all.1)) in
    elim (which {X = Option (List Named × List ℕ)} (ends_tag (back is_space bytes)) (Some ([], bytes)) (cond (begins_space bytes) (one bytes) None) (Some x) e) [
      | inl h ↦ subst (λ (y : List Named × List ℕ). TakenAll bytes y) (some_is ([], bytes) x h.1) ([], tt, refl, refl, h.0)
      | inr h ↦ elim (which {X = Option (List Named × List ℕ)} (begins_space bytes) (one bytes) None (Some x) h.1) [
        | inl i ↦ (let a = bind_some (attribute_at bytes) (λ a. attributes_at n a.1 >>= λ all. Some (a.0 ∷ all.0, all.1)) x i.1 in
            let b = bind_some (attributes_at n a.0.1) (λ all. Some (a.0.0 ∷ all.0, all.1)) x a.2 in
            let first = one_takes bytes a.0 i.0 a.1 in
            let others = attributes_take n a.0.1 b.0 b.1 in
            subst (λ (y : List Named × List ℕ). TakenAll bytes y) (some_is (a.0.0 ∷ b.0.0, b.0.1) x b.2)
            (first.0 ∷ others.0, (first.1, others.1), first.2 ∙ ap (λ (r : List ℕ). spelled_attribute first.0 ++ r) others.2 ∙ sym (append_assoc (spelled_attribute first.0) (flat_map spelled_attribute others.0) b.0.1), both_heads (pair_of first.0) a.0.0 (map pair_of others.0) b.0.0 first.3 others.3, others.4))
        | inr i ↦ absurd (none_some i.1)
      ]
    ]

-- ---- as the code takes attributes in a row

pub attribute_skip : (bytes : List ℕ) → attribute_at (back is_space bytes) ≡ attribute_at bytes
unfolding attribute_at
attribute_skip bytes = rw (back_again is_space bytes) refl

spelled_longer : (a : Attribute) (rest : List ℕ) → length rest + 2 ≤ length (spelled_attribute a ++ rest)
spelled_longer a rest =
    let quoted = a.quote ∷ (a.value ++ a.quote ∷ rest) in
    let after_name = a.left ++ 61 ∷ (a.right ++ quoted) in
    let same : length (spelled_attribute a ++ rest) ≡ length (a.first_space ∷ (a.space ++ (a.name ++ after_name))) = ap length (regroup_attribute a rest) in
    omega (arith, same, length-append a.space (a.name ++ after_name), length-append a.name after_name, length-append a.left (61 ∷ (a.right ++ quoted)), length-append a.right quoted, length-append a.value (a.quote ∷ rest))

pub attribute_shrinks : (bytes : List ℕ) (x : Named × List ℕ) → begins_space bytes ≡ true → attribute_at bytes ≡ Some x → length x.1 + 2 ≤ length bytes
attribute_shrinks bytes x g e =
    let t = one_takes bytes x g e in
    omega (arith, spelled_longer t.0 x.1, ap length t.2)

-- any number that is large enough gives the same
pub attributes_enough : (n m : ℕ) (bytes : List ℕ) → length bytes ≤ n → 0 < n → length bytes ≤ m → 0 < m → attributes_at n bytes ≡ attributes_at m bytes
unfolding attributes_at
attributes_enough zero m bytes ln zn lm zm = absurd (omega arith)
attributes_enough (suc n) zero bytes ln zn lm zm = absurd (omega arith)
attributes_enough (suc n) (suc m) bytes ln zn lm zm =
    let one : ℕ → Option (List Named × List ℕ) = λ k. (attribute_at bytes >>= λ a. attributes_at k a.1 >>= λ all. Some (a.0 ∷ all.0, all.1)) in
    let ended : Option (List Named × List ℕ) = Some ([], bytes) in
    elim_bool (ends_tag (back is_space bytes)) (λ t. cond t ended (cond (begins_space bytes) (one n) None) ≡ cond t ended (cond (begins_space bytes) (one m) None)) (λ h. refl)
    (λ h. elim_bool (begins_space bytes) (λ t. cond t (one n) None ≡ cond t (one m) None)
    (λ g. option_cases (attribute_at bytes) (one n ≡ one m)
    (λ a e. let shorter = attribute_shrinks bytes a g e in
    rw (e, attributes_enough n m a.1 (omega (arith, shorter)) (omega (arith, shorter)) (omega (arith, shorter)) (omega (arith, shorter))) refl)
    (λ e. rw e refl))
    (λ g. refl))

-- the attributes at the front
abbrev pub all_of : List ℕ → Option (List Named × List ℕ)
all_of bytes = attributes_at (suc (length bytes)) bytes

abbrev pub with_first : Named → Option (List Named × List ℕ) → Option (List Named × List ℕ)
with_first a others = others >>= λ all. Some (a ∷ all.0, all.1)

pub all_ended : (bytes : List ℕ) → ends_tag (back is_space bytes) ≡ true → all_of bytes ≡ Some ([], bytes)
unfolding attributes_at
all_ended bytes h = rw h refl

pub all_apart : (bytes : List ℕ) → ends_tag (back is_space bytes) ≡ false → begins_space bytes ≡ false → all_of bytes ≡ None
unfolding attributes_at
all_apart bytes h g = rw (h, g) refl

pub all_broken : (bytes : List ℕ) → ends_tag (back is_space bytes) ≡ false → begins_space bytes ≡ true → attribute_at bytes ≡ None → all_of bytes ≡ None
unfolding attributes_at
all_broken bytes h g e = rw (h, g, e) refl

pub all_next : (bytes : List ℕ) (a : Named × List ℕ) → ends_tag (back is_space bytes) ≡ false → begins_space bytes ≡ true → attribute_at bytes ≡ Some a → all_of bytes ≡ with_first a.0 (all_of a.1)
unfolding attributes_at
all_next bytes a h g e =
    let shorter = attribute_shrinks bytes a g e in
    let enough : attributes_at (length bytes) a.1 ≡ all_of a.1 = attributes_enough (length bytes) (suc (length a.1)) a.1 (omega (arith, shorter)) (omega (arith, shorter)) (omega arith) (omega arith) in
    rw (h, g, e, enough) refl

-- what stands behind them
abbrev pub behind_all : List ℕ → Option (List ℕ)
behind_all bytes = option_map (λ x. x.1) (all_of bytes)

behind_first_one : (a : Named) (others : Option (List Named × List ℕ)) → option_map (λ x. x.1) (with_first a others) ≡ option_map (λ x. x.1) others
behind_first_one a (Some x) = refl
behind_first_one a None = refl

pub behind_next_one : (bytes : List ℕ) (a : Named × List ℕ) → ends_tag (back is_space bytes) ≡ false → begins_space bytes ≡ true → attribute_at bytes ≡ Some a → behind_all bytes ≡ behind_all a.1
behind_next_one bytes a h g e = ap (option_map (λ x. x.1)) (all_next bytes a h g e) ∙ behind_first_one a.0 (all_of a.1)

pub behind_some : (r : Option (List Named × List ℕ)) (rest : List ℕ) → option_map (λ x. x.1) r ≡ Some rest → (all : List Named) × (r ≡ Some (all, rest))
behind_some (Some x) rest e = (x.0, ap (λ (y : List ℕ). Some (x.0, y)) (some_is x.1 rest e))
behind_some None rest e = absurd (none_some e)

pub behind_none : (r : Option (List Named × List ℕ)) → option_map (λ x. x.1) r ≡ None → r ≡ None
behind_none (Some x) e = absurd (none_some (sym e))
behind_none None e = refl

-- ---- the text of attributes

pub all_shorter : (all : List Attribute) → length all ≤ length (flat_map spelled_attribute all)
all_shorter [] = omega arith
all_shorter (a ∷ all) = omega (arith, all_shorter all, spelled_longer a (flat_map spelled_attribute all))

-- the attributes that were taken, none where they were not
abbrev pub names_in : Option (List Named × List ℕ) → List Named
names_in taken = elim taken [ Some x ↦ x.0 | None ↦ [] ]

-- the attributes at the front of a text, with the end of a tag behind it
abbrev pub closed_of : List ℕ → Option (List Named × List ℕ)
closed_of text = attributes_at (suc (length text)) (text ++ codes ">")

pub attributes_are : (text : List ℕ) → attributes_of text ≡ names_in (closed_of text)
unfolding attributes_of
attributes_are text = refl

pub attributes_again_of : (all : List Attribute) (space : List ℕ) → AllByRecursion IsAttribute all → IsTrue (list_all is_space space) → attributes_of (flat_map spelled_attribute all ++ space) ≡ map pair_of all
attributes_again_of all space h s =
    let text = flat_map spelled_attribute all in
    let ends : ends_tag (back is_space (space ++ codes ">")) ≡ true = ap ends_tag (front_at is_space space (codes ">") s refl).1 in
    let enough : length all < suc (length (text ++ space)) = omega (arith, all_shorter all, length-append text space) in
    let taken : closed_of (text ++ space) ≡ Some (map pair_of all, space ++ codes ">") = ap (attributes_at (suc (length (text ++ space)))) (append_assoc text space (codes ">")) ∙ attributes_again (suc (length (text ++ space))) all (space ++ codes ">") h enough ends in
    attributes_are (text ++ space) ∙ ap names_in taken

-- the text before what stands behind the attributes is their text
pub text_of : (bytes : List ℕ) (all : List Named) (rest : List ℕ) → all_of bytes ≡ Some (all, rest) → (text : List ℕ) × (bytes ≡ text ++ rest) × (attributes_of text ≡ all)
text_of bytes all rest e =
    let t = attributes_take (suc (length bytes)) bytes (all, rest) e in
    let text = flat_map spelled_attribute t.0 in
    (text, t.2, ap attributes_of (sym (append-nil text)) ∙ attributes_again_of t.0 [] t.1 refl ∙ t.3)
