-- Looking for the first attribute of a name in a text of attributes.
use Rattle.std.proofs.Common.{◌≡◌, ℕ, suc, Bool, true, false, cond, ◌||◌, eqb, List, [], ◌∷◌, ◌++◌, length, Option, Some, None, refl, sym, ap, ◌∙◌, append_assoc, length-append, codes, arith}
use Rattle.std.specs.Prelude.{IsTrue}
use Rattle.std.specs.Option.{option_or}
use Rattle.std.specs.Str.{bytes_eq}
use Rattle.markup.specs.Piece.{is_space, Attribute, spelled_attribute}
use Rattle.markup.specs.Mark.{Named, first_value}
use Rattle.markup.specs.Taking.{back, attribute_at, ends_tag, begins_space, attributes_at, attributes_of}
use Rattle.markup.proofs.Options.{none_some, none_from, elim_bool, true_false}
use Rattle.markup.proofs.Attributes.{with_first, closed_of, names_in, attributes_are, attribute_again, attribute_shrinks, attributes_enough, one_takes}

-- ---- with the end of a tag behind the text

abbrev pub closed : List ℕ → List ℕ
closed xs = xs ++ codes ">"

back_closed : (xs : List ℕ) → back is_space (closed xs) ≡ closed (back is_space xs)
unfolding back
back_closed [] = refl
back_closed (b ∷ xs) = elim_bool (is_space b) (λ t. cond t (back is_space (closed xs)) (closed (b ∷ xs)) ≡ closed (cond t (back is_space xs) (b ∷ xs))) (λ h. back_closed xs) (λ h. refl)

begins_closed : (xs : List ℕ) → begins_space (closed xs) ≡ begins_space xs
begins_closed [] = refl
begins_closed (b ∷ xs) = refl

heads : (a b : ℕ) (xs ys : List ℕ) → (a ∷ xs) ≡ (b ∷ ys) → (a ≡ b) × (xs ≡ ys)
heads a b xs ys e = (cc, cc)

not_nil : (xs : List ℕ) (y : ℕ) (ys : List ℕ) → [] ≡ (xs ++ y ∷ []) ++ ys → ⊥
not_nil [] y ys e = cc
not_nil (x ∷ xs) y ys e = cc

-- what ends in another byte does not reach into the end of the tag
apart : (xs ys zs : List ℕ) (q : ℕ) → (q ≡ 62 → ⊥) → closed xs ≡ (ys ++ q ∷ []) ++ zs → (ws : List ℕ) × (zs ≡ closed ws) × (xs ≡ (ys ++ q ∷ []) ++ ws)
apart [] [] zs q other e = absurd (other (sym (heads 62 q [] zs e).0))
apart [] (y ∷ ys) zs q other e = absurd (not_nil ys q zs (heads 62 y [] ((ys ++ q ∷ []) ++ zs) e).1)
apart (x ∷ xs) [] zs q other e =
    let h = heads x q (closed xs) zs e in
    (xs, sym h.1, ap (λ (b : ℕ). b ∷ xs) h.0)
apart (x ∷ xs) (y ∷ ys) zs q other e =
    let h = heads x y (closed xs) ((ys ++ q ∷ []) ++ zs) e in
    let k = apart xs ys zs q other h.1 in
    (k.0, k.1, ap (λ (b : ℕ). b ∷ xs) h.0 ∙ ap (λ (r : List ℕ). y ∷ r) k.2)

no_quote : (q : ℕ) → IsTrue (eqb q 34 || eqb q 39) → q ≡ 62 → ⊥
no_quote q h e = true_false (sym h ∙ ap (λ (b : ℕ). eqb b 34 || eqb b 39) e)

before_quote : Attribute → List ℕ
before_quote a = a.first_space ∷ (a.space ++ (a.name ++ (a.left ++ 61 ∷ (a.right ++ a.quote ∷ a.value))))

ends_in_quote : (a : Attribute) → spelled_attribute a ≡ before_quote a ++ a.quote ∷ []
unfolding before_quote
ends_in_quote a = simp append_assoc

attribute_found : (xs : List ℕ) (x : Named × List ℕ) → begins_space xs ≡ true → attribute_at xs ≡ Some x → attribute_at (closed xs) ≡ Some (x.0, closed x.1)
attribute_found xs x g e =
    let t = one_takes xs x g e in
    ap attribute_at (ap closed t.2 ∙ append_assoc (spelled_attribute t.0) x.1 (codes ">"))
    ∙ attribute_again t.0 (closed x.1) t.1
    ∙ ap (λ (n : Named). Some (n, closed x.1)) t.3

attribute_missing : (xs : List ℕ) → begins_space xs ≡ true → attribute_at xs ≡ None → attribute_at (closed xs) ≡ None
attribute_missing xs g none = none_from (attribute_at (closed xs)) (λ y e.
    let t = one_takes (closed xs) y (begins_closed xs ∙ g) e in
    let k = apart xs (before_quote t.0) y.1 t.0.quote (no_quote t.0.quote t.1.quote) (t.2 ∙ ap (λ (r : List ℕ). r ++ y.1) (ends_in_quote t.0)) in
    none_some (sym none ∙ ap attribute_at (k.2 ∙ ap (λ (r : List ℕ). r ++ k.0) (sym (ends_in_quote t.0))) ∙ attribute_again t.0 k.0 t.1))

ends_closed : (xs : List ℕ) (b : Bool) → ends_tag (closed (back is_space xs)) ≡ b → ends_tag (back is_space (closed xs)) ≡ b
ends_closed xs b h = ap ends_tag (back_closed xs) ∙ h

pub closed_ended : (xs : List ℕ) → ends_tag (closed (back is_space xs)) ≡ true → closed_of xs ≡ Some ([], closed xs)
unfolding attributes_at
closed_ended xs h = rw (ends_closed xs true h) refl

pub closed_apart : (xs : List ℕ) → ends_tag (closed (back is_space xs)) ≡ false → begins_space xs ≡ false → closed_of xs ≡ None
unfolding attributes_at
closed_apart xs h g = rw (ends_closed xs false h, begins_closed xs, g) refl

pub closed_broken : (xs : List ℕ) → ends_tag (closed (back is_space xs)) ≡ false → begins_space xs ≡ true → attribute_at xs ≡ None → closed_of xs ≡ None
unfolding attributes_at
closed_broken xs h g e = rw (ends_closed xs false h, begins_closed xs, g, attribute_missing xs g e) refl

pub closed_next : (xs : List ℕ) (a : Named × List ℕ) → ends_tag (closed (back is_space xs)) ≡ false → begins_space xs ≡ true → attribute_at xs ≡ Some a → closed_of xs ≡ with_first a.0 (closed_of a.1)
unfolding attributes_at
closed_next xs a h g e =
    let shorter = attribute_shrinks xs a g e in
    let long = length-append a.1 (codes ">") in
    let enough : attributes_at (length xs) (closed a.1) ≡ closed_of a.1 = attributes_enough (length xs) (suc (length a.1)) (closed a.1) (omega (arith, shorter, long)) (omega (arith, shorter)) (omega (arith, long)) (omega arith) in
    rw (ends_closed xs false h, begins_closed xs, g, attribute_found xs a g e, enough) refl

-- ---- the first of a name

-- the value that was found already, else the first of the others
abbrev pub value_then : List ℕ → Option (List ℕ) → Option (List Named × List ℕ) → Option (List ℕ)
value_then name found None = None
value_then name found (Some x) = option_or found (first_value name x.0)

-- the value that was found already, else that of an attribute of the name
abbrev pub value_now : List ℕ → Option (List ℕ) → Named → Option (List ℕ)
value_now name found a = option_or found (first_value name (a ∷ []))

value_begins_of : (name : List ℕ) (taken : Option (List Named × List ℕ)) → value_then name None taken ≡ first_value name (names_in taken)
value_begins_of name None = refl
value_begins_of name (Some x) = refl

pub value_begins : (name xs : List ℕ) → value_then name None (closed_of xs) ≡ first_value name (attributes_of xs)
value_begins name xs = value_begins_of name (closed_of xs) ∙ ap (first_value name) (sym (attributes_are xs))

value_one : (name : List ℕ) (a : Named) (all : List Named) → option_or (first_value name (a ∷ [])) (first_value name all) ≡ first_value name (a ∷ all)
value_one name a all = elim_bool (bytes_eq a.0 name) (λ t. option_or (cond t (Some a.1) None) (first_value name all) ≡ cond t (Some a.1) (first_value name all)) (λ h. refl) (λ h. refl)

pub value_next : (name : List ℕ) (found : Option (List ℕ)) (a : Named) (others : Option (List Named × List ℕ)) → value_then name (value_now name found a) others ≡ value_then name found (with_first a others)
value_next name found a None = refl
value_next name (Some v) a (Some x) = refl
value_next name None a (Some x) = value_one name a x.0

pub value_ends : (name : List ℕ) (found : Option (List ℕ)) (rest : List ℕ) → value_then name found (Some ([], rest)) ≡ found
value_ends name None rest = refl
value_ends name (Some v) rest = refl
