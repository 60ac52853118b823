-- Pieces are taken exactly.
use Rattle.std.proofs.Common.{◌≡◌, inl, inr, ℕ, suc, ◌<◌, true, false, cond, ◌||◌, eqb, List, [], ◌∷◌, ◌++◌, length, map, Option, Some, refl, sym, ap, subst, ◌∙◌, append_assoc, length-append, codes, arith}
use Rattle.std.specs.Prelude.{IsTrue, is_some}
use Rattle.std.specs.List.{flat_map, list_all, AllByRecursion}
use Rattle.std.specs.Char.{encode_utf8}
use Rattle.std.proofs.lemmas.Bool.{eqb-true, eqb-false, ne_eqb, cases_eq}
use Rattle.markup.specs.Piece.{goes_on_name, is_space, IsName, EndsFirst, Attribute, spelled_attribute, IsAttribute, before_end, referred, Piece, start_tag, empty_tag, end_tag, comment, instruction, reference, letter, spelled, IsPiece}
use Rattle.markup.specs.Mark.{Named, pair_of, start, stop, aside, text, marks_of}
use Rattle.markup.specs.Taking.{◌>>=◌, strip, front, back, name_at, ends_tag, attributes_at, behind_first, Taken, closed_at, opening_at, closing_at, aside_at, tag_at, reference_at, piece_at}
use Rattle.markup.proofs.Options.{bind_some, which, some_is, true_false, and_true, strip_takes, strip_again, strip_case, strip_other}
use Rattle.markup.proofs.Names.{front_back, front_passes, front_at, StopsAt, no_name, name_takes, name_again, name_no, space_stops, behind_takes, behind_again}
use Rattle.markup.proofs.Attributes.{all_of, all_shorter, attributes_take, attributes_again}

-- a piece with these marks stands at the front, before these bytes
abbrev pub IsTaken : List ℕ → Taken → Type 0
IsTaken bytes x = (p : Piece) × IsPiece p × (bytes ≡ spelled p ++ x.1) × (marks_of p ≡ x.0)

after : (xs : List ℕ) {ys zs : List ℕ} → ys ≡ zs → xs ++ ys ≡ xs ++ zs
after xs e = ap (λ (r : List ℕ). xs ++ r) e

-- ---- end tags

regroup_end : (name space rest : List ℕ) → name ++ (space ++ 62 ∷ rest) ≡ (name ++ (space ++ codes ">")) ++ rest
regroup_end name space rest = after name (sym (append_assoc space (codes ">") rest)) ∙ sym (append_assoc name (space ++ codes ">") rest)

closing_takes : (bytes : List ℕ) (x : Taken) → closing_at bytes ≡ Some x → IsTaken (60 ∷ 47 ∷ bytes) x
unfolding closing_at
closing_takes bytes x e =
    let a = bind_some (name_at bytes) (λ name. strip (codes ">") (back is_space name.1) >>= λ rest. Some (stop name.0 ∷ [], rest)) x e in
    let b = bind_some (strip (codes ">") (back is_space a.0.1)) (λ rest. Some (stop a.0.0 ∷ [], rest)) x a.2 in
    let n = name_takes bytes a.0 a.1 in
    let space = front is_space a.0.1 in
    let behind : a.0.1 ≡ space ++ 62 ∷ b.0 = front_back is_space a.0.1 ∙ after space (strip_takes (codes ">") (back is_space a.0.1) b.0 b.1) in
    let whole : bytes ≡ (a.0.0 ++ (space ++ codes ">")) ++ b.0 = n.0 ∙ after a.0.0 behind ∙ regroup_end a.0.0 space b.0 in
    subst (λ (y : Taken). IsTaken (60 ∷ 47 ∷ bytes) y) (some_is (stop a.0.0 ∷ [], b.0) x b.2) (end_tag a.0.0 space, (n.1, front_passes is_space a.0.1), after (codes "</") whole, refl)

closing_again : (name space rest : List ℕ) → IsName name → IsTrue (list_all is_space space) → closing_at (name ++ (space ++ 62 ∷ rest)) ≡ Some (stop name ∷ [], rest)
unfolding closing_at
closing_again name space rest n s =
    rw (name_again name (space ++ 62 ∷ rest) n (space_stops 62 space rest refl s), (front_at is_space space (62 ∷ rest) s refl).1, strip_again (codes ">") rest) refl

-- ---- start tags and empty tags

regroup_tag : (name flat space closing rest : List ℕ) → name ++ (flat ++ (space ++ (closing ++ rest))) ≡ (name ++ (flat ++ (space ++ closing))) ++ rest
regroup_tag name flat space closing rest = simp append_assoc

in_tag : (name inside flat later space ending closing rest bytes : List ℕ) → bytes ≡ name ++ inside → inside ≡ flat ++ later → later ≡ space ++ ending → ending ≡ closing ++ rest → bytes ≡ (name ++ (flat ++ (space ++ closing))) ++ rest
in_tag name inside flat later space ending closing rest bytes e f g h =
    e ∙ after name (f ∙ after flat (g ∙ after space h)) ∙ regroup_tag name flat space closing rest

opening_takes : (bytes : List ℕ) (x : Taken) → opening_at bytes ≡ Some x → IsTaken (60 ∷ bytes) x
unfolding opening_at closed_at
opening_takes bytes x e =
    let P = λ (y : Taken). IsTaken (60 ∷ bytes) y in
    let a = bind_some (name_at bytes) (λ name. attributes_at (suc (length name.1)) name.1 >>= λ all. closed_at name.0 all.0 (back is_space all.1)) x e in
    let b = bind_some (all_of a.0.1) (λ all. closed_at a.0.0 all.0 (back is_space all.1)) x a.2 in
    let n = name_takes bytes a.0 a.1 in
    let t = attributes_take (suc (length a.0.1)) a.0.1 b.0 b.1 in
    let name = a.0.0 in
    let space = front is_space b.0.1 in
    let ending = back is_space b.0.1 in
    let k_start : List ℕ → Option Taken = λ rest. Some (start name b.0.0 ∷ [], rest) in
    let k_empty : List ℕ → Option Taken = λ rest. Some (start name b.0.0 ∷ stop name ∷ [], rest) in
    elim (strip_case (codes ">") ending k_start (strip (codes "/>") ending >>= k_empty) x b.2) [
      | inl h ↦ (let whole = in_tag name a.0.1 (flat_map spelled_attribute t.0) b.0.1 space ending (codes ">") h.0 bytes n.0 t.2 (front_back is_space b.0.1) h.1 in
          subst P (some_is (start name b.0.0 ∷ [], h.0) x h.2) (start_tag name t.0 space, (n.1, t.1, front_passes is_space b.0.1), after (codes "<") whole, ap (λ (all : List Named). start name all ∷ []) t.3))
      | inr h ↦ (let s = bind_some (strip (codes "/>") ending) k_empty x h in
          let whole = in_tag name a.0.1 (flat_map spelled_attribute t.0) b.0.1 space ending (codes "/>") s.0 bytes n.0 t.2 (front_back is_space b.0.1) (strip_takes (codes "/>") ending s.0 s.1) in
          subst P (some_is (start name b.0.0 ∷ stop name ∷ [], s.0) x s.2) (empty_tag name t.0 space, (n.1, t.1, front_passes is_space b.0.1), after (codes "<") whole, ap (λ (all : List Named). start name all ∷ stop name ∷ []) t.3))
    ]

-- the ends of a tag are neither white space nor in a name
end_is_no_name : (b : ℕ) → (eqb b 62 || eqb b 47) ≡ true → (goes_on_name b ≡ false) × (is_space b ≡ false)
end_is_no_name b h = elim (cases_eq b 62) [
  | inl e ↦ (rw e refl, rw e refl)
  | inr m ↦ elim (cases_eq b 47) [
    | inl e ↦ (rw e refl, rw e refl)
    | inr k ↦ absurd (true_false (sym h ∙ rw (ne_eqb b 62 m, ne_eqb b 47 k) refl))
  ]
]

end_stops_space : (ending : List ℕ) → ends_tag ending ≡ true → StopsAt is_space ending
end_stops_space [] h = tt
end_stops_space (b ∷ bs) h = (end_is_no_name b h).1

inside_stops : (all : List Attribute) (space ending : List ℕ) → AllByRecursion IsAttribute all → IsTrue (list_all is_space space) → ends_tag ending ≡ true → StopsAt goes_on_name (flat_map spelled_attribute all ++ (space ++ ending))
inside_stops [] [] [] h s e = tt
inside_stops [] [] (b ∷ bs) h s e = (end_is_no_name b e).0
inside_stops [] (b ∷ space) ending h s e = no_name b (and_true (is_space b) (list_all is_space space) s).0
inside_stops (a ∷ all) space ending h s e = no_name a.first_space h.0.first_space

opening_again : (name : List ℕ) (all : List Attribute) (space ending : List ℕ) → IsName name → AllByRecursion IsAttribute all → IsTrue (list_all is_space space) → ends_tag ending ≡ true
    → opening_at (name ++ (flat_map spelled_attribute all ++ (space ++ ending))) ≡ closed_at name (map pair_of all) ending
unfolding opening_at
opening_again name all space ending n h s e =
    let flat = flat_map spelled_attribute all in
    let inside = flat ++ (space ++ ending) in
    let skipped : back is_space (space ++ ending) ≡ ending = (front_at is_space space ending s (end_stops_space ending e)).1 in
    let enough : length all < suc (length inside) = omega (arith, all_shorter all, length-append flat (space ++ ending)) in
    let taken = attributes_again (suc (length inside)) all (space ++ ending) h enough (ap ends_tag skipped ∙ e) in
    rw (name_again name inside n (inside_stops all space ending h s e), taken, skipped) refl

closed_start : (name : List ℕ) (all : List Named) (rest : List ℕ) → closed_at name all (62 ∷ rest) ≡ Some (start name all ∷ [], rest)
unfolding closed_at
closed_start name all rest = rw (strip_again (codes ">") rest) refl

closed_empty : (name : List ℕ) (all : List Named) (rest : List ℕ) → closed_at name all (47 ∷ 62 ∷ rest) ≡ Some (start name all ∷ stop name ∷ [], rest)
unfolding closed_at
closed_empty name all rest = rw (strip_other 62 [] 47 (62 ∷ rest) (λ e. omega (arith, e)), strip_again (codes "/>") rest) refl

-- ---- comments and instructions

aside_takes : (mark bytes : List ℕ) (x : Taken) → aside_at mark bytes ≡ Some x → (t : List ℕ) × (bytes ≡ t ++ (mark ++ x.1)) × EndsFirst mark t × (aside ∷ [] ≡ x.0)
unfolding aside_at
aside_takes mark bytes x e =
    let a = bind_some (behind_first mark bytes) (λ rest. Some (aside ∷ [], rest)) x e in
    let t = behind_takes mark bytes a.0 a.1 in
    subst (λ (y : Taken). (t : List ℕ) × (bytes ≡ t ++ (mark ++ y.1)) × EndsFirst mark t × (aside ∷ [] ≡ y.0)) (some_is (aside ∷ [], a.0) x a.2) (t.0, t.1, t.2, refl)

aside_again : (mark t rest : List ℕ) → EndsFirst mark t → aside_at mark (t ++ (mark ++ rest)) ≡ Some (aside ∷ [], rest)
unfolding aside_at
aside_again mark t rest h = rw (behind_again mark t rest h) refl

-- ---- what begins with <

tag_takes : (bytes : List ℕ) (x : Taken) → tag_at bytes ≡ Some x → IsTaken (60 ∷ bytes) x
unfolding tag_at
tag_takes bytes x e =
    let at_instruction : Option Taken = cond (is_some (strip (codes "?") bytes)) (strip (codes "?") bytes >>= aside_at (codes "?>")) (opening_at bytes) in
    let at_comment : Option Taken = cond (is_some (strip (codes "!--") bytes)) (strip (codes "!--") bytes >>= aside_at (codes "-->")) at_instruction in
    elim (strip_case (codes "/") bytes closing_at at_comment x e) [
      | inl h ↦ subst (λ (r : List ℕ). IsTaken (60 ∷ r) x) (sym h.1) (closing_takes h.0 x h.2)
      | inr h ↦ elim (strip_case (codes "!--") bytes (aside_at (codes "-->")) at_instruction x h) [
        | inl i ↦ (let t = aside_takes (codes "-->") i.0 x i.2 in
            (comment t.0, t.2, after (codes "<") (i.1 ∙ after (codes "!--") (t.1 ∙ sym (append_assoc t.0 (codes "-->") x.1))), t.3))
        | inr i ↦ elim (strip_case (codes "?") bytes (aside_at (codes "?>")) (opening_at bytes) x i) [
          | inl j ↦ (let t = aside_takes (codes "?>") j.0 x j.2 in
              (instruction t.0, t.2, after (codes "<") (j.1 ∙ after (codes "?") (t.1 ∙ sym (append_assoc t.0 (codes "?>") x.1))), t.3))
          | inr j ↦ opening_takes bytes x j
        ]
      ]
    ]

tag_opening : (name rest : List ℕ) → IsName name → tag_at (name ++ rest) ≡ opening_at (name ++ rest)
unfolding tag_at
tag_opening name rest n = rw (name_no 47 [] refl name rest n, name_no 33 (codes "--") refl name rest n, name_no 63 [] refl name rest n) refl

tag_closing : (bytes : List ℕ) → tag_at (codes "/" ++ bytes) ≡ closing_at bytes
unfolding tag_at
tag_closing bytes = rw (strip_again (codes "/") bytes) refl

tag_comment : (bytes : List ℕ) → tag_at (codes "!--" ++ bytes) ≡ aside_at (codes "-->") bytes
unfolding tag_at
tag_comment bytes = rw (strip_other 47 [] 33 (45 ∷ 45 ∷ bytes) (λ e. omega (arith, e)), strip_again (codes "!--") bytes) refl

tag_instruction : (bytes : List ℕ) → tag_at (codes "?" ++ bytes) ≡ aside_at (codes "?>") bytes
unfolding tag_at
tag_instruction bytes = rw (strip_other 47 [] 63 bytes (λ e. omega (arith, e)), strip_other 33 (codes "--") 63 bytes (λ e. omega (arith, e)), strip_again (codes "?") bytes) refl

-- ---- references

reference_takes : (bytes : List ℕ) (x : Taken) → reference_at bytes ≡ Some x → IsTaken (38 ∷ bytes) x
unfolding reference_at
reference_takes bytes x e =
    let name = front before_end bytes in
    let a = bind_some (strip (codes ";") (back before_end bytes)) (λ rest. referred name >>= λ c. Some (text false (encode_utf8 c) ∷ [], rest)) x e in
    let b = bind_some (referred name) (λ c. Some (text false (encode_utf8 c) ∷ [], a.0)) x a.2 in
    let whole : bytes ≡ (name ++ codes ";") ++ a.0 = front_back before_end bytes ∙ after name (strip_takes (codes ";") (back before_end bytes) a.0 a.1) ∙ sym (append_assoc name (codes ";") a.0) in
    subst (λ (y : Taken). IsTaken (38 ∷ bytes) y) (some_is (text false (encode_utf8 b.0) ∷ [], a.0) x b.2) (reference name b.0, (front_passes before_end bytes, b.1), after (codes "&") whole, refl)

reference_again : (name : List ℕ) (c : ℕ) (rest : List ℕ) → IsTrue (list_all before_end name) → referred name ≡ Some c → reference_at (name ++ 59 ∷ rest) ≡ Some (text false (encode_utf8 c) ∷ [], rest)
unfolding reference_at
reference_again name c rest h r =
    let k = front_at before_end name (59 ∷ rest) h refl in
    rw (k.0, k.1, strip_again (codes ";") rest, r) refl

-- ---- one piece

pub piece_tag : (bytes : List ℕ) → piece_at (60 ∷ bytes) ≡ tag_at bytes
unfolding piece_at
piece_tag bytes = refl

pub piece_reference : (bytes : List ℕ) → piece_at (38 ∷ bytes) ≡ reference_at bytes
unfolding piece_at
piece_reference bytes = refl

piece_letter : (b : ℕ) (bs : List ℕ) → (b ≡ 60 → ⊥) → (b ≡ 38 → ⊥) → piece_at (b ∷ bs) ≡ Some (text true (b ∷ []) ∷ [], bs)
unfolding piece_at
piece_letter b bs m n = rw (ne_eqb b 60 m, ne_eqb b 38 n) refl

pub piece_takes : (bytes : List ℕ) (x : Taken) → piece_at bytes ≡ Some x → IsTaken bytes x
unfolding piece_at
piece_takes [] x e = absurd cc
piece_takes (b ∷ bs) x e =
    elim (which {X = Option Taken} (eqb b 60) (tag_at bs) (cond (eqb b 38) (reference_at bs) (Some (text true (b ∷ []) ∷ [], bs))) (Some x) e) [
      | inl h ↦ subst (λ (b : ℕ). IsTaken (b ∷ bs) x) (sym (eqb-true b 60 h.0)) (tag_takes bs x h.1)
      | inr h ↦ elim (which {X = Option Taken} (eqb b 38) (reference_at bs) (Some (text true (b ∷ []) ∷ [], bs)) (Some x) h.1) [
        | inl i ↦ subst (λ (b : ℕ). IsTaken (b ∷ bs) x) (sym (eqb-true b 38 i.0)) (reference_takes bs x i.1)
        | inr i ↦ subst (λ (y : Taken). IsTaken (b ∷ bs) y) (some_is (text true (b ∷ []) ∷ [], bs) x i.1) (letter b, (eqb-false b 60 h.0, eqb-false b 38 i.0), refl, refl)
      ]
    ]

tag_again : (name : List ℕ) (all : List Attribute) (space closing rest : List ℕ) → IsName name → AllByRecursion IsAttribute all → IsTrue (list_all is_space space) → ends_tag (closing ++ rest) ≡ true
    → piece_at (60 ∷ ((name ++ (flat_map spelled_attribute all ++ (space ++ closing))) ++ rest)) ≡ closed_at name (map pair_of all) (closing ++ rest)
tag_again name all space closing rest n h s e =
    let flat = flat_map spelled_attribute all in
    piece_tag ((name ++ (flat ++ (space ++ closing))) ++ rest)
    ∙ ap tag_at (sym (regroup_tag name flat space closing rest))
    ∙ tag_opening name (flat ++ (space ++ (closing ++ rest))) n
    ∙ opening_again name all space (closing ++ rest) n h s e

pub piece_again : (p : Piece) (rest : List ℕ) → IsPiece p → piece_at (spelled p ++ rest) ≡ Some (marks_of p, rest)
piece_again (start_tag name all space) rest h = tag_again name all space (codes ">") rest h.0 h.1 h.2 refl ∙ closed_start name (map pair_of all) rest
piece_again (empty_tag name all space) rest h = tag_again name all space (codes "/>") rest h.0 h.1 h.2 refl ∙ closed_empty name (map pair_of all) rest
piece_again (end_tag name space) rest h = piece_tag (codes "/" ++ ((name ++ (space ++ codes ">")) ++ rest)) ∙ tag_closing ((name ++ (space ++ codes ">")) ++ rest) ∙ ap closing_at (sym (regroup_end name space rest)) ∙ closing_again name space rest h.0 h.1
piece_again (comment t) rest h = piece_tag (codes "!--" ++ ((t ++ codes "-->") ++ rest)) ∙ tag_comment ((t ++ codes "-->") ++ rest) ∙ ap (aside_at (codes "-->")) (append_assoc t (codes "-->") rest) ∙ aside_again (codes "-->") t rest h
piece_again (instruction t) rest h = piece_tag (codes "?" ++ ((t ++ codes "?>") ++ rest)) ∙ tag_instruction ((t ++ codes "?>") ++ rest) ∙ ap (aside_at (codes "?>")) (append_assoc t (codes "?>") rest) ∙ aside_again (codes "?>") t rest h
piece_again (reference t c) rest h = piece_reference ((t ++ codes ";") ++ rest) ∙ ap reference_at (append_assoc t (codes ";") rest) ∙ reference_again t c rest h.0 h.1
piece_again (letter b) rest h = piece_letter b rest h.0 h.1

-- bytes begin with one piece at most
pub pieces_one : (p q : Piece) (xs ys : List ℕ) → IsPiece p → IsPiece q → spelled p ++ xs ≡ spelled q ++ ys → (marks_of p ≡ marks_of q) × (xs ≡ ys)
pieces_one p q xs ys h k e =
    let same = some_is (marks_of p, xs) (marks_of q, ys) (sym (piece_again p xs h) ∙ ap piece_at e ∙ piece_again q ys k) in
    (ap (λ (x : Taken). x.0) same, ap (λ (x : Taken). x.1) same)

pub piece_not_empty : (p : Piece) → 0 < length (spelled p)
piece_not_empty (start_tag name all space) = omega arith
piece_not_empty (empty_tag name all space) = omega arith
piece_not_empty (end_tag name space) = omega arith
piece_not_empty (comment t) = omega arith
piece_not_empty (instruction t) = omega arith
piece_not_empty (reference t c) = omega arith
piece_not_empty (letter b) = omega arith
