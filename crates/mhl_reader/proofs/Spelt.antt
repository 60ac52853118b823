-- Bytes that spell content, put together from their end.
use Rattle.std.proofs.Common.{◌≡◌, inl, inr, ℕ, ◌+◌, true, List, [], ◌∷◌, ◌++◌, map, length, length-append, refl, sym, ap, subst, ◌∙◌, append_assoc, append-nil, codes, arith, Bool, false}
use Rattle.std.specs.Prelude.{IsTrue}
use Rattle.std.specs.List.{flat_map, list_all, AllByRecursion}
use Rattle.std.proofs.Math.Utf8.{encode}
use Rattle.std.proofs.lemmas.Bool.{and_parts, and_from}
use Rattle.std.proofs.lemmas.List.Concat.{flat_map-append}
use Rattle.markup.specs.Piece.{is_space, Attribute, Piece, start_tag, end_tag, instruction, reference, referred, letter, spelled, IsTag, IsPiece}
use Rattle.markup.specs.Mark.{pair_of, Mark, start, stop, aside, text, marks_of, Placed, all_at, placed}
use Rattle.mhl_writer.specs.ListText.{escape, escaped}
use Rattle.mhl_reader.specs.Grammar.{Content, nothing, a_text, an_aside, element, marks, is_blank, Leaf}
use Rattle.mhl_reader.proofs.Clean.{special}

-- the bytes spell the content, from a place on
pub record Spelt (place : ℕ) (bytes : List ℕ) (c : Content) : Type 0 where
  pub pieces : List Piece
  pub each : AllByRecursion IsPiece pieces
  pub whole : bytes ≡ flat_map spelled pieces
  pub nested : placed place pieces ≡ marks c

-- wherever the bytes stand, they spell content that is as P says
abbrev pub Spells : (Content → Type 0) → List ℕ → Type 0
Spells P bytes = (place : ℕ) → (c : Content) × Spelt place bytes c × P c

-- a mark at a place
abbrev at_place : ℕ → Mark → Placed
at_place place mark = record { place = place; mark = mark }

-- ---- pieces in a row

all_append : (ps qs : List Piece) → AllByRecursion IsPiece ps → AllByRecursion IsPiece qs → AllByRecursion IsPiece (ps ++ qs)
all_append [] qs h k = k
all_append (p ∷ ps) qs h k = (h.0, all_append ps qs h.1 k)

placed_append : (ps qs : List Piece) (place : ℕ) → placed place (ps ++ qs) ≡ placed place ps ++ placed (place + length (flat_map spelled ps)) qs
placed_append [] qs place =
    let here : place ≡ place + 0 = omega arith in
    ap (λ (n : ℕ). placed n qs) here
placed_append (p ∷ ps) qs place =
    let next = place + length (spelled p) in
    let there : next + length (flat_map spelled ps) ≡ place + length (spelled p ++ flat_map spelled ps) = omega (arith, length-append (spelled p) (flat_map spelled ps)) in
    ap (λ (r : List Placed). all_at place (marks_of p) ++ r) (placed_append ps qs next)
    ∙ sym (append_assoc (all_at place (marks_of p)) (placed next ps) (placed (next + length (flat_map spelled ps)) qs))
    ∙ ap (λ (n : ℕ). (all_at place (marks_of p) ++ placed next ps) ++ placed n qs) there

-- ---- nothing, a byte, an instruction

pub spells_nothing : (P : Content → Type 0) → P nothing → Spells P []
spells_nothing P h place = (nothing, record { pieces = []; each = tt; whole = refl; nested = refl }, h)

spelt_letter : (b place : ℕ) (rest : List ℕ) (c : Content) → (b ≡ 60 → ⊥) → (b ≡ 38 → ⊥) → Spelt (place + 1) rest c → Spelt place (b ∷ rest) (a_text place true (b ∷ []) c)
spelt_letter b place rest c n m s = record {
  pieces = letter b ∷ s.pieces;
  each = ((n, m), s.each);
  whole = ap (λ (r : List ℕ). b ∷ r) s.whole;
  nested = ap (λ (r : List Placed). at_place place (text true (b ∷ [])) ∷ r) s.nested;
}

-- filler may stand in front of what is as P says
abbrev pub TakesBlank : (Content → Type 0) → Type 0
TakesBlank P = (place : ℕ) (bytes : List ℕ) (c : Content) → IsTrue (is_blank true bytes) → P c → P (a_text place true bytes c)

not_tag : (b : ℕ) → is_space b ≡ true → (b ≡ 60 → ⊥) × (b ≡ 38 → ⊥)
not_tag b h = (λ e. let f = subst (λ (b : ℕ). is_space b ≡ true) e h in absurd (cc f), λ e. let f = subst (λ (b : ℕ). is_space b ≡ true) e h in absurd (cc f))

pub spells_blank : (P : Content → Type 0) (b : ℕ) (rest : List ℕ) → TakesBlank P → is_space b ≡ true → Spells P rest → Spells P (b ∷ rest)
spells_blank P b rest fill h more place =
    let (c, s, p) = more (place + 1) in
    let apart = not_tag b h in
    (a_text place true (b ∷ []) c, spelt_letter b place rest c apart.0 apart.1 s, fill place (b ∷ []) c (and_from (is_space b) true h refl) p)

pub spells_blanks : (P : Content → Type 0) (bs rest : List ℕ) → TakesBlank P → list_all is_space bs ≡ true → Spells P rest → Spells P (bs ++ rest)
spells_blanks P [] rest fill h more = more
spells_blanks P (b ∷ bs) rest fill h more =
    let g = and_parts (is_space b) (list_all is_space bs) h in
    spells_blank P b (bs ++ rest) fill g.0 (spells_blanks P bs rest fill g.1 more)

pub spells_instruction : (P Q : Content → Type 0) (t rest : List ℕ) → IsPiece (instruction t) → ((place : ℕ) (c : Content) → P c → Q (an_aside place c)) → Spells P rest → Spells Q (spelled (instruction t) ++ rest)
spells_instruction P Q t rest is then more place =
    let (c, s, p) = more (place + length (spelled (instruction t))) in (
      an_aside place c,
      record {
        pieces = instruction t ∷ s.pieces;
        each = (is, s.each);
        whole = ap (λ (r : List ℕ). spelled (instruction t) ++ r) s.whole;
        nested = ap (λ (r : List Placed). at_place place aside ∷ r) s.nested;
      },
      then place c p,
    )

-- ---- the text of a leaf

spelt_reference : (name : List ℕ) (b place : ℕ) (rest : List ℕ) (c : Content) → IsPiece (reference name b) → marks_of (reference name b) ≡ text false (b ∷ []) ∷ [] → Spelt (place + length (spelled (reference name b))) rest c
    → Spelt place (spelled (reference name b) ++ rest) (a_text place false (b ∷ []) c)
spelt_reference name b place rest c is one s = record {
  pieces = reference name b ∷ s.pieces;
  each = (is, s.each);
  whole = ap (λ (r : List ℕ). spelled (reference name b) ++ r) s.whole;
  nested = ap (λ (ms : List Mark). all_at place ms ++ placed (place + length (spelled (reference name b))) s.pieces) one ∙ ap (λ (r : List Placed). at_place place (text false (b ∷ [])) ∷ r) s.nested;
}

-- the byte b as it is written, and then the rest, spell that byte and what is as P says
abbrev ByteFirst : (Content → Type 0) → ℕ → List ℕ → Type 0
ByteFirst P b rest = (place : ℕ) → (raw : Bool) × (c : Content) × Spelt place (escape b ++ rest) (a_text place raw (b ∷ []) c) × P c

a_byte : (P : Content → Type 0) (b : ℕ) (rest : List ℕ) → Spells P rest → ByteFirst P b rest
unfolding referred encode
a_byte P b rest more =
    let known = λ (n : ℕ) (e : b ≡ n) (is : (place : ℕ) → (c : Content) × Spelt place (escape n ++ rest) (a_text place false (n ∷ []) c) × P c).
    (let r : ByteFirst P b rest = subst (λ (b : ℕ). ByteFirst P b rest) (sym e) (λ place. let (c, s, p) = is place in (false, c, s, p)) in r) in
    elim (special b) [
      | inl e ↦ known 38 e (λ place. let (c, s, p) = more (place + 5) in (c, spelt_reference (codes "amp") 38 place rest c (refl, refl) refl s, p))
      | inr (inl e) ↦ known 60 e (λ place. let (c, s, p) = more (place + 4) in (c, spelt_reference (codes "lt") 60 place rest c (refl, refl) refl s, p))
      | inr (inr (inl e)) ↦ known 62 e (λ place. let (c, s, p) = more (place + 4) in (c, spelt_reference (codes "gt") 62 place rest c (refl, refl) refl s, p))
      | inr (inr (inr o)) ↦ λ place.
          let (c, s, p) = more (place + 1) in
          (true, c, subst (λ (bs : List ℕ). Spelt place (bs ++ rest) (a_text place true (b ∷ []) c)) (sym o.is) (spelt_letter b place rest c o.no_lt o.no_and s), p)
    ]

spells_text_behind : (t before out : List ℕ) → before ++ t ≡ out → Spells (λ c. Leaf before c out) (escaped t)
spells_text_behind [] before out e = spells_nothing (λ c. Leaf before c out) (sym (append-nil before) ∙ e)
spells_text_behind (b ∷ t) before out e = λ place.
    let more = spells_text_behind t (before ++ b ∷ []) out (append_assoc before (b ∷ []) t ∙ e) in
    let (raw, c, s, p) = a_byte (λ c. Leaf (before ++ b ∷ []) c out) b (escaped t) more place in
    (a_text place raw (b ∷ []) c, s, p)

-- an escaped text is a leaf
pub spells_text : (t : List ℕ) → Spells (λ c. Leaf [] c t) (escaped t)
spells_text t = spells_text_behind t [] t refl

-- ---- an element

-- a start tag, and an end tag, without white space behind them
abbrev pub tag : List ℕ → List Attribute → List ℕ
tag name attributes = spelled (start_tag name attributes [])

abbrev pub end_of : List ℕ → List ℕ
end_of name = spelled (end_tag name [])

pub spells_element : (P Q R : Content → Type 0) (name : List ℕ) (attributes : List Attribute) (inside rest : List ℕ) → IsTag name attributes []
    → ((place end : ℕ) (c d : Content) → P c → Q d → R (element place name (map pair_of attributes) c end d)) → Spells P inside → Spells Q rest
    → Spells R (tag name attributes ++ (inside ++ (end_of name ++ rest)))
spells_element P Q R name attributes inside rest is then within behind place =
    let first = start_tag name attributes [] in
    let last = end_tag name [] in
    let here = place + length (spelled first) in
    let (c, s, p) = within here in
    let end = here + length (flat_map spelled s.pieces) in
    let (d, t, q) = behind (end + length (spelled last)) in
    let outer = last ∷ t.pieces in (
      element place name (map pair_of attributes) c end d,
      record {
        pieces = first ∷ (s.pieces ++ outer);
        each = (is, all_append s.pieces outer s.each ((is.0, refl), t.each));
        whole =
            ap (λ (r : List ℕ). spelled first ++ r)
            (ap (λ (x : List ℕ). x ++ (spelled last ++ rest)) s.whole
            ∙ ap (λ (x : List ℕ). flat_map spelled s.pieces ++ (spelled last ++ x)) t.whole
            ∙ sym (flat_map-append spelled s.pieces outer));
        nested =
            ap (λ (r : List Placed). at_place place (start name (map pair_of attributes)) ∷ r)
            (placed_append s.pieces outer here
            ∙ ap (λ (r : List Placed). r ++ at_place end (stop name) ∷ placed (end + length (spelled last)) t.pieces) s.nested
            ∙ ap (λ (r : List Placed). marks c ++ at_place end (stop name) ∷ r) t.nested);
      },
      then place end c d p q,
    )
