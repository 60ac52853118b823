-- Names as lines show them.
use Rattle.std.proofs.Common.{◌≡◌, ℕ, zero, suc, ◌<◌, ◌≤◌, true, false, cond, length, map, take, List, [], ◌∷◌, ◌++◌, refl, sym, ◌∙◌, ap, subst, inl, inr, arith, length-append, append-nil}
use Rattle.std.proofs.lemmas.Grind.{common_steps}
use Rattle.std.specs.List.{slice_range}
use Rattle.std.specs.Prelude.{Bool, nat_lt, ◌==◌, ◌||◌}
use Rattle.std.specs.Str.{IsUtf8, IsCharBoundary, chars, encode_utf8_all}
use Rattle.std.specs.Char.{encode_utf8}
use Rattle.std.proofs.lemmas.Bool.{cases_eq}
use Rattle.std.proofs.lemmas.Bool.Decides.{nat_tests}
use Rattle.std.proofs.lemmas.Str.{encodes-append, encodes-chars, length-encode, len_utf8_bounds}
use Rattle.std.proofs.lemmas.List.{map-append}
use Rattle.report_text.specs.Shown.{is_boundary, whole_up_to, shown_character}

boundary_test : (text : List ℕ) (n : ℕ) → IsCharBoundary text n → is_boundary text n ≡ true
boundary_test text n (within, starts) = grind (arith, nat_tests)

boundary_of : (text : List ℕ) (n : ℕ) → is_boundary text n ≡ true → IsCharBoundary text n
boundary_of text n is = (grind (arith, nat_tests), grind (arith, nat_tests))

not_boundary : (text : List ℕ) (n : ℕ) → (IsCharBoundary text n → ⊥) → is_boundary text n ≡ false
not_boundary text n h = tested _ refl
  where
    tested : (b : Bool) → is_boundary text n ≡ b → is_boundary text n ≡ false
    tested true is = absurd (h (boundary_of text n is))
    tested false is = is

-- the greatest boundary up to n
pub whole_up_to-is : (text : List ℕ) (n r : ℕ) → r ≤ n → IsCharBoundary text r → ((i : ℕ) → r < i → i ≤ n → IsCharBoundary text i → ⊥) → whole_up_to text n ≡ r
unfolding whole_up_to
whole_up_to-is text zero r within here past = omega arith
whole_up_to-is text (suc n) r within here past = elim (cases_eq r (suc n)) [
  | inl last ↦ ap (λ b. cond b (suc n) (whole_up_to text n)) (boundary_test text (suc n) (subst (IsCharBoundary text) last here)) ∙ sym last
  | inr before ↦
      ap (λ b. cond b (suc n) (whole_up_to text n)) (not_boundary text (suc n) (past (suc n) (omega arith) (omega arith)))
      ∙ whole_up_to-is text n r (omega arith) here (λ i above below. past i above (omega arith))
]

no_longer : (c : ℕ) → length (encode_utf8 (shown_character c)) ≤ length (encode_utf8 c)
no_longer c = replaced _ refl
  where
    replaced : (b : Bool) → (nat_lt c 32 || c == 127 || c == 0xFFFE || c == 0xFFFF) ≡ b → length (encode_utf8 (shown_character c)) ≤ length (encode_utf8 c)
    replaced true is =
        let one : length (encode_utf8 (shown_character c)) ≡ 1 = ap (λ x. length (encode_utf8 (cond x 63 c))) is ∙ length-encode 63 in
        let some = (len_utf8_bounds c).0 in
        let long = length-encode c in omega (arith, one, some, long)
    replaced false is =
        let same : length (encode_utf8 (shown_character c)) ≡ length (encode_utf8 c) = ap (λ x. length (encode_utf8 (cond x 63 c))) is in
        omega (arith, same)

shorter : (cs : List ℕ) → length (encode_utf8_all (map shown_character cs)) ≤ length (encode_utf8_all cs)
shorter [] = omega arith
shorter (c ∷ cs) =
    let here = no_longer c in
    let rest = shorter cs in
    omega (arith, here, rest, length-append (encode_utf8 c) (encode_utf8_all cs), length-append (encode_utf8 (shown_character c)) (encode_utf8_all (map shown_character cs)))

-- what is shown has no more bytes than what it is made of
pub shown_short : (text cut : List ℕ) (cs : List ℕ) → IsUtf8 cut → text ≡ encode_utf8_all (map shown_character cs) → cs ≡ chars cut → length cut ≤ 1024 → length text ≤ 1024
shown_short text cut cs utf8 is all short =
    let long = ap length is in
    let less = shorter cs in
    let whole = ap length (ap encode_utf8_all all ∙ encodes-chars cut utf8) in
    omega (arith, long, less, whole)

-- one character more
pub shown_more : (text : List ℕ) (cs : List ℕ) (c : ℕ) → text ≡ encode_utf8_all (map shown_character cs) → text ++ encode_utf8 (shown_character c) ≡ encode_utf8_all (map shown_character (cs ++ c ∷ []))
shown_more text cs c is =
    ap (λ t. t ++ encode_utf8 (shown_character c)) is
    ∙ ap (λ t. encode_utf8_all (map shown_character cs) ++ t) (sym (append-nil (encode_utf8 (shown_character c))))
    ∙ sym (encodes-append (map shown_character cs) (shown_character c ∷ []))
    ∙ ap encode_utf8_all (sym (map-append shown_character cs (c ∷ [])))

pub from_start : (text : List ℕ) (n : ℕ) → slice_range text 0 n ≡ take n text
from_start text n = grind (arith, common_steps)

pub same_items : (cs : List ℕ) → map (λ c. c) cs ≡ cs
same_items [] = refl
same_items (c ∷ cs) = ap (λ l. c ∷ l) (same_items cs)
