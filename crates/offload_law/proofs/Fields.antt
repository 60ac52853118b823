-- The fields of a line, and the numbers that they write.
use Rattle.std.proofs.Common.{◌≡◌, ◌≢◌, inl, inr, ℕ, zero, suc, ◌+◌, ◌%◌, ◌/◌, ◌^◌, ◌<◌, ◌≤◌, false, List, [], ◌∷◌, ◌++◌, length, take, drop, refl, sym, ap, ◌∙◌, subst, arith}
use Rattle.std.specs.Prelude.{decimal, nat_lt, not, ◌==◌}
use Rattle.std.specs.Char.{digit_value}
use Rattle.std.specs.Fmt.{digits, digits_onto, digit_glyph}
use Rattle.std.specs.List.{AllByRecursion, prefix_len, position_or_len, before_first, after_first}
use Rattle.std.specs.Str.Parse.{AllDigits, digits_value}
use Rattle.std.proofs.Math.Seq.{take-append_seam, take-length, drop-append-add}
use Rattle.std.proofs.lemmas.Bool.{cond_both, cond-true, lt-ltb, not_from_false}
use Rattle.std.proofs.lemmas.Bool.Decides.{eqb_tells}
use Rattle.std.proofs.Math.Nat.{pow-le-pow_right}
use Rattle.std.proofs.lemmas.Fmt.{decimal_is_IsNumeral_wide}
use Rattle.std.proofs.lemmas.Str.{digit_value_digit}
use Rattle.std.proofs.lemmas.Int.Digits.{digits_value-lt}
use Rattle.offload_law.specs.Lines.{IsShort, is_space, behind}

-- a field without a space
abbrev pub NoSpace : List ℕ → Type 0
NoSpace text = AllByRecursion (λ b. b ≢ 32) text

space_no_digit : digit_value 32 < 10 → ⊥
space_no_digit h = omega (arith, h)

digit_no_space : (b : ℕ) → digit_value b < 10 → b ≢ 32
digit_no_space b h e = let P : ℕ → Type 0 = λ d. digit_value d < 10 in space_no_digit (subst P e h)

digits_no_space : (ds : List ℕ) → AllDigits 10 ds → NoSpace ds
digits_no_space [] h = tt
digits_no_space (d ∷ ds) h = (digit_no_space d h.0, digits_no_space ds h.1)

glyph_is_digit : (r : ℕ) → r < 10 → digit_value (digit_glyph false r) < 10
glyph_is_digit r low =
    let glyph : digit_glyph false r ≡ 48 + r = cond-true (nat_lt r 10) (48 + r) (87 + r) (lt-ltb r 10 low) in
    let digit : digit_value (48 + r) + 48 ≡ 48 + r = digit_value_digit (48 + r) (omega arith, omega arith) in
    let value : digit_value (48 + r) < 10 = omega (arith, digit) in
    subst (λ (b : ℕ). digit_value b < 10) (sym glyph) value

-- the digits that are written of a number
onto_digits : (k n : ℕ) (behind : List ℕ) → AllDigits 10 behind → AllDigits 10 (digits_onto k 10 false n behind)
onto_digits zero n behind all = all
onto_digits (suc k) n behind all =
    let glyph : digit_value (digit_glyph false (n % 10)) < 10 = glyph_is_digit (n % 10) (omega arith) in
    cond_both (n / 10 == 0) (digit_glyph false (n % 10) ∷ behind) (digits_onto k 10 false (n / 10) (digit_glyph false (n % 10) ∷ behind)) (AllDigits 10)
    (λ last. (glyph, all))
    (λ more. onto_digits k (n / 10) (digit_glyph false (n % 10) ∷ behind) (glyph, all))

onto_few : (k n : ℕ) (behind : List ℕ) → length (digits_onto k 10 false n behind) ≤ k + length behind
onto_few zero n behind = omega arith
onto_few (suc k) n behind =
    cond_both (n / 10 == 0) (digit_glyph false (n % 10) ∷ behind) (digits_onto k 10 false (n / 10) (digit_glyph false (n % 10) ∷ behind)) (λ (ds : List ℕ). length ds ≤ suc k + length behind)
    (λ last. omega arith)
    (λ more. omega (arith, onto_few k (n / 10) (digit_glyph false (n % 10) ∷ behind)))

decimal_digits : (n : ℕ) → AllDigits 10 (decimal n)
unfolding digits
decimal_digits n = onto_digits 64 n [] tt

decimal_few : (n : ℕ) → length (decimal n) ≤ 64
unfolding digits
decimal_few n = omega (arith, onto_few 64 n [])

pub decimal_no_space : (n : ℕ) → NoSpace (decimal n)
decimal_no_space n = digits_no_space (decimal n) (decimal_digits n)

ten : 0 < 10
ten = omega arith

-- a number that its digits write is short
pub short_by_digits : (n : ℕ) → n ≡ digits_value 10 (decimal n) → IsShort n
short_by_digits n is =
    let low = digits_value-lt 10 (decimal n) (decimal_digits n) in
    let most : 10 ^ length (decimal n) ≤ 10 ^ 64 = pow-le-pow_right ten (decimal_few n) in
    omega (arith, is, low, most)

-- a short number is the one that its digits write
pub value_decimal : (n : ℕ) → IsShort n → digits_value 10 (decimal n) ≡ n
value_decimal n short = (decimal_is_IsNumeral_wide n short).1

no_space : (b : ℕ) → b ≢ 32 → is_space b ≡ false
no_space b other = elim (eqb_tells b 32) [ inl is ↦ absurd (other is.1) | inr is ↦ is.0 ]

-- a space ends a field
place_of_space : (a r : List ℕ) → NoSpace a → position_or_len is_space (a ++ 32 ∷ r) ≡ length a
place_of_space [] r x = refl
place_of_space (c ∷ a) r x =
    let rest = prefix_len (λ b. not (is_space b)) (a ++ 32 ∷ r) in
    let here : rest ≡ length a = place_of_space a r x.1 in
    cond-true (not (is_space c)) (1 + rest) 0 (not_from_false (is_space c) (no_space c x.0)) ∙ omega (arith, here)

no_place : (a : List ℕ) → NoSpace a → position_or_len is_space a ≡ length a
no_place [] x = refl
no_place (c ∷ a) x =
    let rest = prefix_len (λ b. not (is_space b)) a in
    let here : rest ≡ length a = no_place a x.1 in
    cond-true (not (is_space c)) (1 + rest) 0 (not_from_false (is_space c) (no_space c x.0)) ∙ omega (arith, here)

pub field_before : (a r : List ℕ) → NoSpace a → before_first is_space (a ++ 32 ∷ r) ≡ a
field_before a r x = ap (λ (k : ℕ). take k (a ++ 32 ∷ r)) (place_of_space a r x) ∙ take-append_seam a (32 ∷ r)

pub last_field : (a : List ℕ) → NoSpace a → before_first is_space a ≡ a
last_field a x = ap (λ (k : ℕ). take k a) (no_place a x) ∙ take-length a

pub field_after : (a r : List ℕ) → NoSpace a → after_first is_space (a ++ 32 ∷ r) ≡ r
field_after a r x = ap (λ (k : ℕ). drop (k + 1) (a ++ 32 ∷ r)) (place_of_space a r x) ∙ drop-append-add a (32 ∷ r) 1
