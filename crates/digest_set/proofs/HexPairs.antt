-- What the crate `hex` decodes is the bytes that the digits stand for.
use Rattle.std.proofs.Common.{◌≡◌, ℕ, zero, suc, ◌+◌, ◌*◌, ◌/◌, ◌%◌, ◌<◌, List, [], ◌∷◌, length, slice_index, refl, sym, ap, ◌∙◌, subst, arith}
use Rattle.std.specs.Prelude.{Option, Some, None, Result, Ok, Err, MatchResult, Bool, true, false, IsOk, is_ok}
use Rattle.std.specs.Bool.{OnTrue}
use Rattle.std.specs.Result.{result_unwrap_or}
use Rattle.std.proofs.lemmas.List.{ext_get_or}
use Rattle.hex.specs.Hex.{decode_pairs, decode_sized, digit_or_error, encode_lower, hex_digit_value, IsBytes, pair_value, value_at, ◌>>=◌}
use Rattle.hex.specs.declared.error.FromHexError.{FromHexError}
use Rattle.hex.proofs.HexLemmas.{decode_of-even, decode_sized-encode_lower, decode_sized-ok, decode_sized-twice}
use Rattle.digest_set.specs.HexText.{IsByteOf, IsHexOf}

-- the first step of two that gave a value
first_gave : {A B : Type 0} (r : Result A FromHexError) (f : A → Result B FromHexError) (y : B)
    → (r >>= f) ≡ Ok y → (x : A) × (r ≡ Ok x) × (f x ≡ Ok y)
first_gave (Ok x) f y h = (x, refl, h)
first_gave (Err e) f y h = cc h

-- the value of a digit that was read
digit_read : (c i : ℕ) (o : Option ℕ) (v : ℕ) → digit_or_error c i o ≡ Ok v → o ≡ Some v
digit_read c i (Some w) v h = ap Some (ap (λ (r : Result ℕ FromHexError). result_unwrap_or r 0) h)
digit_read c i None v h = cc h

-- a digit stands for less than 16
digit_small : (c v : ℕ) → hex_digit_value c ≡ Some v → v < 16
digit_small c v h = grind (arith)

-- the byte of two digits that were read
byte_read : (high low i byte : ℕ) → pair_value high low i ≡ Ok byte → IsByteOf high low byte
byte_read high low i byte h =
    let one = first_gave (value_at high i) _ byte h in
    let two = first_gave (value_at low (i + 1)) _ byte one.2 in
    let high_is = digit_read high i (hex_digit_value high) one.0 one.1 in
    let low_is = digit_read low (i + 1) (hex_digit_value low) two.0 two.1 in
    let high_small = digit_small high one.0 high_is in
    let low_small = digit_small low two.0 low_is in
    let whole : one.0 * 16 + two.0 ≡ byte = ap (λ (r : Result ℕ FromHexError). result_unwrap_or r 0) two.2 in
    let above : one.0 ≡ byte / 16 = omega arith in
    let below : two.0 ≡ byte % 16 = omega arith in
    record { high_half = high_is ∙ ap Some above; low_half = low_is ∙ ap Some below }

-- the pairs after two digits more
pairs_more : (high low byte : ℕ) (text bytes : List ℕ) → IsByteOf high low byte → IsHexOf text bytes
    → (k : ℕ) → k < length (byte ∷ bytes)
    → IsByteOf (slice_index (high ∷ low ∷ text) (2 * k)) (slice_index (high ∷ low ∷ text) (2 * k + 1)) (slice_index (byte ∷ bytes) k)
pairs_more high low byte text bytes one rest zero within = one
pairs_more high low byte text bytes one rest (suc k) within =
    let odd : 2 * suc k + 1 ≡ suc (suc (2 * k + 1)) = omega arith in
    let even : 2 * suc k ≡ suc (suc (2 * k)) = omega arith in
    rw (odd, even) (rest.pairs k (omega arith))

-- two digits more, and their byte
hex_more : (high low byte : ℕ) (text bytes : List ℕ) → IsByteOf high low byte → IsHexOf text bytes
    → IsHexOf (high ∷ low ∷ text) (byte ∷ bytes)
hex_more high low byte text bytes one rest = record {
  two_each = let e = rest.two_each in omega (arith, e);
  pairs = pairs_more high low byte text bytes one rest;
}

-- pairs that were read
pairs_read : (i : ℕ) (text bytes : List ℕ) → decode_pairs i text ≡ Ok bytes → IsHexOf text bytes
unfolding decode_pairs
pairs_read i [] bytes h =
    let e : [] ≡ bytes = ap (λ (r : Result (List ℕ) FromHexError). result_unwrap_or r []) h in
    subst (IsHexOf []) e (record { two_each = refl; pairs = λ k within. absurd (omega arith) })
pairs_read i (one ∷ []) bytes h = cc h
pairs_read i (high ∷ low ∷ text) bytes h =
    let byte = first_gave (pair_value high low i) _ bytes h in
    let rest = first_gave (decode_pairs (i + 2) text) _ bytes byte.2 in
    let e : byte.0 ∷ rest.0 ≡ bytes = ap (λ (r : Result (List ℕ) FromHexError). result_unwrap_or r []) rest.2 in
    subst (IsHexOf (high ∷ low ∷ text)) e
    (hex_more high low byte.0 text rest.0 (byte_read high low i byte.0 byte.1) (pairs_read (i + 2) text rest.0 rest.1))

-- a text that decodes to these bytes is their digits
pub decoded : (text bytes : List ℕ) (n : ℕ) → decode_sized text n ≡ Ok bytes → IsHexOf text bytes
decoded text bytes n h =
    let twice = decode_sized-ok text n bytes h in
    let even = sym (decode_of-even text (omega arith)) ∙ sym (decode_sized-twice text n twice) ∙ h in
    pairs_read 0 text bytes even

-- what a decoding into room for bytes left there
written : (text out : List ℕ) (n : ℕ) (r : Result Unit FromHexError) (d : Result (List ℕ) FromHexError) → decode_sized text n ≡ d
    → MatchResult d (λ bytes. (r ≡ Ok tt) × (out ≡ bytes)) (λ e. r ≡ Err e) → IsOk r → IsHexOf text out
written text out n r (Ok bytes) is h ok = subst (IsHexOf text) (sym h.1) (decoded text bytes n is)
written text out n r (Err e) is h ok = cc (h, ok)

-- the same, where a test said whether it was read
pub written_on : (text out : List ℕ) (n : ℕ) (r : Result Unit FromHexError) (read : Bool) → read ≡ is_ok r
    → MatchResult (decode_sized text n) (λ bytes. (r ≡ Ok tt) × (out ≡ bytes)) (λ e. r ≡ Err e) → OnTrue read (IsHexOf text out)
written_on text out n r true is h = written text out n r (decode_sized text n) refl h (sym is)
written_on text out n r false is h = tt

-- what is written in lower case is the digits of the bytes that were written
pub IsHexOf-encode_lower : (bytes : List ℕ) → IsBytes bytes → IsHexOf (encode_lower bytes) bytes
IsHexOf-encode_lower bytes small =
    decoded (encode_lower bytes) bytes (length bytes) (decode_sized-encode_lower bytes (length bytes) refl small)

-- a digit stands for one number
some_is : (v w : ℕ) → Some v ≡ Some w → v ≡ w
some_is v w e = cc e

-- two digits stand for one byte
one_byte : (high low a b : ℕ) → IsByteOf high low a → IsByteOf high low b → a ≡ b
one_byte high low a b is_a is_b =
    let above = some_is (a / 16) (b / 16) (sym is_a.high_half ∙ is_b.high_half) in
    let below = some_is (a % 16) (b % 16) (sym is_a.low_half ∙ is_b.low_half) in
    omega arith

-- a text is the digits of one list of bytes at most
pub same_bytes : (text a b : List ℕ) → IsHexOf text a → IsHexOf text b → a ≡ b
same_bytes text a b is_a is_b =
    let long : length a ≡ length b = let e = is_a.two_each in let f = is_b.two_each in omega (arith, e, f) in
    ext_get_or 0 a b long (λ k within. one_byte _ _ (slice_index a k) (slice_index b k) (is_a.pairs k within) (is_b.pairs k (omega arith)))
