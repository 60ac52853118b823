-- What the texts of leaves say, once they are trimmed and read.
use Rattle.std.proofs.Common.{rules, ◌≡◌, ℕ, ◌<◌, ◌^◌, Bool, true, false, List, [], ◌∷◌, length, Option, Some, None, Result, Ok, Err, refl, sym, ap, ◌∙◌, arith}
use Rattle.std.specs.Prelude.{if◌then◌else◌}
use Rattle.std.specs.List.{list_all}
use Rattle.std.specs.Result.{result_ok, OkIff}
use Rattle.std.specs.Str.{IsUtf8, is_utf8}
use Rattle.std.specs.Str.Parse.{digits_value, ParsesUnsigned}
use Rattle.std.proofs.lemmas.Bool.{lt-ltb, ltb-true, false_from_ne_true}
use Rattle.std.proofs.lemmas.Fmt.{IsAscii-from_digits}
use Rattle.std.proofs.lemmas.Str.{IsUtf8-from_is_utf8, IsUtf8-from_ascii}
use Rattle.std.proofs.lemmas.Str.Parse.{IsDigitsTest, IsNumeralModel, numerals_by_value, parse_digits}
use Rattle.hex.specs.declared.error.FromHexError.{FromHexError}
use Rattle.hex.specs.Hex.{decode_sized}
use Rattle.path_text.specs.declared.path.PathError.{PathError}
use Rattle.path_text.specs.declared.path.PathError.TheVariants.{Empty, TooLong, Absolute, BadChar, EmptyPart, DotPart, Memory}
use Rattle.path_text.specs.Path.{is_path, refusal_of, PathRead}
use Rattle.path_text.proofs.Texts.{is_path-text}
use Rattle.markup.specs.Piece.{is_decimal_digit, numeral}
use Rattle.mhl_writer.specs.Note.{is_note}
use Rattle.mhl_reader.specs.Leaves.{trimmed, below, size_of, digest_of, note_of, path_of}

-- ---- a size

abbrev IsDecimal : List ℕ → Type 0
IsDecimal text = list_all is_decimal_digit text ≡ true

decimal_digits : IsDigitsTest IsDecimal
decimal_digits = search rules

decimals : IsNumeralModel IsDecimal (digits_value 10)
decimals = numerals_by_value IsDecimal decimal_digits

pub decimal_utf8 : (text : List ℕ) → list_all is_decimal_digit text ≡ true → IsUtf8 text
decimal_utf8 text e = IsUtf8-from_ascii text (IsAscii-from_digits text (decimals.to text e))

-- a numeral of 64 bits
abbrev size_in : List ℕ → Option ℕ
size_in text = below (2 ^ 64) (numeral is_decimal_digit 10 text)

not_decimal : (text : List ℕ) → list_all is_decimal_digit text ≡ false → None ≡ size_in text
not_decimal [] e = refl
not_decimal (d ∷ ds) e = rw e refl

pub no_size : (whole text : List ℕ) → text ≡ trimmed whole → list_all is_decimal_digit text ≡ false → None ≡ size_of whole
unfolding size_of
no_size whole text is e = not_decimal text e ∙ ap size_in is

is_below : (text : List ℕ) → 0 < length text → list_all is_decimal_digit text ≡ true → digits_value 10 text < 2 ^ 64 → Some (digits_value 10 text) ≡ size_in text
is_below [] some e lt = absurd (omega arith)
is_below (d ∷ ds) some e lt = rw (e, lt-ltb (digits_value 10 (d ∷ ds)) (2 ^ 64) lt) refl

too_large : (b : Bool) (x : ℕ) → (b ≡ true → ⊥) → None ≡ (if b then Some x else None)
too_large true x e = absurd (e refl)
too_large false x e = refl

pub parsed : {E : Type 0} (text : List ℕ) (r : Result ℕ E) → list_all is_decimal_digit text ≡ true → OkIff r ((0 < length text) × (digits_value 10 text < 2 ^ 64)) (digits_value 10 text) → result_ok r ≡ size_in text
parsed text (Ok n) e h = ap Some h.1 ∙ is_below text h.0.0 e h.0.1
parsed [] (Err x) e h = refl
parsed (d ∷ ds) (Err x) e h = rw e (too_large _ (digits_value 10 (d ∷ ds)) (λ lt. h (omega arith, ltb-true (digits_value 10 (d ∷ ds)) (2 ^ 64) lt)))

pub size_read : {E : Type 0} (whole given text : List ℕ) (r : Result ℕ E) → given ≡ trimmed whole → text ≡ given → list_all is_decimal_digit given ≡ true → ParsesUnsigned 64 10 text r → result_ok r ≡ size_of whole
unfolding size_of
size_read whole given text r is same e h =
    let decimal : list_all is_decimal_digit text ≡ true = ap (list_all is_decimal_digit) same ∙ e in
    parsed text r decimal (parse_digits decimals 64 text r h decimal) ∙ ap size_in (same ∙ is)

-- ---- a digest

pub digest_yes : (n : ℕ) (whole text digest : List ℕ) → text ≡ trimmed whole → Ok digest ≡ decode_sized text n → Some digest ≡ digest_of n whole
unfolding digest_of
digest_yes n whole text digest is e = ap result_ok (e ∙ ap (λ t. decode_sized t n) is)

pub digest_no : (n : ℕ) (whole text : List ℕ) (e : FromHexError) → text ≡ trimmed whole → Err e ≡ decode_sized text n → None ≡ digest_of n whole
unfolding digest_of
digest_no n whole text x is e = ap result_ok (e ∙ ap (λ t. decode_sized t n) is)

-- ---- a note

no_text : (text : List ℕ) → (IsUtf8 text → ⊥) → is_utf8 text ≡ false
no_text text never = false_from_ne_true (is_utf8 text) (λ e. never (IsUtf8-from_is_utf8 text e))

pub note_is : (whole given text : List ℕ) → given ≡ trimmed whole → text ≡ given → (if is_note text then Some text else None) ≡ note_of whole
unfolding note_of
note_is whole given text is same = ap (λ t. if is_note t then Some t else None) (same ∙ is)

no_note : (text : List ℕ) → (IsUtf8 text → ⊥) → None ≡ (if is_note text then Some text else None)
unfolding is_note
no_note text never = rw (no_text text never) refl

pub note_unread : (whole text : List ℕ) → text ≡ trimmed whole → (IsUtf8 text → ⊥) → None ≡ note_of whole
unfolding note_of
note_unread whole text is never = no_note text never ∙ ap (λ t. if is_note t then Some t else None) is

-- ---- a path

pub path_no_text : (whole : List ℕ) → (IsUtf8 whole → ⊥) → None ≡ path_of whole
unfolding path_of is_path
path_no_text whole never = rw (no_text whole never) refl

pub path_is : (whole text path : List ℕ) → IsUtf8 whole → text ≡ whole → path ≡ text → refusal_of text ≡ None → Some path ≡ path_of whole
unfolding path_of
path_is whole text path utf8 same is none =
    rw (is_path-text whole utf8, sym (ap refusal_of same) ∙ none) (ap Some (is ∙ same))

path_refused : (whole text : List ℕ) (e : PathError) → IsUtf8 whole → text ≡ whole → refusal_of text ≡ Some e → None ≡ path_of whole
unfolding path_of
path_refused whole text e utf8 same refused = rw (is_path-text whole utf8, sym (ap refusal_of same) ∙ refused) refl

pub path_unread : (whole text : List ℕ) (e : PathError) → IsUtf8 whole → text ≡ whole → (e ≡ Memory → ⊥) → PathRead text (Err e) → None ≡ path_of whole
path_unread whole text Memory utf8 same other read = absurd (other refl)
path_unread whole text Empty utf8 same other read = path_refused whole text Empty utf8 same read
path_unread whole text (TooLong bytes) utf8 same other read = path_refused whole text (TooLong bytes) utf8 same read
path_unread whole text Absolute utf8 same other read = path_refused whole text Absolute utf8 same read
path_unread whole text (BadChar place) utf8 same other read = path_refused whole text (BadChar place) utf8 same read
path_unread whole text (EmptyPart place) utf8 same other read = path_refused whole text (EmptyPart place) utf8 same read
path_unread whole text (DotPart place) utf8 same other read = path_refused whole text (DotPart place) utf8 same read
