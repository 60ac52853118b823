-- The characters of a document, and where its bytes are no text: XML 1.0, "Characters", and docs/FORMATS.md, "Markup".
use Rattle.std.specs.Prelude.{◌≡◌, true, false, ◌∷◌, ◌++◌, ℕ, ◌+◌, Bool, not, ◌&&◌, ◌||◌, ◌==◌, nat_le, nat_lt, List, length, slice_index, Option, Some, None, option_map, if◌then◌else◌}
use Rattle.std.specs.Str.{IsUtf8, is_utf8, chars, all_scalars, encode_utf8_all}
use Rattle.std.specs.List.{list_all}
use Rattle.std.specs.Str.Lossy.{utf8_valid_len}
use Rattle.path_text.specs.Places.{first_below}
use Rattle.markup.specs.declared.text.TextError.{TextError}
use Rattle.markup.specs.declared.text.TextError.TheVariants.{NotUtf8, Refused}

-- a character that XML 1.0 allows
abbrev pub is_allowed : ℕ → Bool
is_allowed c = c == 9 || (c == 10 || (c == 13 || ((nat_le 32 c && nat_le c 0xD7FF) || ((nat_le 0xE000 c && nat_le c 0xFFFD) || (nat_le 0x10000 c && nat_le c 0x10FFFF)))))

-- A character that XML 1.0 does not allow begins at a place of a text: U+0000 to U+001F without tab, line feed and carriage
-- return, U+FFFE or U+FFFF. In UTF-8 the last two are the bytes EF BF BE and EF BF BF.
abbrev pub is_refused : List ℕ → ℕ → Bool
is_refused text k =
    (nat_lt (slice_index text k) 32 && not (is_allowed (slice_index text k)))
    || (slice_index text k == 0xEF && (slice_index text (k + 1) == 0xBF && (slice_index text (k + 2) == 0xBE || slice_index text (k + 2) == 0xBF)))

-- the place, where such a character begins there
abbrev pub refused_at : List ℕ → ℕ → Option ℕ
refused_at text k = if nat_lt k (length text) && is_refused text k then Some k else None

-- what is wrong with bytes as a text: the first byte of the first sequence that is no UTF-8, else the first character that is not allowed
unfoldable pub text_error : List ℕ → Option TextError
text_error bytes =
    if is_utf8 bytes then option_map (λ at. Refused at) (first_below (refused_at bytes) (length bytes))
    else Some (NotUtf8 (utf8_valid_len bytes))

-- A text in UTF-8, of whose characters the first that XML 1.0 does not allow begins at this place: behind the bytes of those before it.
pub record FirstRefused (bytes : List ℕ) (place : ℕ) : Type 0 where
  pub front : List ℕ
  pub character : ℕ
  pub rest : List ℕ
  pub are : all_scalars (front ++ character ∷ rest) ≡ true
  pub whole : bytes ≡ encode_utf8_all (front ++ character ∷ rest)
  pub before : list_all is_allowed front ≡ true
  pub refused : is_allowed character ≡ false
  pub begins : place ≡ length (encode_utf8_all front)

-- a text in UTF-8, each of whose characters XML 1.0 allows
abbrev pub AllAllowed : List ℕ → Type 0
AllAllowed bytes = IsUtf8 bytes × (list_all is_allowed (chars bytes) ≡ true)
