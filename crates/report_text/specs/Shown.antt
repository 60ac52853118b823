-- How a line shows a name of a listing, which may be no valid path: docs/FORMATS.md, "Names that are no paths".
use Rattle.std.specs.Prelude.{ℕ, zero, suc, Bool, cond, ◌&&◌, ◌||◌, ◌==◌, List, map, take, length, slice_index, nat_lt, nat_le}
use Rattle.std.specs.Str.{chars, encode_utf8_all}

-- a character begins at this place, or the text ends there: 128 to 191 are the bytes within a character
abbrev pub is_boundary : List ℕ → ℕ → Bool
is_boundary text n = n == length text || (nat_lt n (length text) && (nat_lt (slice_index text n) 128 || nat_le 192 (slice_index text n)))

-- the greatest number of bytes up to n that ends at a whole character
unfoldable pub whole_up_to : List ℕ → ℕ → ℕ
whole_up_to text zero = 0
whole_up_to text (suc n) = cond (is_boundary text (suc n)) (suc n) (whole_up_to text n)

-- a character that no path may hold is shown as a question mark (63)
abbrev pub shown_character : ℕ → ℕ
shown_character c = cond (nat_lt c 32 || c == 127 || c == 0xFFFE || c == 0xFFFF) 63 c

-- the first 1,024 bytes at most, ended at a whole character, with the refused characters replaced
unfoldable pub shown : List ℕ → List ℕ
shown name = encode_utf8_all (map shown_character (chars (take (whole_up_to name 1024) name)))
