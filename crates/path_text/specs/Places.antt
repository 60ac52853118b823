-- Places in a text, counted in bytes from its start.
use Rattle.std.specs.Prelude.{ℕ, zero, suc, ◌+◌, ◌-◌, Bool, cond, ◌&&◌, ◌||◌, ◌==◌, List, length, slice_index, nat_lt, nat_le, Option, Some, None, is_none}
use Rattle.std.specs.Option.{option_or}

-- what is said of the first of the places below n of which something is said
unfoldable pub first_below : {A : Type 0} → (ℕ → Option A) → ℕ → Option A
first_below f zero = None
first_below f (suc n) = option_or (first_below f n) (f n)

-- A character that no path and no note may hold begins here: U+0000 to U+001F, U+007F, U+FFFE or U+FFFF.
-- In UTF-8 the last two are the bytes EF BF BE and EF BF BF.
abbrev pub is_refused : List ℕ → ℕ → Bool
is_refused text k = nat_lt k (length text)
    && (nat_lt (slice_index text k) 32 || slice_index text k == 127
    || (slice_index text k == 0xEF && slice_index text (k + 1) == 0xBF && (slice_index text (k + 2) == 0xBE || slice_index text (k + 2) == 0xBF)))

-- the place, where a refused character begins there
abbrev pub refused_at : List ℕ → ℕ → Option ℕ
refused_at text k = cond (is_refused text k) (Some k) None

-- no refused character in it
abbrev pub is_clean : List ℕ → Bool
is_clean text = is_none (first_below (refused_at text) (length text))

-- a part between slashes begins here
abbrev pub begins_part : List ℕ → ℕ → Bool
begins_part text k = k == 0 || slice_index text (k - 1) == 47

-- a part between slashes ends here
abbrev pub ends_part : List ℕ → ℕ → Bool
ends_part text k = nat_le (length text) k || slice_index text k == 47
