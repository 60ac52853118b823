-- Which texts are notes: the short texts of a list's creator. This station's own rule: docs/FORMATS.md, "Notes".
use Rattle.std.specs.Prelude.{ℕ, ◌-◌, Bool, not, ◌&&◌, ◌==◌, List, length, slice_index, nat_le}
use Rattle.std.specs.Str.{is_utf8}
use Rattle.path_text.specs.Places.{is_clean}

-- 1 to 256 bytes, no refused character, no space (32) at either end
abbrev pub is_note_rule : List ℕ → Bool
is_note_rule text = nat_le 1 (length text) && nat_le (length text) 256 && is_clean text
    && not (slice_index text 0 == 32) && not (slice_index text (length text - 1) == 32)

-- a note: UTF-8 that meets the rule
unfoldable pub is_note : List ℕ → Bool
is_note text = is_utf8 text && is_note_rule text
