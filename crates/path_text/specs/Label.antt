-- Which texts are labels, the names of cards, users and hosts, and why one is not. This station's own rule: docs/FORMATS.md, "Labels".
use Rattle.std.specs.Prelude.{◌≡◌, ℕ, Bool, cond, not, ◌&&◌, ◌||◌, ◌==◌, List, length, slice_index, nat_lt, Option, Some, None, is_none, Result, Ok, Err}
use Rattle.std.specs.Char.{is_ascii_alphanumeric}
use Rattle.path_text.specs.declared.label.NameError.{NameError}
use Rattle.path_text.specs.declared.label.NameError.TheVariants.{TooLong, BadName}
use Rattle.path_text.specs.Places.{first_below}

-- a byte of a label: a letter or a digit of ASCII, or one of . _ - (46, 95 and 45)
abbrev pub is_label_byte : ℕ → Bool
is_label_byte b = is_ascii_alphanumeric b || b == 46 || b == 95 || b == 45

-- the byte at this place breaks the rule: it is no byte of a label, or it is a dot at the start
abbrev pub breaks_label : List ℕ → ℕ → Bool
breaks_label text k = not (is_label_byte (slice_index text k)) || (k == 0 && slice_index text k == 46)

-- the fault at a place
abbrev pub label_fault_at : List ℕ → ℕ → Option NameError
label_fault_at text k = cond (breaks_label text k) (Some (BadName k)) None

-- why a text is no label: too many bytes, none, else the first byte that breaks the rule
unfoldable pub label_refusal_of : List ℕ → Option NameError
label_refusal_of text = cond (nat_lt 64 (length text)) (Some (TooLong (length text)))
    (cond (length text == 0) (Some (BadName 0))
    (first_below (label_fault_at text) (length text)))

-- a label
abbrev pub is_label : List ℕ → Bool
is_label text = is_none (label_refusal_of text)

-- what reading a text as a label gives
abbrev pub LabelRead : List ℕ → Result (List ℕ) NameError → Type 0
LabelRead text (Ok label) = (label ≡ text) × (label_refusal_of text ≡ None)
LabelRead text (Err e) = label_refusal_of text ≡ Some e
