-- Which texts are valid relative paths, and why one is not. This station's own rule: docs/FORMATS.md, "Paths".
use Rattle.std.specs.Prelude.{ℕ, ◌+◌, Bool, cond, not, ◌&&◌, ◌||◌, ◌==◌, List, [], ◌∷◌, ◌++◌, length, slice_index, nat_lt, nat_eq, codes, Option, Some, None, is_none, Result, Ok, Err}
use Rattle.std.specs.Prelude.{◌≡◌}
use Rattle.std.specs.List.{starts_with, list_any}
use Rattle.std.specs.Str.{is_utf8}
use Rattle.path_text.specs.declared.path.PathError.{PathError}
use Rattle.path_text.specs.declared.path.PathError.TheVariants.{Empty, TooLong, Absolute, BadChar, EmptyPart, DotPart, Memory}
use Rattle.path_text.specs.Places.{first_below, is_refused, begins_part, ends_part}

-- a part that is empty
abbrev pub is_empty_part : List ℕ → ℕ → Bool
is_empty_part text k = begins_part text k && ends_part text k

-- a part that is one dot or two dots (the dot is 46)
abbrev pub is_dot_part : List ℕ → ℕ → Bool
is_dot_part text k = begins_part text k && slice_index text k == 46
    && (ends_part text (k + 1) || (slice_index text (k + 1) == 46 && ends_part text (k + 2)))

-- the offence at a place
abbrev pub offence_at : List ℕ → ℕ → Option PathError
offence_at text k = cond (is_refused text k) (Some (BadChar k))
    (cond (is_empty_part text k) (Some (EmptyPart k))
    (cond (is_dot_part text k) (Some (DotPart k)) None))

-- why a text is no path: none or too many bytes, a slash at the start, else the offence with the least place
unfoldable pub refusal_of : List ℕ → Option PathError
refusal_of text = cond (length text == 0) (Some Empty)
    (cond (nat_lt 1024 (length text)) (Some (TooLong (length text)))
    (cond (slice_index text 0 == 47) (Some Absolute)
    (first_below (offence_at text) (length text + 1))))

-- a valid relative path
unfoldable pub is_path : List ℕ → Bool
is_path text = is_utf8 text && is_none (refusal_of text)

-- the first part is `.mhlstation`
unfoldable pub is_control_path : List ℕ → Bool
is_control_path text = starts_with nat_eq text (codes ".mhlstation") && ends_part text 11

-- b lies below a: it begins with a followed by a slash (47)
abbrev pub is_ancestor : List ℕ → List ℕ → Bool
is_ancestor a b = starts_with nat_eq b (a ++ 47 ∷ [])

-- there is no slash
abbrev pub is_one_part : List ℕ → Bool
is_one_part text = not (list_any (λ b. b == 47) text)

-- what reading a text as a path gives
abbrev pub PathRead : List ℕ → Result (List ℕ) PathError → Type 0
PathRead text (Ok path) = (path ≡ text) × (refusal_of text ≡ None)
PathRead text (Err Memory) = Unit {0}
PathRead text (Err e) = refusal_of text ≡ Some e
