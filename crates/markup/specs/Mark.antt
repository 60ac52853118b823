-- What the pieces of a document say, each at its place.
use Rattle.std.specs.Prelude.{ℕ, ◌+◌, Bool, true, false, List, [], ◌∷◌, ◌++◌, map, length, Option, Some, None, if◌then◌else◌}
use Rattle.std.specs.Str.{bytes_eq}
use Rattle.std.specs.Char.{encode_utf8}
use Rattle.markup.specs.Piece.{Attribute, Piece, start_tag, empty_tag, end_tag, comment, instruction, reference, letter, spelled}

-- the name of an attribute and its text
abbrev pub Named : Type 0
Named = List ℕ × List ℕ

abbrev pub pair_of : Attribute → Named
pair_of a = (a.name, a.value)

-- the text of the first attribute of a name
abbrev pub first_value : List ℕ → List Named → Option (List ℕ)
first_value name [] = None
first_value name (a ∷ all) = if bytes_eq a.0 name then Some a.1 else first_value name all

pub data Mark : Type 0 where
  -- an element of this name begins, with these attributes; an element of this name ends
  start : List ℕ → List Named → Mark
  stop : List ℕ → Mark
  -- a comment or an instruction
  aside : Mark
  -- bytes of text, which stand for themselves, or which a reference stands for
  text : Bool → List ℕ → Mark

-- an empty tag begins an element and ends it
abbrev pub marks_of : Piece → List Mark
marks_of (start_tag name attributes space) = start name (map pair_of attributes) ∷ []
marks_of (empty_tag name attributes space) = start name (map pair_of attributes) ∷ stop name ∷ []
marks_of (end_tag name space) = stop name ∷ []
marks_of (comment t) = aside ∷ []
marks_of (instruction t) = aside ∷ []
marks_of (reference t c) = text false (encode_utf8 c) ∷ []
marks_of (letter b) = text true (b ∷ []) ∷ []

-- a mark, and the place of the first byte of its piece
pub record Placed : Type 0 where
  pub place : ℕ
  pub mark : Mark

abbrev pub all_at : ℕ → List Mark → List Placed
all_at place [] = []
all_at place (m ∷ ms) = record { place = place; mark = m } ∷ all_at place ms

-- the marks of pieces in a row, the first of which begins at a place
abbrev pub placed : ℕ → List Piece → List Placed
placed place [] = []
placed place (p ∷ ps) = all_at place (marks_of p) ++ placed (place + length (spelled p)) ps
