-- How the tokens of the code are seen, and when one is taken from the front of bytes.
use Rattle.std.specs.Prelude.{◌≡◌, ℕ, ◌+◌, true, false, List, [], ◌∷◌, ◌++◌, Option, Some, None, codes, if◌then◌else◌}
use Rattle.std.specs.List.{flat_map, starts_with, AllByRecursion}
use Rattle.std.specs.Prelude.{nat_eq}
use Rattle.std.specs.Char.{encode_utf8}
use Rattle.markup.specs.declared.token.Token.{Token}
use Rattle.markup.specs.declared.token.Token.TheVariants as made
use Rattle.markup.specs.declared.token.MarkupError.{MarkupError}
use Rattle.markup.specs.declared.token.MarkupError.TheVariants.{Malformed, Doctype, Cdata}
use Rattle.markup.specs.Piece.{Piece, IsPiece, spelled}
use Rattle.markup.specs.Mark.{Mark, start, stop, aside, text, Placed, all_at, placed}
use Rattle.markup.specs.Taking.{attributes_of}

-- letters in a row, each at its place
abbrev pub letters_at : ℕ → List ℕ → List Placed
letters_at place [] = []
letters_at place (b ∷ bs) = record { place = place; mark = text true (b ∷ []) } ∷ letters_at (place + 1) bs

-- the marks of a token whose piece begins at a place; a run of text is its letters
abbrev pub seen_at : ℕ → Token → List Placed
seen_at place (made.Start name attributes) = all_at place (start name.now (attributes_of attributes.now) ∷ [])
seen_at place (made.Empty name attributes) = all_at place (start name.now (attributes_of attributes.now) ∷ stop name.now ∷ [])
seen_at place (made.End name) = all_at place (stop name.now ∷ [])
seen_at place made.Aside = all_at place (aside ∷ [])
seen_at place (made.Reference c) = all_at place (text false (encode_utf8 c) ∷ [])
seen_at place (made.Text run) = letters_at place run.now

-- a token is one piece, or a run of letters, at the front of the bytes, and the rest stands behind it
pub record Takes (bytes : List ℕ) (token : Token) (rest : List ℕ) : Type 0 where
  pub first : Piece
  pub more : List Piece
  pub each : AllByRecursion IsPiece (first ∷ more)
  pub whole : bytes ≡ flat_map spelled (first ∷ more) ++ rest
  pub seen : (place : ℕ) → seen_at place token ≡ placed place (first ∷ more)

-- no piece stands at the front of the bytes
abbrev pub NoPiece : List ℕ → Type 0
NoPiece bytes = (p : Piece) (rest : List ℕ) → IsPiece p → bytes ≡ spelled p ++ rest → ⊥

-- what a function found, seen by view, is what is there
abbrev pub Finds : {X Y : Type 0} → (X → Y) → Option X → Option Y → Type 0
Finds view (Some x) found = found ≡ Some (view x)
Finds view None found = found ≡ None

-- what stands there in place of a piece
abbrev pub error_at : List ℕ → MarkupError
error_at bytes = if starts_with nat_eq bytes (codes "<!DOCTYPE") then Doctype else (if starts_with nat_eq bytes (codes "<![CDATA[") then Cdata else Malformed)

-- the marks of a token that is one piece; those of a run of text have places of their own
abbrev pub marks_seen : Token → List Mark
marks_seen (made.Start name attributes) = start name.now (attributes_of attributes.now) ∷ []
marks_seen (made.Empty name attributes) = start name.now (attributes_of attributes.now) ∷ stop name.now ∷ []
marks_seen (made.End name) = stop name.now ∷ []
marks_seen made.Aside = aside ∷ []
marks_seen (made.Reference c) = text false (encode_utf8 c) ∷ []
marks_seen (made.Text run) = []
