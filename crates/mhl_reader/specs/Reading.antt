-- What a document means, and its first fault: docs/FORMATS.md, "Reading a list".
use Rattle.std.specs.Prelude.{◌≡◌, ◌⊎◌, ℕ, ◌+◌, ◌<◌, List, [], ◌∷◌, ◌++◌, length, drop, Some, None, Ok, Err, nat_eq, if◌then◌else◌}
use Rattle.std.specs.List.{flat_map, starts_with, AllByRecursion}
use Rattle.markup.specs.declared.text.TextError.{TextError}
use Rattle.markup.specs.declared.text.TextError.TheVariants as texts
use Rattle.markup.specs.declared.token.MarkupError.{MarkupError}
use Rattle.markup.specs.declared.token.MarkupError.TheVariants as pieces
use Rattle.markup.specs.Characters.{text_error}
use Rattle.markup.specs.Piece.{Piece, IsPiece, spelled}
use Rattle.markup.specs.Mark.{marks_of, all_at, placed}
use Rattle.markup.specs.Token.{NoPiece, error_at}
use Rattle.mhl_writer.specs.ListText.{Values}
use Rattle.mhl_reader.specs.declared.error.ReadError.{ReadError}
use Rattle.mhl_reader.specs.declared.error.ReadError.TheVariants.{NotUtf8, Malformed, Doctype, Cdata}
use Rattle.mhl_reader.specs.Grammar.{Content, marks, Found, Document, values_found}
use Rattle.mhl_reader.specs.Faults.{State, steps, ended, nothing_open}

-- the bytes of the byte order mark with which a document may begin
abbrev pub start_of : List ℕ → ℕ
start_of bytes = if starts_with nat_eq bytes (0xEF ∷ 0xBB ∷ 0xBF ∷ []) then 3 else 0

-- The bytes are a text; behind a byte order mark, if there is one, they are pieces in a row; the tags and texts of the pieces are those
-- of content; and the content is a document of this meaning.
pub record Reading (bytes : List ℕ) (list : Values) : Type 0 where
  pub is_text : text_error bytes ≡ None
  pub pieces : List Piece
  pub each : AllByRecursion IsPiece pieces
  pub whole : drop (start_of bytes) bytes ≡ flat_map spelled pieces
  pub content : Content
  pub nested : placed (start_of bytes) pieces ≡ marks content
  pub found : Found
  pub document : Document content found
  pub meaning : values_found found ≡ list

-- the refusal of bytes that are no text, and of what is no piece at a place
abbrev pub text_fault : TextError → ReadError
text_fault (texts.NotUtf8 at) = NotUtf8 at
text_fault (texts.Refused at) = Malformed at

abbrev pub markup_fault : ℕ → MarkupError → ReadError
markup_fault place pieces.Malformed = Malformed place
markup_fault place pieces.Doctype = Doctype place
markup_fault place pieces.Cdata = Cdata place

-- What stands at a place is a fault, given what is open there: the end of the input, a piece, or what is no piece.
abbrev pub FaultAt : State → ℕ → List ℕ → ReadError → Type 0
FaultAt s place rest fault =
    ((rest ≡ []) × (ended s place ≡ Err fault))
    ⊎ ((p : Piece) × (more : List ℕ) × IsPiece p × (rest ≡ spelled p ++ more) × (steps s (all_at place (marks_of p)) ≡ Err fault))
    ⊎ ((0 < length rest) × NoPiece rest × (markup_fault place (error_at rest) ≡ fault))

-- the first fault of a text: pieces without a fault stand before it, and lead to what is open there
pub record FirstOfText (bytes : List ℕ) (fault : ReadError) : Type 0 where
  pub before : List Piece
  pub each : AllByRecursion IsPiece before
  pub rest : List ℕ
  pub whole : drop (start_of bytes) bytes ≡ flat_map spelled before ++ rest
  pub state : State
  pub leads : steps nothing_open (placed (start_of bytes) before) ≡ Ok state
  pub fault_is : FaultAt state (start_of bytes + length (flat_map spelled before)) rest fault

-- the first fault: the two checks of the text come first
abbrev pub FirstFault : List ℕ → ReadError → Type 0
FirstFault bytes fault =
    ((e : TextError) × (text_error bytes ≡ Some e) × (text_fault e ≡ fault))
    ⊎ ((text_error bytes ≡ None) × FirstOfText bytes fault)
