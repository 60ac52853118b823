-- Taking attributes, and whole pieces, from the front of bytes.
use Rattle.std.specs.Prelude.{ℕ, zero, suc, Bool, true, false, not, ◌||◌, ◌==◌, List, [], ◌∷◌, ◌++◌, length, Option, Some, None, codes, is_some, if◌then◌else◌}
use Rattle.std.specs.Char.{encode_utf8}
use Rattle.markup.specs.Piece.{is_space, goes_on_name, begins_name, in_value, before_end, referred}
use Rattle.markup.specs.Mark.{Named, Mark, start, stop, aside, text}

-- what a function makes of a value, where there is one
infixl 10 ◌>>=◌
abbrev pub ◌>>=◌ : {A B : Type 0} → Option A → (A → Option B) → Option B
(Some x) >>= f = f x
None >>= f = None

-- the bytes behind a fixed text with which they begin
unfoldable pub strip : List ℕ → List ℕ → Option (List ℕ)
strip [] bytes = Some bytes
strip (c ∷ cs) [] = None
strip (c ∷ cs) (b ∷ bs) = if b == c then strip cs bs else None

-- the bytes up to the first that does not pass a test, and those from there on
unfoldable pub front : (ℕ → Bool) → List ℕ → List ℕ
front p [] = []
front p (b ∷ bs) = if p b then b ∷ front p bs else []

unfoldable pub back : (ℕ → Bool) → List ℕ → List ℕ
back p [] = []
back p (b ∷ bs) = if p b then back p bs else b ∷ bs

-- a name, and the bytes behind it
unfoldable pub name_at : List ℕ → Option (List ℕ × List ℕ)
name_at [] = None
name_at (b ∷ bs) = if begins_name b then Some (b ∷ front goes_on_name bs, back goes_on_name bs) else None

-- the attribute of this name whose text in " or ' begins the bytes, and the bytes behind it
unfoldable pub quoted_at : List ℕ → List ℕ → Option (Named × List ℕ)
quoted_at name [] = None
quoted_at name (q ∷ bs) = if q == 34 || q == 39 then (strip (q ∷ []) (back (in_value q) bs) >>= λ rest. Some ((name, front (in_value q) bs), rest)) else None

-- an attribute with white space or none before it, and the bytes behind it
unfoldable pub attribute_at : List ℕ → Option (Named × List ℕ)
attribute_at bytes = do
  name ← name_at (back is_space bytes)
  value ← strip (codes "=") (back is_space name.1)
  quoted_at name.0 (back is_space value)

-- > or / begins the bytes
abbrev pub ends_tag : List ℕ → Bool
ends_tag [] = 0 == 1
ends_tag (b ∷ bs) = b == 62 || b == 47

-- white space begins the bytes
abbrev pub begins_space : List ℕ → Bool
begins_space [] = 0 == 1
begins_space (b ∷ bs) = is_space b

-- fewer than so many attributes, up to the end of the tag
unfoldable pub attributes_at : ℕ → List ℕ → Option (List Named × List ℕ)
attributes_at zero bytes = None
attributes_at (suc n) bytes =
    if ends_tag (back is_space bytes) then Some ([], bytes)
    else (if begins_space bytes then (attribute_at bytes >>= λ a. attributes_at n a.1 >>= λ all. Some (a.0 ∷ all.0, all.1)) else None)

-- the attributes that a text holds
unfoldable pub attributes_of : List ℕ → List Named
attributes_of bytes = elim (attributes_at (suc (length bytes)) (bytes ++ codes ">")) [
  | Some x ↦ x.0
  | None ↦ []
]

-- what stands behind the first end mark
unfoldable pub behind_first : List ℕ → List ℕ → Option (List ℕ)
behind_first mark [] = strip mark []
behind_first mark (b ∷ bs) = if is_some (strip mark (b ∷ bs)) then strip mark (b ∷ bs) else behind_first mark bs

-- the marks of a piece, and the bytes behind it
abbrev pub Taken : Type 0
Taken = List Mark × List ℕ

-- the end of a start tag or of an empty tag, whose name and attributes stand before
unfoldable pub closed_at : List ℕ → List Named → List ℕ → Option Taken
closed_at name all bytes =
    if is_some (strip (codes ">") bytes) then (strip (codes ">") bytes >>= λ rest. Some (start name all ∷ [], rest))
    else (strip (codes "/>") bytes >>= λ rest. Some (start name all ∷ stop name ∷ [], rest))

-- a start tag or an empty tag, behind its <
unfoldable pub opening_at : List ℕ → Option Taken
opening_at bytes = do
  name ← name_at bytes
  all ← attributes_at (suc (length name.1)) name.1
  closed_at name.0 all.0 (back is_space all.1)

-- an end tag, behind its </
unfoldable pub closing_at : List ℕ → Option Taken
closing_at bytes = do
  name ← name_at bytes
  rest ← strip (codes ">") (back is_space name.1)
  Some (stop name.0 ∷ [], rest)

-- a comment or an instruction up to its end mark
unfoldable pub aside_at : List ℕ → List ℕ → Option Taken
aside_at mark bytes = behind_first mark bytes >>= λ rest. Some (aside ∷ [], rest)

-- what begins with <, behind it
unfoldable pub tag_at : List ℕ → Option Taken
tag_at bytes =
    if is_some (strip (codes "/") bytes) then (strip (codes "/") bytes >>= closing_at)
    else (if is_some (strip (codes "!--") bytes) then (strip (codes "!--") bytes >>= aside_at (codes "-->"))
    else (if is_some (strip (codes "?") bytes) then (strip (codes "?") bytes >>= aside_at (codes "?>"))
    else opening_at bytes))

-- a reference, behind its &
unfoldable pub reference_at : List ℕ → Option Taken
reference_at bytes = do
  rest ← strip (codes ";") (back before_end bytes)
  c ← referred (front before_end bytes)
  Some (text false (encode_utf8 c) ∷ [], rest)

-- a byte of text: neither < nor &
abbrev pub in_text : ℕ → Bool
in_text b = not (b == 60 || b == 38)

-- the piece at the front
unfoldable pub piece_at : List ℕ → Option Taken
piece_at [] = None
piece_at (b ∷ bs) = if b == 60 then tag_at bs else (if b == 38 then reference_at bs else Some (text true (b ∷ []) ∷ [], bs))
