-- The pieces of a document as they are written: XML 1.0 in the profile of docs/FORMATS.md, "Markup".
use Rattle.std.specs.Prelude.{◌≡◌, ℕ, Bool, not, ◌&&◌, ◌||◌, ◌==◌, nat_le, List, [], ◌∷◌, ◌++◌, Option, Some, None, codes, IsTrue, if◌then◌else◌}
use Rattle.std.specs.List.{flat_map, list_all, AllByRecursion}
use Rattle.std.specs.Str.{bytes_eq}
use Rattle.std.specs.Str.Parse.{digits_value}
use Rattle.markup.specs.Characters.{is_allowed}

-- white space: space, tab, line feed, carriage return
abbrev pub is_space : ℕ → Bool
is_space b = b == 32 || (b == 9 || (b == 10 || b == 13))

-- a byte of a name: at its start a letter a to z or A to Z, _ or a character from U+0080 on; then also digits, : - and .
abbrev pub begins_name : ℕ → Bool
begins_name b = (nat_le 97 b && nat_le b 122) || ((nat_le 65 b && nat_le b 90) || (b == 95 || nat_le 128 b))

abbrev pub goes_on_name : ℕ → Bool
goes_on_name b = begins_name b || ((nat_le 48 b && nat_le b 58) || (b == 45 || b == 46))

abbrev pub IsName : List ℕ → Type 0
IsName [] = ⊥
IsName (b ∷ bs) = IsTrue (begins_name b) × IsTrue (list_all goes_on_name bs)

-- an attribute: white space, a name, = with white space round it, and a text in " or '
pub record Attribute : Type 0 where
  pub first_space : ℕ
  pub space : List ℕ
  pub name : List ℕ
  pub left : List ℕ
  pub right : List ℕ
  pub quote : ℕ
  pub value : List ℕ

-- a byte of the text: not its quote, and not <
abbrev pub in_value : ℕ → ℕ → Bool
in_value quote b = not (b == quote) && not (b == 60)

abbrev pub spelled_attribute : Attribute → List ℕ
spelled_attribute a = a.first_space ∷ (a.space ++ (a.name ++ (a.left ++ 61 ∷ (a.right ++ a.quote ∷ (a.value ++ a.quote ∷ [])))))

pub record IsAttribute (a : Attribute) : Type 0 where
  pub first_space : IsTrue (is_space a.first_space)
  pub space : IsTrue (list_all is_space a.space)
  pub name : IsName a.name
  pub left : IsTrue (list_all is_space a.left)
  pub right : IsTrue (list_all is_space a.right)
  pub quote : IsTrue (a.quote == 34 || a.quote == 39)
  pub value : IsTrue (list_all (in_value a.quote) a.value)

-- the text goes up to the first such mark
abbrev pub EndsFirst : List ℕ → List ℕ → Type 0
EndsFirst mark [] = Unit {0}
EndsFirst mark (b ∷ bs) = ((rest : List ℕ) → (b ∷ bs) ++ mark ≡ mark ++ rest → ⊥) × EndsFirst mark bs

-- the character of this number, if XML 1.0 allows it
abbrev pub allowed : ℕ → Option ℕ
allowed c = if is_allowed c then Some c else None

-- a digit, decimal or hexadecimal of either case
abbrev pub is_decimal_digit : ℕ → Bool
is_decimal_digit b = nat_le 48 b && nat_le b 57

abbrev pub is_hexadecimal_digit : ℕ → Bool
is_hexadecimal_digit b = is_decimal_digit b || ((nat_le 97 b && nat_le b 102) || (nat_le 65 b && nat_le b 70))

-- one digit or more, and the number that they write
abbrev pub numeral : (ℕ → Bool) → ℕ → List ℕ → Option ℕ
numeral is_digit radix [] = None
numeral is_digit radix (d ∷ ds) = if list_all is_digit (d ∷ ds) then Some (digits_value radix (d ∷ ds)) else None

-- what a reference stands for, by what stands between & and ; : amp, lt, gt, quot, apos, # and a decimal, or #x and a hexadecimal
-- number of a character that XML 1.0 allows
abbrev pub number_referred : List ℕ → Option ℕ
number_referred [] = None
number_referred (b ∷ bs) = if b == 120 then numeral is_hexadecimal_digit 16 bs else numeral is_decimal_digit 10 (b ∷ bs)

abbrev pub allowed_number : Option ℕ → Option ℕ
allowed_number None = None
allowed_number (Some c) = allowed c

abbrev pub referred_by_number : List ℕ → Option ℕ
referred_by_number [] = None
referred_by_number (b ∷ bs) = if b == 35 then allowed_number (number_referred bs) else None

unfoldable pub referred : List ℕ → Option ℕ
referred text =
    if bytes_eq text (codes "amp") then Some 38
    else (if bytes_eq text (codes "lt") then Some 60
    else (if bytes_eq text (codes "gt") then Some 62
    else (if bytes_eq text (codes "quot") then Some 34
    else (if bytes_eq text (codes "apos") then Some 39
    else referred_by_number text))))

-- no end of a reference in it
abbrev pub before_end : ℕ → Bool
before_end b = not (b == 59)

-- A piece as it is written: a tag with its name, its attributes and the white space behind them; a comment and an instruction with
-- their texts; a reference with what stands between & and ; and the character that it stands for; one byte of text.
pub data Piece : Type 0 where
  start_tag : List ℕ → List Attribute → List ℕ → Piece
  empty_tag : List ℕ → List Attribute → List ℕ → Piece
  end_tag : List ℕ → List ℕ → Piece
  comment : List ℕ → Piece
  instruction : List ℕ → Piece
  reference : List ℕ → ℕ → Piece
  letter : ℕ → Piece

abbrev pub spelled : Piece → List ℕ
spelled (start_tag name attributes space) = codes "<" ++ (name ++ (flat_map spelled_attribute attributes ++ (space ++ codes ">")))
spelled (empty_tag name attributes space) = codes "<" ++ (name ++ (flat_map spelled_attribute attributes ++ (space ++ codes "/>")))
spelled (end_tag name space) = codes "</" ++ (name ++ (space ++ codes ">"))
spelled (comment text) = codes "<!--" ++ (text ++ codes "-->")
spelled (instruction text) = codes "<?" ++ (text ++ codes "?>")
spelled (reference text c) = codes "&" ++ (text ++ codes ";")
spelled (letter b) = b ∷ []

abbrev pub IsTag : List ℕ → List Attribute → List ℕ → Type 0
IsTag name attributes space = IsName name × AllByRecursion IsAttribute attributes × IsTrue (list_all is_space space)

abbrev pub IsPiece : Piece → Type 0
IsPiece (start_tag name attributes space) = IsTag name attributes space
IsPiece (empty_tag name attributes space) = IsTag name attributes space
IsPiece (end_tag name space) = IsName name × IsTrue (list_all is_space space)
IsPiece (comment text) = EndsFirst (codes "-->") text
IsPiece (instruction text) = EndsFirst (codes "?>") text
IsPiece (reference text c) = IsTrue (list_all before_end text) × (referred text ≡ Some c)
IsPiece (letter b) = (b ≡ 60 → ⊥) × (b ≡ 38 → ⊥)
