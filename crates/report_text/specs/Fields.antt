-- The fields of a line: docs/FORMATS.md, "Lines".
use Rattle.std.specs.Prelude.{ℕ, ◌++◌, List, [], ◌∷◌, codes, decimal}
use Rattle.hex.specs.Hex.{encode_lower}
use Rattle.digest_set.specs.declared.triple.Triple.{Triple}
use Rattle.path_text.specs.declared.path.PathError.{PathError}
use Rattle.path_text.specs.declared.path.PathError.TheVariants.{Empty, TooLong, Absolute, BadChar, EmptyPart, DotPart, Memory}

-- the fields of a line, with one space (32) between each two
abbrev pub fields : List ℕ → List (List ℕ) → List ℕ
fields first [] = first
fields first (field ∷ more) = fields (first ++ 32 ∷ field) more

-- three digests, in lower case digits
abbrev pub triple_fields : Triple → List (List ℕ)
triple_fields t = encode_lower t.md5 ∷ encode_lower t.sha1 ∷ encode_lower t.xxh ∷ []

-- why a text is no path; want of memory says nothing of a text
abbrev pub cause_fields : PathError → List (List ℕ)
cause_fields Empty = codes "empty" ∷ []
cause_fields (TooLong len) = codes "toolong" ∷ decimal len ∷ []
cause_fields Absolute = codes "absolute" ∷ []
cause_fields (BadChar at) = codes "badchar" ∷ decimal at ∷ []
cause_fields (EmptyPart at) = codes "emptypart" ∷ decimal at ∷ []
cause_fields (DotPart at) = codes "dotpart" ∷ decimal at ∷ []
cause_fields Memory = []

-- it is a cause that a text has
abbrev pub IsCause : PathError → Type 0
IsCause Memory = ⊥
IsCause _ = Unit {0}
