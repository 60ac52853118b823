-- The refusal table: what is open before a tag or a text, and which of them is a fault there (docs/FORMATS.md, "Reading a list").
use Rattle.std.specs.Prelude.{ℕ, ◌+◌, Bool, false, List, [], ◌∷◌, ◌++◌, length, Option, Some, None, Result, Ok, Err, nat_le, nat_lt, is_some, if◌then◌else◌}
use Rattle.markup.specs.Mark.{Named, Mark, start, stop, aside, text, Placed}
use Rattle.mhl_writer.specs.declared.values.HashEntry.{HashEntry}
use Rattle.mhl_reader.specs.declared.error.ReadError.{ReadError}
use Rattle.mhl_reader.specs.declared.error.ReadError.TheVariants.{Malformed, Version, NoFile, Twice, BadPath, BadSize, BadDigest, TooMany}
use Rattle.mhl_reader.specs.declared.found.HashLeaf.{HashLeaf}
use Rattle.mhl_reader.specs.declared.found.HashLeaf.TheVariants.{File, Size}
use Rattle.mhl_reader.specs.declared.found.HashLeaves.{HashLeaves}
use Rattle.mhl_reader.specs.declared.found.CreatorLeaf.{CreatorLeaf}
use Rattle.mhl_reader.specs.declared.found.CreatorLeaves.{CreatorLeaves}
use Rattle.mhl_reader.specs.Leaves.{is_named, the_list, the_hash, the_creator, hash_leaf_name, creator_leaf_name, hash_leaf, has_leaf, path_of, with_leaf, no_leaves, entry_of, new_creator_leaf, with_creator_leaf, no_creator_leaves}
use Rattle.mhl_reader.specs.Grammar.{is_blank, Found, nothing_found, with_creator, with_entry, ListElement, a_hash, first_creator, another, list_element, most_entries, has_version}

-- The elements that are open, but for skipped ones, and what was read of them. A hash and its leaf have their places.
pub data Base : Type 0 where
  before : Base
  in_list : Base
  in_hash : ℕ → HashLeaves → Base
  in_hash_leaf : ℕ → HashLeaves → HashLeaf → ℕ → List ℕ → Base
  in_creator : CreatorLeaves → Base
  in_creator_leaf : CreatorLeaves → CreatorLeaf → List ℕ → Base
  after : Base

-- what is open, what was read of the list, and the names of the skipped elements that are open, the innermost first
pub record State : Type 0 where
  pub base : Base
  pub found : Found
  pub skipped : List (List ℕ)

abbrev pub depth : Base → ℕ
depth before = 0
depth in_list = 1
depth (in_hash place h) = 2
depth (in_hash_leaf hash h leaf place t) = 3
depth (in_creator c) = 2
depth (in_creator_leaf c leaf t) = 3
depth after = 0

infixl 10 ◌>>=◌
abbrev pub ◌>>=◌ : {A B : Type 0} → Result A ReadError → (A → Result B ReadError) → Result B ReadError
(Ok x) >>= f = f x
(Err e) >>= f = Err e

-- the state with this base open, and with these skipped elements
abbrev pub at_base : Base → Found → Result State ReadError
at_base base found = Ok (record { base = base; found = found; skipped = [] })

abbrev pub skipping : State → List (List ℕ) → State
skipping s names = record { base = s.base; found = s.found; skipped = names }

-- s, or the fault
abbrev pub provided : Bool → ReadError → Result State ReadError → Result State ReadError
provided b fault s = if b then s else Err fault

-- ---- a start tag

abbrev pub entered_list : ListElement → State → ℕ → List ℕ → Result State ReadError
entered_list a_hash s place name = provided (nat_lt (length s.found.entries) most_entries) (TooMany place) (at_base (in_hash place no_leaves) s.found)
entered_list first_creator s place name = at_base (in_creator no_creator_leaves) s.found
entered_list another s place name = Ok (skipping s (name ∷ []))

abbrev pub entered_hash : Option HashLeaf → State → ℕ → HashLeaves → ℕ → List ℕ → Result State ReadError
entered_hash (Some leaf) s hash h place name = if has_leaf leaf h then Err (Malformed place) else at_base (in_hash_leaf hash h leaf place []) s.found
entered_hash None s hash h place name = Ok (skipping s (name ∷ []))

abbrev pub entered_creator : Option CreatorLeaf → State → CreatorLeaves → List ℕ → Result State ReadError
entered_creator (Some leaf) s c name = at_base (in_creator_leaf c leaf []) s.found
entered_creator None s c name = Ok (skipping s (name ∷ []))

abbrev pub entered : Base → State → ℕ → List ℕ → List Named → Result State ReadError
entered before s place name attributes = provided (is_named the_list name) (Malformed place) (provided (has_version attributes) Version (at_base in_list s.found))
entered in_list s place name attributes = entered_list (list_element s.found name) s place name
entered (in_hash hash h) s place name attributes = entered_hash (hash_leaf name) s hash h place name
entered (in_hash_leaf hash h leaf at t) s place name attributes = Err (Malformed place)
entered (in_creator c) s place name attributes = entered_creator (new_creator_leaf c name) s c name
entered (in_creator_leaf c leaf t) s place name attributes = Err (Malformed place)
entered after s place name attributes = Err (Malformed place)

-- ---- an end tag

-- what is wrong with the text of a leaf
abbrev pub leaf_fault : HashLeaf → ℕ → List ℕ → ReadError
leaf_fault File place t = if is_some (path_of t) then Twice place else BadPath place
leaf_fault Size place t = BadSize place
leaf_fault _ place t = BadDigest place

abbrev pub left_hash_leaf : Option HashLeaves → State → ℕ → HashLeaf → ℕ → List ℕ → Result State ReadError
left_hash_leaf (Some next) s hash leaf at t = at_base (in_hash hash next) s.found
left_hash_leaf None s hash leaf at t = Err (leaf_fault leaf at t)

abbrev pub left_hash : Option HashEntry → State → ℕ → Result State ReadError
left_hash (Some e) s hash = at_base in_list (with_entry e s.found)
left_hash None s hash = Err (NoFile hash)

-- an end tag of this name ends what is open
abbrev pub ends : Base → List ℕ → Bool
ends before name = false
ends in_list name = is_named the_list name
ends (in_hash hash h) name = is_named the_hash name
ends (in_hash_leaf hash h leaf at t) name = is_named (hash_leaf_name leaf) name
ends (in_creator c) name = is_named the_creator name
ends (in_creator_leaf c leaf t) name = is_named (creator_leaf_name leaf) name
ends after name = false

-- what is open ends
abbrev pub closed : Base → State → Result State ReadError
closed before s = Ok s
closed in_list s = at_base after s.found
closed (in_hash hash h) s = left_hash (entry_of h) s hash
closed (in_hash_leaf hash h leaf at t) s = left_hash_leaf (with_leaf s.found.entries leaf t h) s hash leaf at t
closed (in_creator c) s = at_base in_list (with_creator c s.found)
closed (in_creator_leaf c leaf t) s = at_base (in_creator (with_creator_leaf leaf t c)) s.found
closed after s = Ok s

abbrev pub left : Base → State → ℕ → List ℕ → Result State ReadError
left base s place name = provided (ends base name) (Malformed place) (closed base s)

-- ---- text, and a comment or an instruction

-- only filler may stand here
abbrev pub filled : State → ℕ → Bool → List ℕ → Result State ReadError
filled s place raw bytes = provided (is_blank raw bytes) (Malformed place) (Ok s)

abbrev pub read : Base → State → ℕ → Bool → List ℕ → Result State ReadError
read (in_hash_leaf hash h leaf at t) s place raw bytes = at_base (in_hash_leaf hash h leaf at (t ++ bytes)) s.found
read (in_creator_leaf c leaf t) s place raw bytes = at_base (in_creator_leaf c leaf (t ++ bytes)) s.found
read before s place raw bytes = filled s place raw bytes
read in_list s place raw bytes = filled s place raw bytes
read (in_hash hash h) s place raw bytes = filled s place raw bytes
read (in_creator c) s place raw bytes = filled s place raw bytes
read after s place raw bytes = filled s place raw bytes

abbrev pub passed : Base → State → ℕ → Result State ReadError
passed (in_hash_leaf hash h leaf at t) s place = Err (Malformed place)
passed (in_creator_leaf c leaf t) s place = Err (Malformed place)
passed before s place = Ok s
passed in_list s place = Ok s
passed (in_hash hash h) s place = Ok s
passed (in_creator c) s place = Ok s
passed after s place = Ok s

-- ---- what is open behind a mark, or its fault

abbrev pub step_skipping : List (List ℕ) → State → ℕ → Mark → Result State ReadError
step_skipping [] s place (start name attributes) = entered s.base s place name attributes
step_skipping (n ∷ names) s place (start name attributes) = provided (nat_le (depth s.base + length (n ∷ names) + 1) 32) (Malformed place) (Ok (skipping s (name ∷ n ∷ names)))
step_skipping [] s place (stop name) = left s.base s place name
step_skipping (n ∷ names) s place (stop name) = provided (is_named n name) (Malformed place) (Ok (skipping s names))
step_skipping [] s place (text raw bytes) = read s.base s place raw bytes
step_skipping (n ∷ names) s place (text raw bytes) = Ok s
step_skipping [] s place aside = passed s.base s place
step_skipping (n ∷ names) s place aside = Ok s

abbrev pub step : State → Placed → Result State ReadError
step s m = step_skipping s.skipped s m.place m.mark

unfoldable pub steps : State → List Placed → Result State ReadError
steps s [] = Ok s
steps s (m ∷ ms) = step s m >>= λ next. steps next ms

-- the end of the input, which has this length
abbrev pub ended_base : Base → Found → ℕ → Result Found ReadError
ended_base after found len = Ok found
ended_base before found len = Err (Malformed len)
ended_base in_list found len = Err (Malformed len)
ended_base (in_hash place h) found len = Err (Malformed len)
ended_base (in_hash_leaf hash h leaf at t) found len = Err (Malformed len)
ended_base (in_creator c) found len = Err (Malformed len)
ended_base (in_creator_leaf c leaf t) found len = Err (Malformed len)

abbrev pub ended_skipping : List (List ℕ) → State → ℕ → Result Found ReadError
ended_skipping [] s len = ended_base s.base s.found len
ended_skipping (n ∷ names) s len = Err (Malformed len)

abbrev pub ended : State → ℕ → Result Found ReadError
ended s len = ended_skipping s.skipped s len

abbrev pub nothing_open : State
nothing_open = record { base = before; found = nothing_found; skipped = [] }
