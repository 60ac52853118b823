-- The elements of a list that are read, and what their texts say: docs/FORMATS.md, "Reading a list".
use Rattle.std.specs.Prelude.{ℕ, ◌^◌, Bool, List, [], ◌∷◌, reverse, Option, Some, None, is_some, codes, nat_lt, if◌then◌else◌}
use Rattle.std.specs.List.{list_any}
use Rattle.std.specs.Result.{result_ok}
use Rattle.std.specs.Str.{bytes_eq}
use Rattle.hex.specs.Hex.{decode_sized}
use Rattle.path_text.specs.Path.{is_path}
use Rattle.path_text.specs.Moment.{moment_of}
use Rattle.markup.specs.Piece.{is_space, is_decimal_digit, numeral}
use Rattle.markup.specs.Taking.{back}
use Rattle.mhl_writer.specs.Note.{is_note}
use Rattle.mhl_writer.specs.ListText.{paths_of}
use Rattle.mhl_writer.specs.declared.values.HashEntry.{HashEntry}
use Rattle.mhl_writer.specs.declared.values.Creator.{Creator}
use Rattle.mhl_reader.specs.declared.found.HashLeaf.{HashLeaf}
use Rattle.mhl_reader.specs.declared.found.HashLeaf.TheVariants.{File, Size, Modified, Hashed, Md5, Sha1, Xxh}
use Rattle.mhl_reader.specs.declared.found.HashLeaves.{HashLeaves}
use Rattle.mhl_reader.specs.declared.found.CreatorLeaf.{CreatorLeaf}
use Rattle.mhl_reader.specs.declared.found.CreatorLeaf.TheVariants.{Name, Username, Hostname, Tool, Started, Finished}
use Rattle.mhl_reader.specs.declared.found.CreatorLeaves.{CreatorLeaves}

-- ---- names

abbrev pub is_named : List ℕ → List ℕ → Bool
is_named word name = bytes_eq name word

abbrev pub the_list : List ℕ
the_list = codes "hashlist"

abbrev pub the_hash : List ℕ
the_hash = codes "hash"

abbrev pub the_creator : List ℕ
the_creator = codes "creatorinfo"

abbrev pub hash_leaf_name : HashLeaf → List ℕ
hash_leaf_name File = codes "file"
hash_leaf_name Size = codes "size"
hash_leaf_name Modified = codes "lastmodificationdate"
hash_leaf_name Hashed = codes "hashdate"
hash_leaf_name Md5 = codes "md5"
hash_leaf_name Sha1 = codes "sha1"
hash_leaf_name Xxh = codes "xxhash64be"

abbrev pub creator_leaf_name : CreatorLeaf → List ℕ
creator_leaf_name Name = codes "name"
creator_leaf_name Username = codes "username"
creator_leaf_name Hostname = codes "hostname"
creator_leaf_name Tool = codes "tool"
creator_leaf_name Started = codes "startdate"
creator_leaf_name Finished = codes "finishdate"

-- the first of these leaves that has the name
abbrev pub leaf_named : {L : Type 0} → (L → List ℕ) → List L → List ℕ → Option L
leaf_named name_of [] name = None
leaf_named name_of (leaf ∷ leaves) name = if is_named (name_of leaf) name then Some leaf else leaf_named name_of leaves name

abbrev pub hash_leaves : List HashLeaf
hash_leaves = File ∷ Size ∷ Modified ∷ Hashed ∷ Md5 ∷ Sha1 ∷ Xxh ∷ []

abbrev pub creator_leaves : List CreatorLeaf
creator_leaves = Name ∷ Username ∷ Hostname ∷ Tool ∷ Started ∷ Finished ∷ []

unfoldable pub hash_leaf : List ℕ → Option HashLeaf
hash_leaf name = leaf_named hash_leaf_name hash_leaves name

unfoldable pub creator_leaf : List ℕ → Option CreatorLeaf
creator_leaf name = leaf_named creator_leaf_name creator_leaves name

-- ---- texts

-- without the white space at both ends
unfoldable pub trimmed : List ℕ → List ℕ
trimmed text = reverse (back is_space (reverse (back is_space text)))

-- a number below the bound
abbrev pub below : ℕ → Option ℕ → Option ℕ
below bound None = None
below bound (Some n) = if nat_lt n bound then Some n else None

-- decimal digits of a number of 64 bits
unfoldable pub size_of : List ℕ → Option ℕ
size_of text = below (2 ^ 64) (numeral is_decimal_digit 10 (trimmed text))

-- the n bytes that two hexadecimal digits each write
unfoldable pub digest_of : ℕ → List ℕ → Option (List ℕ)
digest_of n text = result_ok (decode_sized (trimmed text) n)

-- the moment that a date tells, if it tells one
unfoldable pub date_of : List ℕ → Option ℕ
date_of text = moment_of (trimmed text)

-- a text of the creator that is kept
unfoldable pub note_of : List ℕ → Option (List ℕ)
note_of text = if is_note (trimmed text) then Some (trimmed text) else None

-- a valid path, as it stands
unfoldable pub path_of : List ℕ → Option (List ℕ)
path_of text = if is_path text then Some text else None

-- ---- the leaves of a hash

abbrev pub no_leaves : HashLeaves
no_leaves = record { file = None; size = None; modified = None; hashed = None; md5 = None; sha1 = None; xxh = None }

-- such a leaf was met
abbrev pub has_leaf : HashLeaf → HashLeaves → Bool
has_leaf File h = is_some h.file
has_leaf Size h = is_some h.size
has_leaf Modified h = is_some h.modified
has_leaf Hashed h = is_some h.hashed
has_leaf Md5 h = is_some h.md5
has_leaf Sha1 h = is_some h.sha1
has_leaf Xxh h = is_some h.xxh

-- an earlier entry has this path
abbrev pub is_taken : List HashEntry → List ℕ → Bool
is_taken earlier path = list_any (bytes_eq path) (paths_of earlier)

-- a path that no earlier entry has
abbrev pub unless_taken : List HashEntry → Option (List ℕ) → Option (List ℕ)
unless_taken earlier None = None
unless_taken earlier (Some path) = if is_taken earlier path then None else Some path

-- a value is needed
abbrev pub with_value : {A B : Type 0} → Option A → (A → B) → Option B
with_value None f = None
with_value (Some x) f = Some (f x)

-- with a leaf of this text more, unless the text breaks the rule of its leaf
abbrev pub with_leaf : List HashEntry → HashLeaf → List ℕ → HashLeaves → Option HashLeaves
with_leaf earlier File text h = with_value (unless_taken earlier (path_of text)) (λ path. record h { file = Some path })
with_leaf earlier Size text h = with_value (size_of text) (λ size. record h { size = Some size })
with_leaf earlier Modified text h = Some (record h { modified = Some (date_of text) })
with_leaf earlier Hashed text h = Some (record h { hashed = Some (date_of text) })
with_leaf earlier Md5 text h = with_value (digest_of 16 text) (λ digest. record h { md5 = Some digest })
with_leaf earlier Sha1 text h = with_value (digest_of 20 text) (λ digest. record h { sha1 = Some digest })
with_leaf earlier Xxh text h = with_value (digest_of 8 text) (λ digest. record h { xxh = Some digest })

-- what is kept of a leaf, if it was met
abbrev pub kept : {A : Type 0} → Option (Option A) → Option A
kept None = None
kept (Some value) = value

-- the entry, where there is a file
abbrev pub entry_of : HashLeaves → Option HashEntry
entry_of h = with_value h.file (λ path. record { path = path; size = h.size; modified = kept h.modified; hashed = kept h.hashed; md5 = h.md5; sha1 = h.sha1; xxh = h.xxh })

-- ---- the leaves of a creator

abbrev pub no_creator_leaves : CreatorLeaves
no_creator_leaves = record { name = None; username = None; hostname = None; tool = None; started = None; finished = None }

abbrev pub has_creator_leaf : CreatorLeaf → CreatorLeaves → Bool
has_creator_leaf Name c = is_some c.name
has_creator_leaf Username c = is_some c.username
has_creator_leaf Hostname c = is_some c.hostname
has_creator_leaf Tool c = is_some c.tool
has_creator_leaf Started c = is_some c.started
has_creator_leaf Finished c = is_some c.finished

-- the leaf of this name that was not met yet
abbrev pub unless_met : CreatorLeaves → Option CreatorLeaf → Option CreatorLeaf
unless_met c None = None
unless_met c (Some leaf) = if has_creator_leaf leaf c then None else Some leaf

unfoldable pub new_creator_leaf : CreatorLeaves → List ℕ → Option CreatorLeaf
new_creator_leaf c name = unless_met c (creator_leaf name)

abbrev pub with_creator_leaf : CreatorLeaf → List ℕ → CreatorLeaves → CreatorLeaves
with_creator_leaf Name text c = record c { name = Some (note_of text) }
with_creator_leaf Username text c = record c { username = Some (note_of text) }
with_creator_leaf Hostname text c = record c { hostname = Some (note_of text) }
with_creator_leaf Tool text c = record c { tool = Some (note_of text) }
with_creator_leaf Started text c = record c { started = Some (date_of text) }
with_creator_leaf Finished text c = record c { finished = Some (date_of text) }

-- the creator of a list, in which none may be met
abbrev pub creator_of : Option CreatorLeaves → Creator
creator_of None = record { name = None; username = None; hostname = None; tool = None; started = None; finished = None }
creator_of (Some c) = record { name = kept c.name; username = kept c.username; hostname = kept c.hostname; tool = kept c.tool; started = kept c.started; finished = kept c.finished }
