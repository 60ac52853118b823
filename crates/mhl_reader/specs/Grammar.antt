-- The grammar of a list and its meaning, by cases on its elements and texts: docs/FORMATS.md, "Reading a list".
use Rattle.std.specs.Prelude.{◌≡◌, ◌⊎◌, ℕ, ◌+◌, ◌≤◌, ◌<◌, Bool, false, ◌&&◌, List, [], ◌∷◌, ◌++◌, length, Option, Some, None, is_none, codes, IsTrue, nat_eq, if◌then◌else◌}
use Rattle.std.specs.List.{list_all, starts_with}
use Rattle.markup.specs.Piece.{is_space}
use Rattle.markup.specs.Mark.{Named, first_value, start, stop, aside, text, Placed}
use Rattle.mhl_writer.specs.ListText.{Values}
use Rattle.mhl_writer.specs.declared.values.HashEntry.{HashEntry}
use Rattle.mhl_reader.specs.declared.found.HashLeaf.{HashLeaf}
use Rattle.mhl_reader.specs.declared.found.HashLeaves.{HashLeaves}
use Rattle.mhl_reader.specs.declared.found.CreatorLeaf.{CreatorLeaf}
use Rattle.mhl_reader.specs.declared.found.CreatorLeaves.{CreatorLeaves}
use Rattle.mhl_reader.specs.Leaves.{is_named, the_list, the_hash, the_creator, hash_leaf, has_leaf, with_leaf, no_leaves, entry_of, new_creator_leaf, with_creator_leaf, no_creator_leaves, creator_of}

-- Content in a row: bytes of text, comments and instructions, and elements, each with the place of its first byte. An element has its
-- name, its attributes, its content, the place of its end, and what follows it.
pub data Content : Type 0 where
  nothing : Content
  a_text : ℕ → Bool → List ℕ → Content → Content
  an_aside : ℕ → Content → Content
  element : ℕ → List ℕ → List Named → Content → ℕ → Content → Content

-- the tags and texts of content
abbrev pub marks : Content → List Placed
marks nothing = []
marks (a_text place raw bytes after) = record { place = place; mark = text raw bytes } ∷ marks after
marks (an_aside place after) = record { place = place; mark = aside } ∷ marks after
marks (element place name attributes inside end after) =
    record { place = place; mark = start name attributes } ∷ (marks inside ++ record { place = end; mark = stop name } ∷ marks after)

-- white space that stands for itself
abbrev pub is_blank : Bool → List ℕ → Bool
is_blank raw bytes = raw && list_all is_space bytes

-- white space, comments and instructions
abbrev pub Filler : Content → Type 0
Filler nothing = Unit {0}
Filler (a_text place raw bytes after) = IsTrue (is_blank raw bytes) × Filler after
Filler (an_aside place after) = Filler after
Filler (element place name attributes inside end after) = ⊥

-- a skipped element holds anything, down to depth 32; its elements are at this depth
abbrev pub Skipped : ℕ → Content → Type 0
Skipped depth nothing = Unit {0}
Skipped depth (a_text place raw bytes after) = Skipped depth after
Skipped depth (an_aside place after) = Skipped depth after
Skipped depth (element place name attributes inside end after) = (depth ≤ 32) × Skipped (depth + 1) inside × Skipped depth after

-- a leaf holds a text: its characters with references replaced, behind those that were read before
abbrev pub Leaf : List ℕ → Content → List ℕ → Type 0
Leaf before nothing t = before ≡ t
Leaf before (a_text place raw bytes after) t = Leaf (before ++ bytes) after t
Leaf before (an_aside place after) t = ⊥
Leaf before (element place name attributes inside end after) t = ⊥

-- A hash holds filler and elements, its leaves each once at most, and each of its rule; other elements are skipped. What was read of it
-- before the content, and behind it; the entries are those before the hash.
abbrev pub HashContent : List HashEntry → HashLeaves → Content → HashLeaves → Type 0
HashContent earlier h nothing out = h ≡ out
HashContent earlier h (a_text place raw bytes after) out = IsTrue (is_blank raw bytes) × HashContent earlier h after out
HashContent earlier h (an_aside place after) out = HashContent earlier h after out
HashContent earlier h (element place name attributes inside end after) out =
    ((leaf : HashLeaf) × (t : List ℕ) × (next : HashLeaves) × (hash_leaf name ≡ Some leaf) × (has_leaf leaf h ≡ false) × Leaf [] inside t × (with_leaf earlier leaf t h ≡ Some next) × HashContent earlier next after out)
    ⊎ ((hash_leaf name ≡ None) × Skipped 4 inside × HashContent earlier h after out)

-- A creatorinfo holds filler and elements, of each leaf the first; other elements are skipped.
abbrev pub CreatorContent : CreatorLeaves → Content → CreatorLeaves → Type 0
CreatorContent c nothing out = c ≡ out
CreatorContent c (a_text place raw bytes after) out = IsTrue (is_blank raw bytes) × CreatorContent c after out
CreatorContent c (an_aside place after) out = CreatorContent c after out
CreatorContent c (element place name attributes inside end after) out =
    ((leaf : CreatorLeaf) × (t : List ℕ) × (new_creator_leaf c name ≡ Some leaf) × Leaf [] inside t × CreatorContent (with_creator_leaf leaf t c) after out)
    ⊎ ((new_creator_leaf c name ≡ None) × Skipped 4 inside × CreatorContent c after out)

-- what was read of a list
pub record Found : Type 0 where
  pub creator : Option CreatorLeaves
  pub entries : List HashEntry

abbrev pub nothing_found : Found
nothing_found = record { creator = None; entries = [] }

abbrev pub with_creator : CreatorLeaves → Found → Found
with_creator c found = record { creator = Some c; entries = found.entries }

abbrev pub with_entry : HashEntry → Found → Found
with_entry e found = record { creator = found.creator; entries = found.entries ++ e ∷ [] }

-- an element of a list: a hash, the first creatorinfo, or another one, which is skipped
pub data ListElement : Type 0 where
  a_hash : ListElement
  first_creator : ListElement
  another : ListElement

abbrev pub list_element : Found → List ℕ → ListElement
list_element found name = if is_named the_hash name then a_hash else (if is_named the_creator name && is_none found.creator then first_creator else another)

-- the most entries that a list has
abbrev pub most_entries : ℕ
most_entries = 262144

-- A hashlist holds filler and elements: hashes, each with a file, and no more of them than a list has.
abbrev pub ListContent : Found → Content → Found → Type 0
ListContent found nothing out = found ≡ out
ListContent found (a_text place raw bytes after) out = IsTrue (is_blank raw bytes) × ListContent found after out
ListContent found (an_aside place after) out = ListContent found after out
ListContent found (element place name attributes inside end after) out =
    ((h : HashLeaves) × (e : HashEntry) × (list_element found name ≡ a_hash) × (length found.entries < most_entries) × HashContent found.entries no_leaves inside h × (entry_of h ≡ Some e) × ListContent (with_entry e found) after out)
    ⊎ ((c : CreatorLeaves) × (list_element found name ≡ first_creator) × CreatorContent no_creator_leaves inside c × ListContent (with_creator c found) after out)
    ⊎ ((list_element found name ≡ another) × Skipped 3 inside × ListContent found after out)

-- the first version begins with 1.
abbrev pub is_first_version : Option (List ℕ) → Bool
is_first_version None = false
is_first_version (Some version) = starts_with nat_eq version (codes "1.")

abbrev pub has_version : List Named → Bool
has_version attributes = is_first_version (first_value (codes "version") attributes)

-- a document is one hashlist, with filler before it and behind it
abbrev pub Document : Content → Found → Type 0
Document nothing out = ⊥
Document (a_text place raw bytes after) out = IsTrue (is_blank raw bytes) × Document after out
Document (an_aside place after) out = Document after out
Document (element place name attributes inside end after) out =
    IsTrue (is_named the_list name) × IsTrue (has_version attributes) × ListContent nothing_found inside out × Filler after

-- the list that was read
abbrev pub values_found : Found → Values
values_found found = record { creator = creator_of found.creator; entries = found.entries }
