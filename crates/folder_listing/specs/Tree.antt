-- A tree of files as finite maps.
use Rattle.std.specs.Prelude.{◌≡◌, ℕ, true, false, cond, List, map, Some, None, is_some, String, string_bytes, bytes_eq}
use Rattle.std.specs.Option.{option_or}
use Rattle.std.specs.Global.{Global}
use Rattle.std.specs.FinMap.{FinMap, from_entries}
use Rattle.std.specs.BTreeMap.{BTreeMap, get_by_text}
use Rattle.std.specs.Ordering.{nat_cmp}
use Rattle.std.specs.Cmp.Lexicographic.{slice_cmp}
use Rattle.path_text.specs.Path.{is_ancestor}
use Rattle.folder_listing.specs.declared.folder.Seen.{Seen}
use Rattle.folder_listing.specs.Listing.{Contents}

-- files by path, in a tree
abbrev pub Tree : Type 0
Tree = BTreeMap (String Global) Seen

-- what is kept of each file, by its path
abbrev pub kept : {V : Type 0} → (Seen → V) → Tree → FinMap (slice_cmp nat_cmp) V
kept f tree = from_entries (map (λ e. (string_bytes e.0, f e.1)) tree.entries)

-- the sizes and the marks of a tree's files
abbrev pub contents_of : Tree → Contents
contents_of tree = record { sizes = kept (λ f. f.size) tree; marks = kept (λ f. f.marked) tree }

-- a file with no mark
abbrev pub fresh : ℕ → Seen
fresh size = record { size = size; marked = false }

-- a file with no mark is added, unless there is one at its path
abbrev pub Notes : List ℕ → ℕ → Tree → Tree → Type 0
Notes path size old new = (q : List ℕ) → get_by_text new q ≡ option_or (get_by_text old q) (cond (bytes_eq path q) (Some (fresh size)) None)

-- a file of the tree lies above the path
abbrev pub HasAbove : Tree → List ℕ → Type 0
HasAbove tree path = (name : List ℕ) × (is_some (get_by_text tree name) ≡ true) × (is_ancestor name path ≡ true)
