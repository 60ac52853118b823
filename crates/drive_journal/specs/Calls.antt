-- The calls of each step that changes a drive, in their order.
use Rattle.std.specs.Prelude.{ℕ, ◌+◌, Bool, cond, List, [], ◌∷◌, ◌++◌, map, Option, Some, None}
use Rattle.bay_core.specs.declared.event.Event.{Event}
use Rattle.bay_core.specs.Paths.{journal_path, new_path, part_path}
use Rattle.bay_core.specs.Went.{write_call, sync_call, rename_call, remove_call}

-- a file is written whole before it gets its name
abbrev pub publish_calls : ℕ → List ℕ → List ℕ → List (Bool → Event)
publish_calls d to bytes = write_call d new_path 0 bytes ∷ sync_call d ∷ rename_call d new_path to ∷ sync_call d ∷ []

-- the part gets its path, and a piece is written right behind the gate
abbrev pub place_calls : ℕ → ℕ → List ℕ → List ℕ → List (Bool → Event)
place_calls d gate path piece = rename_call d part_path path ∷ write_call d journal_path (gate + 1) piece ∷ sync_call d ∷ []

-- the gate's byte becomes 1
abbrev pub open_calls : ℕ → ℕ → List (Bool → Event)
open_calls d gate = write_call d journal_path gate (1 ∷ []) ∷ sync_call d ∷ []

-- a path that may be given
abbrev pub given : Option (List ℕ) → List (List ℕ)
given None = []
given (Some path) = path ∷ []

-- the part, unless it is kept
abbrev pub unless_kept : Bool → List (List ℕ)
unless_kept keep_part = cond keep_part [] (part_path ∷ [])

-- the paths that a tidy removes, in their order
abbrev pub tidied : Option (List ℕ) → Bool → List (List ℕ)
tidied also keep_part = new_path ∷ (unless_kept keep_part ++ given also)

-- each of these paths is removed
abbrev pub removals : ℕ → List (List ℕ) → List (Bool → Event)
removals d paths = map (λ path. remove_call d path) paths

-- the scratch files are removed, and one more
abbrev pub tidy_calls : ℕ → Option (List ℕ) → Bool → List (Bool → Event)
tidy_calls d also keep_part = removals d (tidied also keep_part)
