-- The paths on a drive that are the station's own: docs/FORMATS.md, "The control folder".
use Rattle.std.specs.Prelude.{◌≡◌, ◌⊎◌, ℕ, List, codes}

-- the journal of a drive
abbrev pub journal_path : List ℕ
journal_path = codes ".mhlstation/journal"

-- the file that is written whole before it gets its name
abbrev pub new_path : List ℕ
new_path = codes ".mhlstation/new"

-- the copy of the file that is being copied
abbrev pub part_path : List ℕ
part_path = codes ".mhlstation/part"

-- a path whose file counts for nothing
abbrev pub IsScratch : List ℕ → Type 0
IsScratch q = (q ≡ new_path) ⊎ (q ≡ part_path)
