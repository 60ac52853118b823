-- A set of numbers as a list of flags.
use Rattle.std.specs.Prelude.{◌≡◌, ℕ, ◌+◌, Bool, true, false, List, [], ◌∷◌, replicate, slice_index_or, Option, Some, None, option_map}

-- whether a number is in the set
abbrev pub has : List Bool → ℕ → Bool
has set d = slice_index_or set d false

-- some number is in the set
abbrev pub HasSome : List Bool → Type 0
HasSome set = (d : ℕ) × (has set d ≡ true)

-- the set of no numbers, among 0 to 7
abbrev pub no_drives : List Bool
no_drives = replicate 8 false

-- the least number of the set, or none where it is empty
abbrev pub lowest : List Bool → Option ℕ
lowest [] = None
lowest (true ∷ set) = Some 0
lowest (false ∷ set) = option_map (λ d. d + 1) (lowest set)

-- how many numbers are in the set
abbrev pub count : List Bool → ℕ
count [] = 0
count (true ∷ set) = count set + 1
count (false ∷ set) = count set
