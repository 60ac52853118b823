-- What a change may leave of a map, whether it was finished, stopped within, or answered Failed.
use Rattle.std.specs.Prelude.{◌≡◌, ◌⊎◌, ℕ, ◌+◌, ◌<◌, ◌≤◌, max, List, length, slice_index}
use Rattle.std.specs.FinMap.{insert, remove}
use Rattle.bay_core.specs.declared.event.Event.{Event}
use Rattle.bay_core.specs.declared.event.Event.TheVariants.{Write, Rename, Remove}
use Rattle.bay_core.specs.Map.{Map, content, moved, copied}

-- A file that a write of n bytes at this place may have left: no shorter than before, no longer than the write makes it, and the same
-- outside the range. All other bytes are any.
pub record TornFile (at n : ℕ) (old new : List ℕ) : Type 0 where
  pub no_shorter : length old ≤ length new
  pub no_longer : length new ≤ max (length old) (at + n)
  pub outside : (k : ℕ) → k < length old → (k < at) ⊎ (at + n ≤ k) → slice_index new k ≡ slice_index old k

-- The change may turn the map I into J. A write: I, or another content at its path. A rename: I, the file under its new name, or under
-- both names. A removal: I, or I without the path. No other call changes a map.
abbrev pub Torn : Event → Map → Map → Type 0
Torn (Write d path at bytes ok) I J = (J ≡ I) ⊎ ((c : List ℕ) × TornFile at (length bytes) (content I path) c × (J ≡ insert I path c))
Torn (Rename d from to ok) I J = (J ≡ I) ⊎ (J ≡ moved I from to) ⊎ (J ≡ copied I from to)
Torn (Remove d path ok) I J = (J ≡ I) ⊎ (J ≡ remove I path)
Torn _ I J = J ≡ I
