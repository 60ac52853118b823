-- Reads of a file of a drive, each where the one before ended, and where they stop.
use Rattle.std.specs.Prelude.{◌≡◌, ◌⊎◌, ℕ, ◌+◌, ◌≤◌, ◌<◌, List, [], ◌∷◌, length, take, drop, Option, Some, None, unwrap_or}
use Rattle.std.specs.FinMap.{get}
use Rattle.bay_core.specs.declared.event.Event.{Event}
use Rattle.bay_core.specs.declared.event.Event.TheVariants.{DriveRead}
use Rattle.bay_core.specs.Map.{Map}
use Rattle.bay_core.specs.Replay.{Device, Drive, reads}
use Rattle.bay_core.specs.World.{World, Honest}
use Rattle.bay_core.specs.Went.{Went, Only}
use Rattle.bay_core.specs.Looks.{Exactly, read_call, given, Tiles, Stops, Caused}

-- looks on drive d alone, which stopped at a failure of that device; its count rose
pub record Halted (d : ℕ) (at : Option Device) (old new : World) : Type 0 where
  pub went : Went (Only (Drive d)) (Stops at) old new
  pub cause : Caused at old new

-- one read of at most so many bytes
pub record PieceRead (d : ℕ) (path : List ℕ) (at want : ℕ) (got : Option (List ℕ)) (old new : World) : Type 0 where
  pub went : Went (Only (Drive d)) (Exactly (read_call d path at want got ∷ [])) old new
  pub within : length (unwrap_or got []) ≤ want
  pub honest : (m : Map) (L : List Event) → Honest old d m L → (c : List ℕ) → get (reads m L d) path ≡ Some c
      → (unwrap_or got [] ≡ take (length (unwrap_or got [])) (drop at c)) × (unwrap_or got [] ≡ [] → (want ≡ 0) ⊎ (length c ≤ at))
  pub absent : (m : Map) (L : List Event) → Honest old d m L → got ≡ None → get (reads m L d) path ≡ None
  pub there : (m : Map) (L : List Event) → Honest old d m L → (bytes : List ℕ) → got ≡ Some bytes → (c : List ℕ) × (get (reads m L d) path ≡ Some c)

-- the place at which the bytes that a read asked for end
abbrev pub asked_end : Event → ℕ
asked_end (DriveRead d path at want got) = at + want
asked_end _ = 0

-- no read asked for a byte past this place
unfoldable pub AskedUpTo : ℕ → List Event → Type 0
AskedUpTo limit [] = Unit {0}
AskedUpTo limit (e ∷ calls) = (asked_end e ≤ limit) × AskedUpTo limit calls

-- the reads of one file from its start, and the bytes that they gave
pub record SoFar (d : ℕ) (path : List ℕ) (limit : ℕ) (bytes : List ℕ) (old new : World) : Type 0 where
  pub calls : List Event
  pub went : Went (Only (Drive d)) (Exactly calls) old new
  pub tiles : Tiles d path 0 calls
  pub asked : AskedUpTo limit calls
  pub gave : given calls ≡ bytes
  pub honest : (m : Map) (L : List Event) → Honest new d m L → (c : List ℕ) → get (reads m L d) path ≡ Some c → bytes ≡ take (length bytes) c
  pub there : (m : Map) (L : List Event) → Honest new d m L → 0 < length bytes → (c : List ℕ) × (get (reads m L d) path ≡ Some c)
