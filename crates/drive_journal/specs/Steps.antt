-- What each step that changes a drive may leave on the way, and what is read after it.
use Rattle.std.specs.Prelude.{◌≡◌, ◌≢◌, ◌⊎◌, ℕ, Bool, true, List, ◌∷◌, ◌++◌, length, drop, Some, None, is_some}
use Rattle.std.specs.List.{Contains}
use Rattle.std.specs.FinMap.{get}
use Rattle.bay_core.specs.declared.event.Event.{Event}
use Rattle.bay_core.specs.Map.{Map}
use Rattle.bay_core.specs.Paths.{journal_path, new_path, part_path}
use Rattle.bay_core.specs.Replay.{reads}
use Rattle.bay_core.specs.World.{World, Honest}
use Rattle.drive_journal.specs.declared.record.Rec.{Rec}
use Rattle.drive_journal.specs.Record.{record_code}

-- no file waits for its name
abbrev pub NoScratch : Map → Type 0
NoScratch m = get m new_path ≡ None

-- the copy of a file is there
abbrev pub HasPart : Map → Type 0
HasPart m = is_some (get m part_path) ≡ true

-- what stands at a path is what stood there, or exactly these bytes; nothing else differs but the file that waits for its name
pub record IsWhole (to bytes : List ℕ) (before now : Map) : Type 0 where
  pub at : (get now to ≡ get before to) ⊎ (get now to ≡ Some bytes)
  pub others : (q : List ℕ) → q ≢ new_path → q ≢ to → get now q ≡ get before q

-- these bytes stand at the path, and no file waits for its name
pub record IsThere (to bytes : List ℕ) (before now : Map) : Type 0 where
  pub file : get now to ≡ Some bytes
  pub no_scratch : get now new_path ≡ None
  pub others : (q : List ℕ) → q ≢ new_path → q ≢ to → get now q ≡ get before q

-- what differs is the part, this path and the journal's bytes behind its byte at the gate
pub record IsPlacing (gate : ℕ) (path : List ℕ) (before now : Map) : Type 0 where
  pub journal : (front : List ℕ) (b : ℕ) (rest : List ℕ) → get before journal_path ≡ Some (front ++ b ∷ rest) → length front ≡ gate
      → (after : List ℕ) × (get now journal_path ≡ Some (front ++ b ∷ after))
  pub others : (q : List ℕ) → q ≢ part_path → q ≢ path → q ≢ journal_path → get now q ≡ get before q

-- the path holds what the part held, the part is absent, and the record and a closed gate stand right behind the gate in place of what stood there
pub record IsPlaced (gate : ℕ) (path : List ℕ) (rec : Rec) (before now : Map) : Type 0 where
  pub file : get now path ≡ get before part_path
  pub no_part : get now part_path ≡ None
  pub journal : (front : List ℕ) (b : ℕ) (rest : List ℕ) → get before journal_path ≡ Some (front ++ b ∷ rest) → length front ≡ gate
      → get now journal_path ≡ Some (front ++ b ∷ (record_code rec ++ 0 ∷ drop 65 rest))
  pub others : (q : List ℕ) → q ≢ part_path → q ≢ path → q ≢ journal_path → get now q ≡ get before q

-- what differs is the journal's byte at the gate
pub record IsOpening (gate : ℕ) (before now : Map) : Type 0 where
  pub journal : (front : List ℕ) (b : ℕ) (rest : List ℕ) → get before journal_path ≡ Some (front ++ b ∷ rest) → length front ≡ gate
      → (c : ℕ) × (get now journal_path ≡ Some (front ++ c ∷ rest))
  pub others : (q : List ℕ) → q ≢ journal_path → get now q ≡ get before q

-- the journal's byte at the gate is 1, and all else is as before
pub record IsOpened (gate : ℕ) (before now : Map) : Type 0 where
  pub journal : (front : List ℕ) (b : ℕ) (rest : List ℕ) → get before journal_path ≡ Some (front ++ b ∷ rest) → length front ≡ gate
      → get now journal_path ≡ Some (front ++ 1 ∷ rest)
  pub others : (q : List ℕ) → q ≢ journal_path → get now q ≡ get before q

-- each path is as before, or it is one of these and absent
pub record IsTidying (paths : List (List ℕ)) (before now : Map) : Type 0 where
  pub each : (q : List ℕ) → (get now q ≡ get before q) ⊎ (Contains paths q × (get now q ≡ None))

-- these paths are absent, and each other path is as before
pub record IsTidied (paths : List (List ℕ)) (before now : Map) : Type 0 where
  pub gone : (q : List ℕ) → Contains paths q → get now q ≡ None
  pub others : (q : List ℕ) → (Contains paths q → ⊥) → get now q ≡ get before q

-- After Ok what is read of an honest drive has Post with what was read before. Changes may still be pending.
pub record Turns (d : ℕ) (Post : Map → Map → Type 0) (ok : Bool) (old new : World) : Type 0 where
  pub done : ok ≡ true → (m : Map) (before all : List Event) → Honest old d m before → new.events ≡ Some all → Post (reads m before d) (reads m all d)
