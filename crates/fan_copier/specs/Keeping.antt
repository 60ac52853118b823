-- What leaves a copy, and what it knows, as it was.
use Rattle.std.specs.Prelude.{◌≡◌, ◌≢◌, ℕ, Bool, false, List, Option, Some}
use Rattle.bay_core.specs.declared.event.Event.{Event}
use Rattle.bay_core.specs.Crashes.{OnlyAt}
use Rattle.bay_core.specs.Map.{Map}
use Rattle.bay_core.specs.Paths.{part_path}
use Rattle.bay_core.specs.Replay.{reads}
use Rattle.bay_core.specs.World.{World, Honest}
use Rattle.block_pool.specs.Lent.{PoolState, block_at}
use Rattle.fan_core.specs.Flags.{has}
use Rattle.fan_copier.specs.Passed.{card_calls}
use Rattle.fan_copier.specs.Ring.{cell}

-- an honest drive reads as before
pub record ReadsSame (d : ℕ) (old new : World) : Type 0 where
  pub back : (m : Map) (L : List Event) → Honest new d m L → (before : List Event) × Honest old d m before × (reads m L d ≡ reads m before d)

-- an honest drive reads as before at each path but the part
pub record ReadsSameBesideThePart (d : ℕ) (old new : World) : Type 0 where
  pub back : (m : Map) (L : List Event) → Honest new d m L → (before : List Event) × Honest old d m before × OnlyAt (λ q. q ≡ part_path) (reads m before d) (reads m L d)

-- the blocks of these slots have the same bytes
pub record KeepsBlocks (ring : List (Option ℕ)) (before after : PoolState) : Type 0 where
  pub same : (i n : ℕ) → cell ring i ≡ Some n → block_at after n ≡ block_at before n

-- What the calls of a copy leave, which reads card s and goes to these drives: another drive reads as before, and so does each at each path but
-- the part; no other card is called.
pub record KeepsTheRest (s : ℕ) (live : List Bool) (old new : World) : Type 0 where
  pub drives : (d : ℕ) → has live d ≡ false → ReadsSame d old new
  pub beside : (d : ℕ) → ReadsSameBesideThePart d old new
  pub cards : (before all : List Event) → old.events ≡ Some before → new.events ≡ Some all → (e : ℕ) → e ≢ s → card_calls e all ≡ card_calls e before
