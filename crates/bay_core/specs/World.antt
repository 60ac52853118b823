-- The outside, as far as a contract speaks of it.
use Rattle.std.specs.Prelude.{◌≡◌, ℕ, ◌+◌, ◌-◌, ◌^◌, ◌≤◌, min, Bool, true, List, Option, Some}
use Rattle.bay_core.specs.declared.event.Event.{Event}
use Rattle.bay_core.specs.Map.{Map, Dates}
use Rattle.bay_core.specs.Replay.{Device}

-- what a bay was made with: the files of each place, and which devices may lie
pub record MadeWith : Type 0 where
  pub files : List ℕ → Option Map
  pub dates : List ℕ → Dates
  pub may_lie : Device → Bool

-- What no call but an attach changes: how many cards and drives there are; of each its map and dates as it was attached, where they
-- are told; which cards are steady and which drives honest; and what the bay was made with, where it is told.
pub record Attached : Type 0 where
  pub sources : ℕ
  pub card : ℕ → Option Map
  pub card_dates : ℕ → Dates
  pub steady : ℕ → Bool
  pub drives : ℕ
  pub start : ℕ → Option Map
  pub dates : ℕ → Dates
  pub honest : ℕ → Bool
  pub made : Option MadeWith

-- the calls so far, where they are told, the faults of each device, and what was attached
pub record World : Type 0 where
  pub events : Option (List Event)
  pub faults : Device → ℕ
  pub attached : Attached

-- a count rose, or stands at its end
abbrev pub Rose : ℕ → ℕ → Type 0
Rose before now = min (before + 1) (2 ^ 64 - 1) ≤ now

-- drive d is honest, began as m, and these are the calls so far
pub record Honest (w : World) (d : ℕ) (m : Map) (L : List Event) : Type 0 where
  pub honest : w.attached.honest d ≡ true
  pub start : w.attached.start d ≡ Some m
  pub events : w.events ≡ Some L

-- card s is steady, and this is its map
pub record Steady (w : World) (s : ℕ) (m : Map) : Type 0 where
  pub steady : w.attached.steady s ≡ true
  pub card : w.attached.card s ≡ Some m
