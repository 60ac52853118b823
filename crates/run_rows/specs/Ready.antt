-- Bays in memory over which a run may be turned.
use Rattle.std.specs.Prelude.{◌≡◌, ℕ}
use Rattle.bay_mem.specs.Failing.{BayState}
use Rattle.bay_mem.specs.State.{world_of}

-- so many cards and drives are one card and eight drives
pub record AreDevices (sources drives : ℕ) : Type 0 where
  pub card : sources ≡ 1
  pub eight : drives ≡ 8

-- a card and eight drives are attached
abbrev pub IsReady : BayState → Type 0
IsReady bay = AreDevices (world_of bay.seen).attached.sources (world_of bay.seen).attached.drives
