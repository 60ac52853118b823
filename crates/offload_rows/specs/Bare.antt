-- Bays in memory on which a run may begin.
use Rattle.std.specs.Prelude.{◌≡◌}
use Rattle.bay_mem.specs.Failing.{BayState}
use Rattle.bay_mem.specs.State.{world_of}

-- nothing is attached
pub record IsBare (bay : BayState) : Type 0 where
  pub sources : (world_of bay.seen).attached.sources ≡ 0
  pub drives : (world_of bay.seen).attached.drives ≡ 0
