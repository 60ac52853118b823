-- The copy of a file in a run, as it begins.
use Rattle.std.specs.Prelude.{◌≡◌, ℕ, true, false, List, [], is_some}
use Rattle.bay_core.specs.World.{World}
use Rattle.block_pool.specs.Lent.{PoolState}
use Rattle.fan_core.specs.Flags.{has}
use Rattle.fan_copier.specs.declared.copy.FileCopy.{FileCopy}
use Rattle.fan_copier.specs.Copying.{card_of, size_of, live_of, kept_of, slots_at_most, standing, Copying, NoPart, PartBegins}
use Rattle.fan_copier.specs.Standing.{IsAtStart}
use Rattle.run_state.specs.State.{Ordered, DriveAt, drive_at, due, keeps_part}

-- a copy of file i, of this size, as it begins: to just the drives on which the file is due, of which some keep their part
pub record Opens (o : Ordered) (each : List DriveAt) (i size : ℕ) (copy : FileCopy) : Type 0 where
  pub card : card_of copy ≡ o.source
  pub sized : size_of copy ≡ size
  pub slots : slots_at_most copy ≡ o.slots
  pub live : (d : ℕ) → has (live_of copy) d ≡ is_some (due i (drive_at each d))
  pub kept : (d : ℕ) → has (kept_of copy) d ≡ keeps_part (due i (drive_at each d))
  pub stands : IsAtStart size (live_of copy) (kept_of copy) o.slots (standing copy)
  pub copying : (pool : PoolState) (w : World) → ((d : ℕ) → has (live_of copy) d ≡ true → has (kept_of copy) d ≡ false → NoPart d w)
      → ((d : ℕ) → has (kept_of copy) d ≡ true → PartBegins d size w []) → Copying copy pool w []
