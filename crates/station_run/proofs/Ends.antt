-- The end of a run, after its other calls.
use Rattle.std.proofs.Common.{inl, inr, ℕ, List}
use Rattle.bay_core.specs.declared.event.Event.{Event}
use Rattle.bay_core.specs.Replay.{Device, Output}
use Rattle.bay_core.specs.World.{World}
use Rattle.bay_core.specs.Went.{Went}
use Rattle.bay_core.specs.Looks.{Here}
use Rattle.bay_core.proofs.Runs.{rose_since}
use Rattle.bay_core.proofs.Looking.{output_here}
use Rattle.last_lines.specs.Ends.{End, EndCalls, EndStatus, Ended}

-- the end of a run, after calls on its drive
pub ended_here : (d : ℕ) {end : End} {result : ℕ} {mid new : World} → Ended end result mid new → Went (Here d) (EndCalls end result) mid new
ended_here d ended = output_here d ended.went

pub status_since : {On : Device → Type 0} {P : List Event → Type 0} {old mid : World} (new : World) (end : End) (result : ℕ) → Went On P old mid → EndStatus end result mid new → EndStatus end result old new
status_since new end result w (inl same) = inl same
status_since new end result w (inr (some, five, rose)) = inr (some, five, rose_since Output (new.faults Output) w rose)
