-- What follows a call that failed, and the line of a drive that was dropped.
use Rattle.std.specs.Prelude.{◌≡◌, ℕ, Bool, true, List, [], ◌∷◌, ◌++◌, codes}
use Rattle.bay_core.specs.declared.event.Event.{Event}
use Rattle.bay_core.specs.declared.event.Event.TheVariants.{Say}
use Rattle.bay_core.specs.Looks.{has_failed}
use Rattle.bay_core.specs.Replay.{Device, Source, Drive, Output, calls_on, device_of}
use Rattle.fan_core.specs.Flags.{has}
use Rattle.report_text.specs.Losses.{dropped_fault_text}
use Rattle.run_state.specs.declared.outcome.Outcome.TheVariants.{SourceFailed, OutFailed}
use Rattle.run_state.specs.Acts.{Ends}
use Rattle.run_state.specs.Runs.{begins_with}
use Rattle.run_state.specs.State.{Drives, At, Gone, drive_at}

-- the run dropped drive d
abbrev pub IsDropped : ℕ → Drives → Type 0
IsDropped d drives = (drive_at drives.each d ≡ Gone) × (has drives.dropped d ≡ true)

-- no call is made on drive d, which the run dropped
abbrev pub IsLeft : ℕ → At → List Event → Type 0
IsLeft d now back = (calls_on d back ≡ []) × IsDropped d now.drives

-- the next call says that drive d is lost by a fault, well or not; where there is none, that line failed unseen, and the run has ended by it
abbrev pub IsToldNext : ℕ → At → List Event → Type 0
IsToldNext d now [] = Ends OutFailed now
IsToldNext d now (e ∷ back) = (ok : Bool) × (e ≡ Say (dropped_fault_text d) ok)

-- What stands behind a call that failed, by its device, and how the run then stands: behind one on a drive comes the line of its loss, and no call on
-- that drive any more; behind one on the card, and behind a line, comes no call at all, and the run has ended by it. Nothing else fails.
abbrev pub Halts : At → Device → List Event → Type 0
Halts now (Drive d) back = IsToldNext d now back × IsLeft d now back
Halts now (Source s) back = (back ≡ []) × Ends SourceFailed now
Halts now Output back = (back ≡ []) × Ends OutFailed now
Halts now _ back = ⊥

-- So it is behind each call that failed among these, which led a run to where it stands now. And behind a line `dropped` of a drive there is no call on
-- that drive, whether the line was said or not, since a failure may not be seen.
pub record NoneAfterFailure (now : At) (L : List Event) : Type 0 where
  pub failed : (front back : List Event) (e : Event) → L ≡ front ++ e ∷ back → has_failed e ≡ true → Halts now (device_of e) back
  pub dropped : (d : ℕ) (front back : List Event) (line : List ℕ) (ok : Bool) → L ≡ front ++ Say line ok ∷ back → begins_with (codes "dropped") d line ≡ true → calls_on d back ≡ []

-- Among calls of which others made some: behind a call on drive d that failed, and behind a line `dropped` of that drive, no call is made on it, and
-- the run dropped it.
pub record NoneAfterLoss (d : ℕ) (now : At) (L : List Event) : Type 0 where
  pub failed : (front back : List Event) (e : Event) → L ≡ front ++ e ∷ back → has_failed e ≡ true → device_of e ≡ Drive d → IsLeft d now back
  pub dropped : (front back : List Event) (line : List ℕ) (ok : Bool) → L ≡ front ++ Say line ok ∷ back → begins_with (codes "dropped") d line ≡ true → IsLeft d now back
