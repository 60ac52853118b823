-- What a turn of a run calls and says.
use Rattle.std.specs.Prelude.{◌≡◌, ℕ, ◌^◌, ◌<◌, false, List, [], ◌∷◌}
use Rattle.bay_core.specs.declared.event.Event.{Event}
use Rattle.bay_core.specs.declared.event.Event.TheVariants.{SourceList, SourceRead, Say}
use Rattle.bay_core.specs.Replay.{Device, Source, Drive, Attaching, Output, Clock, Picker}
use Rattle.run_state.specs.Rules.{IsOver}
use Rattle.run_state.specs.Runs.{is_about, IsPlanned}
use Rattle.run_state.specs.State.{Ordered, Drives, IsCalled, drive_at}

-- the devices that a turn may call: the run's card, the drives that a turn may call, the output, the clock and the picker
abbrev pub IsOfRun : Ordered → Drives → Device → Type 0
IsOfRun o drives (Source s) = s ≡ o.source
IsOfRun o drives (Drive d) = IsCalled (drive_at drives.each d)
IsOfRun o drives Attaching = ⊥
IsOfRun o drives Output = Unit {0}
IsOfRun o drives Clock = Unit {0}
IsOfRun o drives Picker = Unit {0}

-- a line about no drive that is gone or sealed
abbrev pub IsAboutNoneOver : Drives → List ℕ → Type 0
IsAboutNoneOver drives line = (k : ℕ) → k < 2 ^ 64 → IsOver (drive_at drives.each k) → is_about k line ≡ false

-- a call that a turn may make: of cards it reads planned files of the run's own alone, and it says no line about a drive that is gone or sealed
abbrev pub IsTurnCall : Ordered → Drives → Event → Type 0
IsTurnCall o drives (SourceList s got) = ⊥
IsTurnCall o drives (SourceRead s path at want got) = (s ≡ o.source) × IsPlanned o.plan path
IsTurnCall o drives (Say line ok) = IsAboutNoneOver drives line
IsTurnCall o drives _ = Unit {0}

-- such calls alone
unfoldable pub AreTurnCalls : Ordered → Drives → List Event → Type 0
AreTurnCalls o drives [] = Unit {0}
AreTurnCalls o drives (e ∷ L) = IsTurnCall o drives e × AreTurnCalls o drives L
