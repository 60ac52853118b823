-- What a copy leaves of the offload of a drive.
use Rattle.std.specs.Prelude.{◌≡◌, ◌≢◌, ℕ, Bool, false, List, ◌++◌, Some}
use Rattle.std.specs.FinMap.{get}
use Rattle.bay_core.specs.declared.event.Event.{Event}
use Rattle.bay_core.specs.Map.{Map}
use Rattle.bay_core.specs.Paths.{part_path}
use Rattle.bay_core.specs.Replay.{reads}
use Rattle.bay_core.specs.World.{World}
use Rattle.crash_law.specs.Law.{StaysPut}
use Rattle.fan_core.specs.Flags.{has}
use Rattle.drive_journal.specs.declared.record.Rec.{Rec}
use Rattle.offload_law.specs.Steps.{offload}
use Rattle.recording.specs.Drives.{Copying, UnderWay, ToldOf}

-- The offload of a drive of the copy stays under way with its records, and no step more is announced for it; a read gives the same at
-- each path but the part. The offload of any other drive stays as it was.
pub record CopyKeeps (live : List Bool) (old new : World) : Type 0 where
  pub under_way : (d : ℕ) (D : Copying) (recs : List Rec) (past before all : List Event) → old.events ≡ Some (past ++ before) → new.events ≡ Some (past ++ all) →
      UnderWay D d before recs → UnderWay D d all recs × (ToldOf D d all ≡ ToldOf D d before)
  pub beside : (d : ℕ) (m : Map) (past before all : List Event) → old.events ≡ Some (past ++ before) → new.events ≡ Some (past ++ all) →
      (q : List ℕ) → q ≢ part_path → get (reads m all d) q ≡ get (reads m before d) q
  pub others : (d : ℕ) → has live d ≡ false → (D : Copying) → StaysPut (offload d D.work D.start) d old new
