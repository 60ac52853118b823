-- The parts on the drives of a run, between two turns.
use Rattle.std.specs.Prelude.{◌≡◌, ℕ, ◌<◌, true, false, List, [], length, Some, None}
use Rattle.std.specs.List.{slice_get}
use Rattle.bay_core.specs.declared.event.Event.{Event}
use Rattle.bay_core.specs.Map.{Map}
use Rattle.bay_core.specs.World.{World, Honest}
use Rattle.block_pool.specs.Lent.{PoolState}
use Rattle.copy_plan.specs.declared.file.PlannedFile.{PlannedFile}
use Rattle.copy_plan.specs.Plan.{PlanValue}
use Rattle.fan_copier.specs.Copying.{Copying, NoPart, PartBegins}
use Rattle.run_state.specs.declared.phase.Phase.{Phase}
use Rattle.run_state.specs.declared.phase.Phase.TheVariants.{Begins, File, Copies, Dates, Records, Seals}
use Rattle.run_state.specs.Rules.{IsStart}
use Rattle.run_state.specs.Runs.{Point}
use Rattle.run_state.specs.State.{Ordered, DriveAt, Begun, drive_at, due}

-- a part that is kept is that of the drive's next file: on an honest drive there is one more file, and the part is there and no longer than that
abbrev pub KeepsFit : PlanValue → DriveAt → ℕ → World → Type 0
KeepsFit p (Begun recs gate true) d w = (m : Map) (L : List Event) → Honest w d m L → (f : PlannedFile) × (slice_get p.files (length recs) ≡ Some f) × PartBegins d f.size w []
KeepsFit p _ d w = Unit {0}

-- a drive that keeps no part has none, if it is honest
abbrev pub HasNone : DriveAt → ℕ → World → Type 0
HasNone (Begun recs gate false) d w = NoPart d w
HasNone _ d w = Unit {0}

-- a drive may get its next file: it has no part, or keeps one that is no longer than that file
abbrev pub IsReady : PlanValue → DriveAt → ℕ → World → Type 0
IsReady p x d w = KeepsFit p x d w × HasNone x d w

-- The part of drive d, which stands so, by what is done next: each drive is ready once it is begun, until it is sealed, but for those on which a
-- file is due that is under way; a file that is recorded is not due any more on the drives before the next one.
abbrev pub PartAt : PlanValue → Phase → DriveAt → ℕ → World → Type 0
PartAt p (Begins e) x d w = KeepsFit p x d w × (d < e → HasNone x d w)
PartAt p (File i) x d w = IsReady p x d w
PartAt p (Copies i copy) x d w = due i x ≡ None → IsReady p x d w
PartAt p (Dates i t) x d w = due i x ≡ None → IsReady p x d w
PartAt p (Records rec e) x d w = (d < e → due rec.index x ≡ None) × (due rec.index x ≡ None → IsReady p x d w)
PartAt p (Seals e) x d w = IsReady p x d w
PartAt p _ x d w = Unit {0}

-- where a file is copied, the copy knows its blocks and the parts of its drives
abbrev pub CopyStands : Phase → PoolState → World → Type 0
CopyStands (Copies i copy) pool w = (bytes : List ℕ) × Copying copy pool w bytes
CopyStands _ pool w = Unit {0}

-- the parts of all drives of a run, and its copy
pub record PartsStand (o : Ordered) (b : Point) : Type 0 where
  pub drives : (d : ℕ) → PartAt o.plan b.at.phase (drive_at b.at.drives.each d) d b.world
  pub copy : CopyStands b.at.phase b.pool b.world

-- a run as it is made, whose drives keep no part but that of their next file, no longer than it
pub record Starts (o : Ordered) (a : Point) : Type 0 where
  pub run : IsStart o a.at
  pub kept : (d : ℕ) → KeepsFit o.plan (drive_at a.at.drives.each d) d a.world
