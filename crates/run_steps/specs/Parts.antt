-- What the scratch files of the honest drives of a run are, and what a copy knows, by what the next turn does.
use Rattle.std.specs.Prelude.{◌≡◌, ℕ, ◌<◌, ◌≤◌, Bool, true, false, List, [], length, Some, None, is_some}
use Rattle.std.specs.List.{slice_get}
use Rattle.std.specs.FinMap.{get}
use Rattle.bay_core.specs.declared.event.Event.{Event}
use Rattle.bay_core.specs.Map.{Map, content}
use Rattle.bay_core.specs.Paths.{new_path}
use Rattle.bay_core.specs.Replay.{reads}
use Rattle.bay_core.specs.World.{World, Honest, Steady}
use Rattle.block_pool.specs.Lent.{PoolState}
use Rattle.digest_set.specs.declared.triple.Triple.{Triple}
use Rattle.digest_set.specs.Triple.{triple}
use Rattle.copy_plan.specs.declared.file.PlannedFile.{PlannedFile}
use Rattle.copy_plan.specs.Plan.{PlanValue}
use Rattle.drive_journal.specs.declared.record.Rec.{Rec}
use Rattle.fan_copier.specs.declared.copy.FileCopy.{FileCopy}
use Rattle.fan_copier.specs.Copying.{Copying, NoPart, PartBegins, PartIs}
use Rattle.fan_copier.specs.Reads.{AreAt}
use Rattle.run_state.specs.declared.phase.Phase.{Phase}
use Rattle.run_state.specs.declared.phase.Phase.TheVariants.{Begins, File, Copies, Dates, Records, Seals, Clears, Ended}
use Rattle.run_state.specs.Runs.{Point}
use Rattle.run_state.specs.State.{Ordered, DriveAt, Begun, drive_at, due}

-- on an honest drive no file waits for its name
abbrev pub NoNew : ℕ → World → Type 0
NoNew d w = (m : Map) (L : List Event) → Honest w d m L → get (reads m L d) new_path ≡ None

-- the part that a drive keeps is that of its next file: on an honest drive there is one file more, and the part is there and no longer
abbrev pub KeepsPart : PlanValue → ℕ → World → List Rec → Type 0
KeepsPart p d w recs = (m : Map) (L : List Event) → Honest w d m L → (file : PlannedFile) × (slice_get p.files (length recs) ≡ Some file) × PartBegins d file.size w []

-- there is no part, or it is kept
abbrev pub PartFits : PlanValue → ℕ → World → List Rec → Bool → Type 0
PartFits p d w recs false = NoPart d w
PartFits p d w recs true = KeepsPart p d w recs

-- before a drive is begun its part is there if it is to be kept
abbrev pub CanKeep : PlanValue → ℕ → World → DriveAt → Type 0
CanKeep p d w (Begun recs gate true) = KeepsPart p d w recs
CanKeep p d w _ = Unit {0}

-- between two files a drive that was begun has no file that waits for its name, and no part but one that it keeps
abbrev pub IsTidy : PlanValue → ℕ → World → DriveAt → Type 0
IsTidy p d w (Begun recs gate kept) = NoNew d w × PartFits p d w recs kept
IsTidy p d w _ = Unit {0}

-- every drive is so
abbrev pub AreTidy : Ordered → List DriveAt → World → Type 0
AreTidy o each w = (d : ℕ) → IsTidy o.plan d w (drive_at each d)

-- the drives before drive d were begun
pub record AreBegun (o : Ordered) (d : ℕ) (each : List DriveAt) (w : World) : Type 0 where
  pub before : (k : ℕ) → k < d → IsTidy o.plan k w (drive_at each k)
  pub still : (k : ℕ) → d ≤ k → CanKeep o.plan k w (drive_at each k)

-- File i is being copied: the copy knows the bytes that the card gave so far, with which a steady card's file begins; its drives have no file
-- that waits for its name, and the others are as between two files.
pub record BeingCopied (o : Ordered) (i : ℕ) (copy : FileCopy) (each : List DriveAt) (pool : PoolState) (w : World) : Type 0 where
  pub file : PlannedFile
  pub is_file : slice_get o.plan.files i ≡ Some file
  pub bytes : List ℕ
  pub copying : Copying copy pool w bytes
  pub card : (m : Map) → Steady w o.source m → AreAt (content m file.path) 0 bytes
  pub no_new : (d : ℕ) → is_some (due i (drive_at each d)) ≡ true → NoNew d w
  pub others : (d : ℕ) → due i (drive_at each d) ≡ None → IsTidy o.plan d w (drive_at each d)

-- File i came whole, and has these digests: a steady card's file has just its bytes, and so has the part of each drive from the first on on which
-- the file is due; every other drive is as between two files.
pub record CameWhole (o : Ordered) (i : ℕ) (t : Triple) (first : ℕ) (each : List DriveAt) (w : World) : Type 0 where
  pub file : PlannedFile
  pub is_file : slice_get o.plan.files i ≡ Some file
  pub bytes : List ℕ
  pub sized : length bytes ≡ file.size
  pub digests : t ≡ triple bytes
  pub card : (m : Map) → Steady w o.source m → content m file.path ≡ bytes
  pub parts : (d : ℕ) → first ≤ d → is_some (due i (drive_at each d)) ≡ true → NoNew d w × PartIs d w bytes
  pub others : (d : ℕ) → (first ≤ d → due i (drive_at each d) ≡ None) → IsTidy o.plan d w (drive_at each d)

-- what the scratch files are where this is done next
abbrev pub PartsAt : Ordered → Phase → List DriveAt → PoolState → World → Type 0
PartsAt o (Begins d) each pool w = AreBegun o d each w
PartsAt o (File i) each pool w = AreTidy o each w
PartsAt o (Copies i copy) each pool w = BeingCopied o i copy each pool w
PartsAt o (Dates i t) each pool w = CameWhole o i t 0 each w
PartsAt o (Records rec d) each pool w = CameWhole o rec.index rec.triple d each w
PartsAt o (Seals d) each pool w = AreTidy o each w
PartsAt o Clears each pool w = Unit {0}
PartsAt o Ended each pool w = Unit {0}

-- what they are at a point of a run
abbrev pub PartsReady : Ordered → Point → Type 0
PartsReady o a = PartsAt o a.at.phase a.at.drives.each a.pool a.world

-- a drive that was begun and is not sealed has no part, and no file waits for its name there
abbrev pub IsClean : ℕ → World → DriveAt → Type 0
IsClean d w (Begun recs gate kept) = NoNew d w × NoPart d w
IsClean d w _ = Unit {0}

-- so is every drive once the drives are sealed
abbrev pub AreClean : Point → Type 0
AreClean b = (e : ℕ) → b.at.phase ≡ Seals e → (d : ℕ) → IsClean d b.world (drive_at b.at.drives.each d)
