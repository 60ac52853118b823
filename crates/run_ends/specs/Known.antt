-- What a run knows of what it reads back next, and of what it copies.
use Rattle.std.specs.Prelude.{◌≡◌, ℕ, true, List, ◌++◌, Some, None, is_some}
use Rattle.std.specs.List.{slice_get}
use Rattle.std.specs.FinMap.{get}
use Rattle.bay_core.specs.declared.event.Event.{Event}
use Rattle.bay_core.specs.Map.{Map, content}
use Rattle.bay_core.specs.Paths.{new_path, part_path}
use Rattle.bay_core.specs.Replay.{reads}
use Rattle.bay_core.specs.World.{World, Honest, Steady}
use Rattle.block_pool.specs.Lent.{PoolState}
use Rattle.digest_set.specs.declared.triple.Triple.{Triple}
use Rattle.digest_set.specs.Triple.{triple}
use Rattle.copy_plan.specs.declared.file.PlannedFile.{PlannedFile}
use Rattle.drive_journal.specs.declared.record.Rec.{Rec}
use Rattle.fan_copier.specs.declared.copy.FileCopy.{FileCopy}
use Rattle.fan_copier.specs.Copying.{Copying}
use Rattle.read_back.specs.Back.{HasCopy}
use Rattle.run_state.specs.declared.phase.Phase.{Phase}
use Rattle.run_state.specs.declared.phase.Phase.TheVariants.{Copies, Dates, Records, Seals}
use Rattle.run_state.specs.Runs.{Point, Runs}
use Rattle.run_state.specs.State.{Ordered, DriveAt, Begun, drive_at, due}
use Rattle.run_ends.specs.Reads.{card_given}

-- drive d is honest, and began with a map
abbrev pub IsHonest : World → ℕ → Type 0
IsHonest w d = (w.attached.honest d ≡ true) × (m : Map) × (w.attached.start d ≡ Some m)

-- a file that came whole has the digests of a steady card's file
abbrev pub HasDigests : Ordered → ℕ → Triple → World → Type 0
HasDigests o i t w = (file : PlannedFile) → slice_get o.plan.files i ≡ Some file → (m : Map) → Steady w o.source m → t ≡ triple (content m file.path)

-- on an honest drive the part has what is recorded of the file
abbrev pub HasPart : ℕ → Rec → World → Type 0
HasPart d rec w = (m : Map) (L : List Event) → Honest w d m L → HasCopy rec.size rec.triple (get (reads m L d) part_path)

-- on an honest drive that is begun no file waits for its name
abbrev pub HasNoNew : ℕ → DriveAt → World → Type 0
HasNoNew d (Begun recs gate kept) w = (m : Map) (L : List Event) → Honest w d m L → get (reads m L d) new_path ≡ None
HasNoNew d _ w = Unit {0}

-- What is known, by what is done next: the digests of a file that came whole; that what is recorded next is in the part; and that no file waits for
-- its name where a list is written next.
abbrev pub IsKnownAt : Ordered → Phase → List DriveAt → World → Type 0
IsKnownAt o (Dates i t) each w = HasDigests o i t w
IsKnownAt o (Records rec d) each w = is_some (due rec.index (drive_at each d)) ≡ true → HasPart d rec w
IsKnownAt o (Seals d) each w = HasNoNew d (drive_at each d) w
IsKnownAt o _ each w = Unit {0}

-- so it is at each point of the runs from here
abbrev pub IsKnownOnward : Ordered → Point → Type 0
IsKnownOnward o a = (m : Point) → Runs o a m → IsKnownAt o m.at.phase m.at.drives.each m.world

-- a copy of file i knows the bytes that the card's reads of the file gave since a
pub record KnowsReads (o : Ordered) (a : Point) (i : ℕ) (copy : FileCopy) (pool : PoolState) (w : World) : Type 0 where
  pub file : PlannedFile
  pub is_file : slice_get o.plan.files i ≡ Some file
  pub bytes : List ℕ
  pub copying : Copying copy pool w bytes
  pub gave : (past L : List Event) → a.world.events ≡ Some past → w.events ≡ Some (past ++ L) → card_given o.source file.path L ≡ bytes

-- so it is at each point at which a file is copied
abbrev pub KnowsReadsOnward : Ordered → Point → Type 0
KnowsReadsOnward o a = (m : Point) → Runs o a m → (i : ℕ) (copy : FileCopy) → m.at.phase ≡ Copies i copy → KnowsReads o a i copy m.pool m.world
