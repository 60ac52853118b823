-- How a run ends, and why: docs/FORMATS.md, "Statuses".
use Rattle.std.specs.Prelude.{◌≡◌, ◌≢◌, ◌⊎◌, ◌↔◌, ℕ, ◌+◌, ◌<◌, true, false, not, List, [], ◌∷◌, ◌++◌, length, Some}
use Rattle.std.specs.List.{slice_get, Contains}
use Rattle.bay_core.specs.declared.event.Event.{Event}
use Rattle.bay_core.specs.declared.event.Event.TheVariants.{SourceRead, Say}
use Rattle.bay_core.specs.Map.{Map, content}
use Rattle.bay_core.specs.Replay.{Source, Output}
use Rattle.bay_core.specs.World.{Rose, Steady}
use Rattle.digest_set.specs.declared.triple.Triple.{Triple}
use Rattle.copy_plan.specs.declared.file.PlannedFile.{PlannedFile}
use Rattle.drive_journal.specs.declared.order.Listed.{Listed}
use Rattle.fan_core.specs.Flags.{has}
use Rattle.report_text.specs.Run.{clear_text}
use Rattle.run_state.specs.declared.outcome.Outcome.TheVariants.{Going, Finished, NoDrive, SourceFailed, Changed, Altered, OutFailed}
use Rattle.run_state.specs.declared.phase.Phase.TheVariants.{Ended}
use Rattle.run_state.specs.Acts.{other_listed, is_clear}
use Rattle.run_state.specs.Runs.{Point, is_about}
use Rattle.run_state.specs.State.{Ordered, Drives, is_of_run, count_sealed}
use Rattle.run_ends.specs.Reads.{IsCopiedBetween, reads_of, card_given}

-- the run has ended, no line of it failed, a drive is sealed, and each that was of the run is sealed or was dropped, but not both
pub record IsFinished (a b : Point) : Type 0 where
  pub ended : b.at.phase ≡ Ended
  pub heard : b.at.outcome ≢ OutFailed
  pub some : (d : ℕ) × (has b.at.drives.sealed d ≡ true)
  pub each : (d : ℕ) → is_of_run a.at.drives d ≡ true → has b.at.drives.dropped d ≡ not (has b.at.drives.sealed d)

-- the run has ended, no line of it failed, and each drive that was of it was dropped
pub record IsWithoutDrive (a b : Point) : Type 0 where
  pub ended : b.at.phase ≡ Ended
  pub heard : b.at.outcome ≢ OutFailed
  pub each : (d : ℕ) → is_of_run a.at.drives d ≡ true → has b.at.drives.dropped d ≡ true

-- the card is not steady, or its file i has not the planned size
pub record IsNotAsPlanned (o : Ordered) (a : Point) (i : ℕ) : Type 0 where
  pub file : PlannedFile
  pub is_file : slice_get o.plan.files i ≡ Some file
  pub never : (m : Map) → Steady a.world o.source m → length (content m file.path) ≡ file.size → ⊥

-- the run has ended, file i came whole with these digests, and the source list has these others of it
abbrev pub WasAltered : Ordered → Point → Point → ℕ → Listed → Triple → Type 0
WasAltered o a b i l t = (b.at.phase ≡ Ended) × IsCopiedBetween o a b i t × (other_listed o.listed i t ≡ Some l)

-- a line that was not said is about no drive of the run
abbrev pub AreHeard : Drives → List Event → Type 0
AreHeard drives L = (before after : List Event) (d : ℕ) (line : List ℕ) → L ≡ before ++ Say line false ∷ after → is_of_run drives d ≡ true → is_about d line ≡ false

-- the card was called clear where enough drives are sealed
abbrev pub IsCalledClear : Ordered → Drives → List Event → Type 0
IsCalledClear o drives L = is_clear (count_sealed drives.each) o.copies ≡ true → Contains L (Say (clear_text (count_sealed drives.each) o.copies) true)

-- How a run from a stands at b: it goes on, or ended so, and each end has its cause.
pub record EndsRightly (o : Ordered) (a b : Point) : Type 0 where
  pub going : (b.at.outcome ≡ Going) ↔ (b.at.phase ≢ Ended)
  pub finished : (b.at.outcome ≡ Finished) ↔ IsFinished a b
  pub no_drive : (b.at.outcome ≡ NoDrive) ↔ IsWithoutDrive a b
  pub source : b.at.outcome ≡ SourceFailed → Rose (a.world.faults (Source o.source)) (b.world.faults (Source o.source))
  pub changed : (i listed read : ℕ) → b.at.outcome ≡ Changed i listed read → IsNotAsPlanned o a i
  pub altered : (i : ℕ) (l : Listed) (t : Triple) → (b.at.outcome ≡ Altered i l t) ↔ WasAltered o a b i l t
  pub out : b.at.outcome ≡ OutFailed → Rose (a.world.faults Output) (b.world.faults Output)

-- What the calls show of it: unless a line of the run failed, each that was not said was about none of its drives; and a run that finished called the
-- card clear where it was to.
pub record SaysRightly (o : Ordered) (a b : Point) (L : List Event) : Type 0 where
  pub heard : b.at.outcome ≢ OutFailed → AreHeard a.at.drives L
  pub clear : b.at.outcome ≡ Finished → IsCalledClear o b.at.drives L

-- the last of these reads of a file of card s asked for more at this place, and none came
abbrev pub EndsEarly : ℕ → List ℕ → ℕ → List Event → Type 0
EndsEarly s path at K = (front : List Event) × (asked : ℕ) × (0 < asked) × (K ≡ front ++ SourceRead s path at asked (Some []) ∷ [])

-- the last of them asked for one byte at this place, and one came
abbrev pub EndsLate : ℕ → List ℕ → ℕ → List Event → Type 0
EndsLate s path at K = (front : List Event) × (byte : ℕ) × (K ≡ front ++ SourceRead s path at 1 (Some (byte ∷ [])) ∷ [])

-- The card's reads of file i gave so many bytes: fewer than are planned, and then none; or all of these and one more.
pub record GaveOtherLength (o : Ordered) (i listed read : ℕ) (L : List Event) : Type 0 where
  pub file : PlannedFile
  pub is_file : slice_get o.plan.files i ≡ Some file
  pub planned : listed ≡ file.size
  pub gave : length (card_given o.source file.path L) ≡ read
  pub ends : ((read < listed) × EndsEarly o.source file.path read (reads_of o.source file.path L)) ⊎ ((read ≡ listed + 1) × EndsLate o.source file.path listed (reads_of o.source file.path L))
