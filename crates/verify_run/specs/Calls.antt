-- Where a verification or the loading of a list stopped, and what it had said by then.
use Rattle.std.specs.Prelude.{◌≡◌, ◌⊎◌, ℕ, List, [], ◌∷◌, ◌++◌, Option, Some, None}
use Rattle.bay_core.specs.declared.event.Event.{Event}
use Rattle.bay_core.specs.declared.event.Event.TheVariants.{DriveList}
use Rattle.bay_core.specs.declared.event.FileInfo.{FileInfo}
use Rattle.bay_core.specs.Map.{Map}
use Rattle.bay_core.specs.Replay.{Device, Drive, Output, reads}
use Rattle.bay_core.specs.World.{World, Honest}
use Rattle.bay_core.specs.Went.{Went}
use Rattle.bay_core.specs.Looks.{Here, Stopped, said}
use Rattle.verify_run.specs.declared.verdict.VerifyError.{VerifyError}
use Rattle.verify_run.specs.declared.verdict.VerifyError.TheVariants.{DriveFailed, OutFailed, Memory}

-- the device whose call failed; none where memory was wanting
abbrev pub stopped_at_device : ℕ → VerifyError → Option Device
stopped_at_device d DriveFailed = Some (Drive d)
stopped_at_device d OutFailed = Some Output
stopped_at_device d Memory = None

-- nothing was said
abbrev pub Silent : List Event → Type 0
Silent L = said L ≡ []

-- the first ones of these lines were said, and no other: none of them, some or all
abbrev pub Begun : List (List ℕ) → List Event → Type 0
Begun lines L = (rest : List (List ℕ)) × (lines ≡ said L ++ rest)

-- a run that stopped at a failed call and had said nothing
pub record Unsaid (d : ℕ) (e : VerifyError) (old new : World) : Type 0 where
  pub stopped : Stopped d (stopped_at_device d e) old new
  pub failed : e ≡ Memory → ⊥
  pub silent : Went (Here d) Silent old new

-- a run that stopped at a failed call; on an honest drive whose map is known to be such, it had said the first ones of these lines
pub record LinesStopped (d : ℕ) (Known : Map → Type 0) (lines : Map → List (List ℕ)) (e : VerifyError) (old new : World) : Type 0 where
  pub stopped : Stopped d (stopped_at_device d e) old new
  pub failed : e ≡ Memory → ⊥
  pub honest : (m : Map) (L : List Event) → Honest new d m L → Known (reads m L d) → Went (Here d) (Begun (lines (reads m L d))) old new

-- whatever the map is
abbrev pub AnyMap : Map → Type 0
AnyMap m = Unit {0}

-- no call, or the listing of drive d alone
abbrev pub ListedAlone : ℕ → List Event → Type 0
ListedAlone d L = (L ≡ []) ⊎ ((files : List FileInfo) × (L ≡ DriveList d (Some files) ∷ []))
