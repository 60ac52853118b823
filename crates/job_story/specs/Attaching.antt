-- How a job attaches its folders, in the order of its words.
use Rattle.std.specs.Prelude.{◌≡◌, ℕ, suc, List, [], ◌∷◌, take, Some, Ok, Err}
use Rattle.std.specs.List.{slice_get}
use Rattle.bay_core.specs.declared.failed.Failed.{Failed as DeviceFailed}
use Rattle.bay_core.specs.Attach.{Attaches, CardAttaches}
use Rattle.bay_core.specs.World.{World}
use Rattle.command_words.specs.Jobs.{Job}

-- drives were attached from these folders, one after another, with the numbers from d on
unfoldable pub AttachesDrives : ℕ → List (List ℕ) → World → World → Type 0
AttachesDrives d [] old new = new ≡ old
AttachesDrives d (place ∷ places) old new = (mid : World) × Attaches place (Ok d) old mid × AttachesDrives (suc d) places mid new

-- the card was attached, and so many drives of the job
pub record AttachesSome (job : Job) (n : ℕ) (old new : World) : Type 0 where
  pub mid : World
  pub card : CardAttaches job.card (Ok 0) old mid
  pub drives : AttachesDrives 0 (take n job.drives) mid new

-- the card was attached, and all drives of the job
pub record AttachesAll (job : Job) (old new : World) : Type 0 where
  pub mid : World
  pub card : CardAttaches job.card (Ok 0) old mid
  pub drives : AttachesDrives 0 job.drives mid new

-- the card was attached, and the drives before drive d, which was not
pub record LacksDrive (job : Job) (d : ℕ) (old new : World) : Type 0 where
  pub mid : World
  pub before : AttachesSome job d old mid
  pub place : List ℕ
  pub is_place : slice_get job.drives d ≡ Some place
  pub error : DeviceFailed
  pub failed : Attaches place (Err error) mid new
