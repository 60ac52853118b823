-- What attaching the folders of a job gives.
use Rattle.std.specs.Prelude.{◌≡◌, ℕ, List, [], drop, slice_index_or, Result, Ok, Err}
use Rattle.bay_core.specs.declared.failed.Failed.{Failed as DeviceFailed}
use Rattle.bay_core.specs.Attach.{CardAttaches}
use Rattle.bay_core.specs.World.{World}
use Rattle.command_words.specs.Jobs.{Job}
use Rattle.job_story.specs.Attaching.{AttachesAll, LacksDrive}
use Rattle.job_run.specs.declared.attaching.Unattached.{Unattached}
use Rattle.job_run.specs.declared.attaching.Unattached.TheVariants.{Card, Drive}

-- the folders of the job stand in the words at their places
pub record HasPlaces (words : List (List ℕ)) (job : Job) : Type 0 where
  pub card : slice_index_or words 4 [] ≡ job.card
  pub drives : drop 5 words ≡ job.drives

-- the card and all drives, or the card, or a drive, could not be attached
abbrev pub AttachesGive : Job → Result ℕ Unattached → World → World → Type 0
AttachesGive job (Ok source) old new = (source ≡ 0) × AttachesAll job old new
AttachesGive job (Err Card) old new = (error : DeviceFailed) × CardAttaches job.card (Err error) old new
AttachesGive job (Err (Drive d)) old new = LacksDrive job d old new
