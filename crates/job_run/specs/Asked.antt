-- What a run of `offload` is asked for.
use Rattle.std.specs.Prelude.{◌≡◌, ℕ, List}
use Rattle.bay_core.specs.World.{Attached}
use Rattle.report_text.specs.Fields.{IsCause}
use Rattle.card_inventory.specs.declared.error.InventoryError.{InventoryError}
use Rattle.card_inventory.specs.declared.error.InventoryError.TheVariants.{BadPath}
use Rattle.fresh_opening.specs.declared.error.FreshError.{FreshError}
use Rattle.fresh_opening.specs.declared.error.FreshError.TheVariants.{Inventory}
use Rattle.command_words.specs.Jobs.{Job}
use Rattle.command_words.specs.Words.{offload_job}
use Rattle.job_run.specs.declared.job.OffloadJob.{OffloadJob}

-- the job with these folders
abbrev pub job_by : OffloadJob → List (List ℕ) → Job
job_by asked words = offload_job asked.name asked.user asked.host asked.copies asked.kinds words

-- no card and no drive is attached
pub record HasNone (a : Attached) : Type 0 where
  pub sources : a.sources ≡ 0
  pub drives : a.drives ≡ 0

-- the cause of a bad name has a text: it is not want of memory
abbrev pub HasText : InventoryError → Type 0
HasText (BadPath index cause) = IsCause cause
HasText _ = Unit {0}

abbrev pub CanBeSaid : FreshError → Type 0
CanBeSaid (Inventory e) = HasText e
CanBeSaid _ = Unit {0}
