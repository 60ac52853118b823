-- The first refusal of a run, by the listing of its card and what was found on its drives: docs/FORMATS.md, "The opening of an offload".
use Rattle.std.specs.Prelude.{◌≡◌, List, Ok, Err}
use Rattle.bay_core.specs.declared.event.FileInfo.{FileInfo}
use Rattle.copy_plan.specs.declared.file.PlannedFile.{PlannedFile}
use Rattle.copy_plan.specs.Plan.{PlanValue}
use Rattle.card_inventory.specs.declared.error.InventoryError.{InventoryError}
use Rattle.card_inventory.specs.declared.error.InventoryError.TheVariants.{SourceFailed, Memory as CardMemory}
use Rattle.card_inventory.specs.Listed.{ListingGives}
use Rattle.fresh_opening.specs.declared.error.FreshError.{FreshError}
use Rattle.fresh_opening.specs.declared.error.FreshError.TheVariants.{Inventory, NotAJournal, AlreadyBegun, NoDrive, Clash, Occupied, OutFailed, Memory}
use Rattle.fresh_opening.specs.Refusals.{Scene, IsFirst, NoneApplies}
use Rattle.fresh_opening.specs.Openings.{draft_of}
use Rattle.command_words.specs.Jobs.{Job}
use Rattle.job_story.specs.Story.{asked_by}

-- the plan of a job of the files of a listing, whether its list clashes with one of them or not
pub record IsDraft (job : Job) (listed : List FileInfo) (p : PlanValue) : Type 0 where
  pub files : List PlannedFile
  pub inventory : ListingGives listed (Ok files)
  pub is : p ≡ draft_of (asked_by job.task) p.started files

-- a listing is refused so; that there is none, and want of memory, are no refusals
abbrev pub RefusesListing : List FileInfo → InventoryError → Type 0
RefusesListing listed SourceFailed = ⊥
RefusesListing listed CardMemory = ⊥
RefusesListing listed e = ListingGives listed (Err e)

-- a card that listed this has an inventory
abbrev pub HasInventory : List FileInfo → Type 0
HasInventory listed = (files : List PlannedFile) × ListingGives listed (Ok files)

-- the card has an inventory, and this is the first refusal by its drives and its plan
abbrev pub RefusesBehind : List FileInfo → Scene → FreshError → Type 0
RefusesBehind listed s e = HasInventory listed × IsFirst s e

-- The first refusal: that of the card's listing, or one behind it. That no drive is left, that a line was not said and want of memory are none.
abbrev pub IsFirstRefusal : List FileInfo → Scene → FreshError → Type 0
IsFirstRefusal listed s (Inventory e) = RefusesListing listed e
IsFirstRefusal listed s (NotAJournal d at) = RefusesBehind listed s (NotAJournal d at)
IsFirstRefusal listed s (AlreadyBegun d) = RefusesBehind listed s (AlreadyBegun d)
IsFirstRefusal listed s (Clash list path) = RefusesBehind listed s (Clash list path)
IsFirstRefusal listed s (Occupied d path) = RefusesBehind listed s (Occupied d path)
IsFirstRefusal listed s NoDrive = ⊥
IsFirstRefusal listed s OutFailed = ⊥
IsFirstRefusal listed s Memory = ⊥

-- nothing refuses the run, and a drive is left
pub record NothingRefuses (listed : List FileInfo) (s : Scene) : Type 0 where
  pub inventory : HasInventory listed
  pub none : NoneApplies s
