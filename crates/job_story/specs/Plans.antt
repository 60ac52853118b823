-- The plan of a run, by what its calls saw: docs/MODEL.md, "A run of a job".
use Rattle.std.specs.Prelude.{◌≡◌, List, Some, None}
use Rattle.bay_core.specs.declared.event.Event.{Event}
use Rattle.bay_core.specs.declared.event.Event.TheVariants.{SourceList, Moment}
use Rattle.bay_core.specs.declared.event.FileInfo.{FileInfo}
use Rattle.card_inventory.specs.Listed.{IsInventoryOf}
use Rattle.copy_plan.specs.Plan.{PlanValue, IsPlan}
use Rattle.command_words.specs.Jobs.{Offloads}
use Rattle.job_story.specs.Run.{Run, IsFirstCall}

-- the call asks the clock
abbrev pub IsMomentCall : Event → Type 0
IsMomentCall (Moment t) = Unit {0}
IsMomentCall _ = ⊥

-- the call is a listing of a card that was answered
abbrev pub IsCardListing : Event → Type 0
IsCardListing (SourceList s (Some files)) = Unit {0}
IsCardListing _ = ⊥

-- this is what the card listed, as it was asked first
abbrev pub IsListed : List Event → List FileInfo → Type 0
IsListed L listed = IsFirstCall IsCardListing L (SourceList 0 (Some listed))

-- The run's plan: by the words' labels and kinds, with no source list, from the first moment on that was asked, and of just the files of the card's listing.
pub record IsRunPlan (run : Run) (p : PlanValue) : Type 0 where
  pub plan : IsPlan p
  pub task : run.job.task ≡ Offloads p.name p.user p.host p.kinds
  pub source_list : p.source_list ≡ None
  pub started : IsFirstCall IsMomentCall run.events (Moment p.started)
  pub listed : List FileInfo
  pub listing : IsListed run.events listed
  pub files : IsInventoryOf listed p.files
