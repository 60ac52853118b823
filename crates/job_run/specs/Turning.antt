-- What running an order does.
use Rattle.std.specs.Prelude.{◌≡◌, ◌≢◌, ◌⊎◌, ℕ, ◌<◌, None}
use Rattle.bay_core.specs.World.{World}
use Rattle.drive_journal.specs.declared.order.DriveStart.TheVariants.{Gone}
use Rattle.drive_journal.specs.declared.order.Order.{Order}
use Rattle.fresh_opening.specs.Orders.{start_at}
use Rattle.last_lines.specs.Ends.{Ended}
use Rattle.command_words.specs.Jobs.{Job}
use Rattle.job_story.specs.Ends.{JobEnd, NoMemory, last_of}
use Rattle.job_story.specs.Story.{Turns}

-- the card of an order and its drives are attached; it has 16 slots, and no source list
pub record CanRun (order : Order) (w : World) : Type 0 where
  pub card : order.source < w.attached.sources
  pub drives : (d : ℕ) → start_at order.drives.items d ≢ Gone → d < w.attached.drives
  pub slots : order.slots ≡ 16
  pub listed : order.listed ≡ None

-- the run of the order was turned to its end, which came
pub record GoesToEnd (job : Job) (order : Order) (result : ℕ) (old new : World) : Type 0 where
  pub end : JobEnd
  pub done : World
  pub turns : Turns job order end old done
  pub ended : Ended (last_of end) result done new

-- memory was wanting, or the run was turned to its end
abbrev pub OrderGoes : Job → Order → ℕ → World → World → Type 0
OrderGoes job order result old new = Ended (last_of NoMemory) result old new ⊎ GoesToEnd job order result old new
