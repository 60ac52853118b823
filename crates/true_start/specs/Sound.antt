-- An order whose devices have nothing wrong with them.
use Rattle.std.specs.Prelude.{◌≡◌, ◌≢◌, ℕ, Some, None, option_map}
use Rattle.std.specs.List.{slice_get}
use Rattle.bay_core.specs.Map.{Map, content}
use Rattle.bay_core.specs.World.{World, Steady}
use Rattle.copy_plan.specs.declared.file.PlannedFile.{PlannedFile}
use Rattle.digest_set.specs.Triple.{triple}
use Rattle.drive_journal.specs.declared.order.DriveStart.TheVariants.{Gone}
use Rattle.drive_journal.specs.declared.order.Order.{Order}
use Rattle.fresh_opening.specs.Orders.{start_at}
use Rattle.run_state.specs.Acts.{other_listed}
use Rattle.run_ends.specs.Known.{IsHonest}

-- The card is steady; each drive that is not gone is honest, and there is one; and a source list, if there is one, has no other digests of the card's files.
pub record IsSoundOrder (order : Order) (card : Map) (w : World) : Type 0 where
  pub steady : Steady w order.source card
  pub honest : (d : ℕ) → start_at order.drives.items d ≢ Gone → IsHonest w d
  pub some : (d : ℕ) × (start_at order.drives.items d ≢ Gone)
  pub agree : (i : ℕ) (file : PlannedFile) → slice_get order.plan.files i ≡ Some file → other_listed (option_map (λ all. all.items) order.listed) i (triple (content card file.path)) ≡ None
