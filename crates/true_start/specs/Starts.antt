-- A run as it is made of an order that is true of its drives and of its card: docs/MODEL.md, "A run from a true order".
use Rattle.std.specs.Prelude.{◌≡◌, ◌≢◌, ℕ, List}
use Rattle.bay_core.specs.declared.event.Event.{Event}
use Rattle.bay_core.specs.Map.{Map, Dates}
use Rattle.bay_core.specs.Replay.{reads}
use Rattle.bay_core.specs.World.{World, Honest, Steady}
use Rattle.copy_plan.specs.Plan.{PlanValue}
use Rattle.drive_journal.specs.declared.order.DriveStart.{DriveStart}
use Rattle.drive_journal.specs.declared.order.DriveStart.TheVariants.{Gone, Fresh, Begun, Sealed}
use Rattle.drive_journal.specs.declared.order.Order.{Order}
use Rattle.fresh_opening.specs.Orders.{start_at, IsTrueOrder}
use Rattle.offload_law.specs.Stages.{Stage, IsOurs}
use Rattle.recording.specs.Drives.{Copying}
use Rattle.run_state.specs.Rules.{IsStart}
use Rattle.run_state.specs.Runs.{Point}
use Rattle.offload_run.specs.declared.offload.Offload.{Offload}
use Rattle.offload_run.specs.Offload.{ordered_of, stands_at, IsRunOf}

-- A run as it is made of this order, which is true of the outside there: before its first turn.
pub record StartsTruly (order : Order) (run : Offload) (a : Point) : Type 0 where
  pub of : IsRunOf order run
  pub starts : IsStart (ordered_of run) (stands_at run)
  pub at : a.at ≡ stands_at run
  pub true_order : IsTrueOrder order a.world

-- what is on a drive that begins so is ours, if the order says that it has a journal
abbrev pub IsOursWith : Map → Dates → DriveStart → Map → Type 0
IsOursWith card dates Gone m = Unit {0}
IsOursWith card dates Fresh m = Unit {0}
IsOursWith card dates (Begun entries gate kept) m = IsOurs card dates m
IsOursWith card dates (Sealed entries) m = IsOurs card dates m

-- Drive d is one of the order, and honest: it had this map as it was attached, and these are the calls so far. The card is steady and has this map and these dates, and a
-- journal, if the order says that there is one, is that of a run on this card.
pub record IsDriveOf (order : Order) (d : ℕ) (attached : Map) (past : List Event) (card : Map) (dates : Dates) (w : World) : Type 0 where
  pub of_run : start_at order.drives.items d ≢ Gone
  pub honest : Honest w d attached past
  pub steady : Steady w order.source card
  pub ours : IsOursWith card dates (start_at order.drives.items d) (reads attached past d)

-- an offload by this plan from this card, onto a drive that had this map at this stage
abbrev pub offload_at : PlanValue → Map → Map → Stage → Copying
offload_at p card start stage = record { work = record { plan = p; card = card }; start = start; stage = stage }
