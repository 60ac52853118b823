-- What the laws below say, of which the headline is made.
use Rattle.std.proofs.Common.{◌≡◌, ◌≢◌, ℕ, suc, ◌^◌, ◌<◌, List, ◌++◌, length}
use Rattle.std.specs.Prelude.{Some}
use Rattle.std.specs.FinMap.{keys}
use Rattle.bay_core.specs.declared.event.Event.{Event}
use Rattle.bay_core.specs.Left.{Left, IsSettled}
use Rattle.bay_core.specs.Looks.{IsUntouched}
use Rattle.bay_core.specs.Map.{Map, Dates, AllDated}
use Rattle.bay_core.specs.Replay.{Drive, reads}
use Rattle.bay_core.specs.Went.{Went}
use Rattle.bay_core.specs.World.{Honest}
use Rattle.crash_law.specs.Lines.{AllLines}
use Rattle.card_inventory.specs.Card.{IsInventoryOfCard}
use Rattle.copy_plan.specs.Plan.{PlanValue}
use Rattle.drive_journal.specs.declared.order.DriveStart.TheVariants.{Gone}
use Rattle.drive_journal.specs.declared.order.Order.{Order}
use Rattle.fresh_opening.specs.Orders.{start_at}
use Rattle.offload_law.specs.Clear.{IsCalledSealed, AreCalledSealed}
use Rattle.offload_law.specs.Lines.{IsShort, Announces, announces}
use Rattle.offload_law.specs.Stages.{IsAfterOn, HoldsPlan, IsOfCard, IsOurs, all_steps}
use Rattle.report_text.specs.Run.{sealed_text}
use Rattle.offload_run.specs.declared.offload.Offload.{Offload}
use Rattle.offload_run.specs.Offload.{ordered_of}
use Rattle.run_state.specs.Rules.{IsRun, IsStart}
use Rattle.run_state.specs.Runs.{Point, Alone, Runs}
use Rattle.run_state.specs.State.{Ordered, IsCalled, drive_at}
use Rattle.run_lines.specs.Clear.{ClearsRightly, StandsBehind}
use Rattle.run_lines.specs.Lines.{StandAlone, SaysBy}
use Rattle.true_start.specs.Starts.{StartsTruly, IsDriveOf}
use Rattle.true_start.specs.Stops.{IsLeftWell, IsPlanOf, AnnouncesNone}
use Rattle.job_steps.proofs.Plain.{OtherWord}

-- on lines, and on what is left before the first turn
pub record LineLaws : Type 0 where
  pub other : OtherWord
  pub each : (d n : ℕ) (line : List ℕ) (steps : ℕ) → Announces d n line steps → announces d n line ≡ steps
  pub sealed : (d n m : ℕ) (list : List ℕ) → IsShort m → announces d n (sealed_text d m list) ≡ suc (suc n)
  pub stops : (d : ℕ) (attached card : Map) (past : List Event) (dates : Dates) → IsSettled attached past d → IsOurs card dates (reads attached past d) → (L : List Event) → IsUntouched L → AllLines (AnnouncesNone d (length (keys card))) L
      → (I : Map) → Left attached (past ++ L) d I → IsLeftWell (HoldsPlan (reads attached past d)) card dates d (reads attached past d) L I
  pub behind : (p : PlanValue) (d : ℕ) (start card : Map) (dates : Dates) (before L : List Event) (I : Map) → AllLines (AnnouncesNone d (length (keys card))) before → IsLeftWell (IsPlanOf p start) card dates d start L I
      → IsLeftWell (IsPlanOf p start) card dates d start (before ++ L) I

-- on turns, and on the run of a true order
pub record RunLaws : Type 0 where
  pub runs : (o : Ordered) (a b : Point) → Alone o a b → Runs o a b
  pub calls : (o : Ordered) (a b : Point) → IsRun o a.at → Alone o a b → (d : ℕ) → (IsCalled (drive_at a.at.drives.each d) → ⊥) → Went (λ x. x ≢ Drive d) (λ L. Unit {0}) a.world b.world
  pub of_card : (card : Map) (dates : Dates) (p : PlanValue) → AllDated card dates → IsInventoryOfCard card dates p.files → IsOfCard card dates p
  pub stops : (order : Order) (run : Offload) (a b : Point) → StartsTruly order run a → Runs (ordered_of run) a b → (d : ℕ) (attached card : Map) (past : List Event) (dates : Dates) → IsDriveOf order d attached past card dates a.world
      → IsOfCard card dates order.plan → (L more : List Event) → b.world.events ≡ Some (past ++ (L ++ more)) → (I : Map) → Left attached (past ++ L) d I
      → IsLeftWell (IsPlanOf order.plan (reads attached past d)) card dates d (reads attached past d) L I
  pub sealed : (order : Order) (run : Offload) (a b : Point) → StartsTruly order run a → Runs (ordered_of run) a b → (d : ℕ) (attached card : Map) (past : List Event) (dates : Dates) → IsDriveOf order d attached past card dates a.world
      → IsOfCard card dates order.plan → (before since more : List Event) → b.world.events ≡ Some (past ++ ((before ++ since) ++ more)) → IsCalledSealed d before → (I : Map) → Left attached (past ++ (before ++ since)) d I
      → IsAfterOn card dates I (all_steps card)
  pub gone : (order : Order) (run : Offload) (a b : Point) → StartsTruly order run a → Alone (ordered_of run) a b → (d : ℕ) → d < 2 ^ 64 → start_at order.drives.items d ≡ Gone → (attached card : Map) (past : List Event) (dates : Dates)
      → Honest a.world d attached past → IsSettled attached past d → IsOurs card dates (reads attached past d) → (L more : List Event) → b.world.events ≡ Some (past ++ (L ++ more)) → (I : Map) → Left attached (past ++ L) d I
      → IsLeftWell (IsPlanOf order.plan (reads attached past d)) card dates d (reads attached past d) L I

-- on the lines of turns
pub record TurnLaws : Type 0 where
  pub clear : (o : Ordered) (a b : Point) → IsStart o a.at → Alone o a b → (past L : List Event) → a.world.events ≡ Some past → b.world.events ≡ Some (past ++ L) → ClearsRightly o b L AreCalledSealed (StandsBehind L)
  pub order : (o : Ordered) (a b : Point) → IsStart o a.at → Alone o a b → (past L : List Event) → a.world.events ≡ Some past → b.world.events ≡ Some (past ++ L) → SaysBy o a b.at.outcome (StandAlone L)
