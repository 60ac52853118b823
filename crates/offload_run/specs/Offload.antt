-- A run, as what is known of it between two turns: docs/MODEL.md, "Runs by turns".
use Rattle.std.specs.Prelude.{◌≡◌, ◌≤◌, ℕ, Bool, List, [], length, map, option_map, slice_index_or, vec_capacity}
use Rattle.bay_core.specs.World.{World}
use Rattle.copy_plan.specs.Plan.{PlanValue}
use Rattle.drive_journal.specs.declared.order.DriveStart.{DriveStart}
use Rattle.drive_journal.specs.declared.order.DriveStart.TheVariants.{Gone as GoneStart, Fresh as FreshStart, Begun as BegunStart, Sealed as SealedStart}
use Rattle.drive_journal.specs.declared.order.Order.{Order}
use Rattle.run_state.specs.declared.drive.DriveRun.{DriveRun}
use Rattle.run_state.specs.declared.drive.DriveRun.TheVariants.{Gone as GoneRun, Fresh as FreshRun, Begun as BegunRun}
use Rattle.run_state.specs.declared.outcome.Outcome.TheVariants.{Going}
use Rattle.run_state.specs.declared.phase.Phase.{Phase}
use Rattle.run_state.specs.declared.phase.Phase.TheVariants.{Ended}
use Rattle.run_state.specs.Acts.{new_journal, Says, Goes}
use Rattle.run_state.specs.Rules.{left_at}
use Rattle.run_state.specs.State.{Ordered, DriveAt, Gone, Fresh, Begun, Found, Drives, At, at_of, files_of}
use Rattle.offload_run.specs.declared.offload.Offload.{Offload}

-- what a run is to do, but for its drives
abbrev pub ordered_of : Offload → Ordered
ordered_of run = record { source = run.source; copies = run.copies; slots = run.slots; plan = run.plan; listed = option_map (λ all. all.items) run.listed }

-- its drives
abbrev pub drives_of : Offload → Drives
drives_of run = record { each = map at_of run.drives.items; sealed = run.sealed; dropped = run.dropped }

-- where it stands
abbrev pub stands_at : Offload → At
stands_at run = record { drives = drives_of run; phase = run.phase; outcome = run.outcome }

-- the turns that are left of it, at most
abbrev pub turns_left_of : Offload → ℕ
turns_left_of run = left_at (length (drives_of run).each) run.plan run.phase

-- drive d of a run, with its room for records
abbrev pub run_at : List DriveRun → ℕ → DriveRun
run_at drives d = slice_index_or drives d GoneRun

-- a drive has room for a record of each of so many files; a fresh one has none yet
abbrev pub HasRoom : ℕ → DriveRun → Type 0
HasRoom n (FreshRun room) = (room.items ≡ []) × (n ≤ vec_capacity room)
HasRoom n (BegunRun entries gate kept) = n ≤ vec_capacity entries
HasRoom n _ = Unit {0}

-- what is taken before the first turn by this plan: its journal, and room for the records of each drive
pub record HasStock (p : PlanValue) (journal : List ℕ) (drives : List DriveRun) : Type 0 where
  pub journal_is : journal ≡ new_journal p
  pub room : (d : ℕ) → HasRoom (files_of p) (run_at drives d)

-- a run has what was taken before its first turn
abbrev pub IsStocked : Offload → Type 0
IsStocked run = HasStock run.plan run.journal.items run.drives.items

-- the run is within a turn: what was to be done was taken out of it
abbrev pub IsTurning : Offload → Type 0
IsTurning run = (run.phase ≡ Ended) × (run.outcome ≡ Going)

-- this line was said, and the run goes on with this, or it was not, and the run has ended
pub record SaysOn (line : List ℕ) (next : Phase) (new : At) (before after : World) : Type 0 where
  pub said : Bool
  pub was_said : Says line said before after
  pub goes : Goes said next new

-- the records that a drive begins with are at most so many
abbrev pub HasAtMost : ℕ → DriveStart → Type 0
HasAtMost n (BegunStart entries gate kept) = length entries.items ≤ n
HasAtMost n _ = Unit {0}

-- where a drive of a run stands that begins so
abbrev pub begins_at : DriveStart → DriveAt
begins_at GoneStart = Gone
begins_at FreshStart = Fresh
begins_at (BegunStart entries gate kept) = Begun entries.items gate kept
begins_at (SealedStart entries) = Found entries.items

-- a run as it is made of an order
pub record IsRunOf (order : Order) (run : Offload) : Type 0 where
  pub source : run.source ≡ order.source
  pub copies : run.copies ≡ order.copies
  pub slots : run.slots ≡ order.slots
  pub plan : run.plan ≡ order.plan
  pub listed : run.listed ≡ order.listed
  pub drives : map at_of run.drives.items ≡ map begins_at order.drives.items
