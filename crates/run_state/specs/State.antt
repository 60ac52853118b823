-- Where a run stands between two turns: docs/MODEL.md, "Runs by turns".
use Rattle.std.specs.Prelude.{◌≡◌, ℕ, suc, Bool, true, false, not, ◌||◌, nat_eq, nat_lt, if◌then◌else◌, List, [], ◌∷◌, length, Option, Some, None, slice_index_or}
use Rattle.copy_plan.specs.Plan.{PlanValue}
use Rattle.fan_core.specs.Flags.{has}
use Rattle.drive_journal.specs.declared.order.Listed.{Listed}
use Rattle.drive_journal.specs.declared.record.Gate.{Gate}
use Rattle.drive_journal.specs.declared.record.Rec.{Rec}
use Rattle.run_state.specs.declared.drive.DriveRun.{DriveRun}
use Rattle.run_state.specs.declared.drive.DriveRun.TheVariants.{Gone as GoneRun, Fresh as FreshRun, Begun as BegunRun, Found as FoundRun, Sealed as SealedRun}
use Rattle.run_state.specs.declared.outcome.Outcome.{Outcome}
use Rattle.run_state.specs.declared.phase.Phase.{Phase}
use Rattle.run_state.specs.declared.phase.Phase.TheVariants.{Begins, File, Records, Seals, Clears}

-- Where a drive of a run stands: it is not of the run, or was dropped; it has no journal; it has these records, a closed gate behind them, and
-- keeps the part of its next file or not; it was found sealed, with these records, and its line is still to be said; or it is sealed, and its line
-- `sealed` was said, or tried where the run ended by it.
pub data DriveAt : Type 0 where
  Gone : DriveAt
  Fresh : DriveAt
  Begun : List Rec → Gate → Bool → DriveAt
  Found : List Rec → DriveAt
  Sealed : DriveAt

-- where a drive stands, without the room that it has for records
abbrev pub at_of : DriveRun → DriveAt
at_of GoneRun = Gone
at_of (FreshRun room) = Fresh
at_of (BegunRun entries gate kept) = Begun entries.items gate kept
at_of (FoundRun entries) = Found entries.items
at_of SealedRun = Sealed

-- What a run is to do, but for its drives: from which card, by which plan, with how many blocks at once, how many sealed drives call the card
-- clear, and what a source list records of each file of the plan.
pub record Ordered : Type 0 where
  pub source : ℕ
  pub copies : ℕ
  pub slots : ℕ
  pub plan : PlanValue
  pub listed : Option (List Listed)

-- The drives of a run by their numbers, and the sets of those whose line `sealed`, and whose line `dropped`, its turns said, or tried where the run
-- ended by it.
pub record Drives : Type 0 where
  pub each : List DriveAt
  pub sealed : List Bool
  pub dropped : List Bool

-- where a run stands: its drives, what the next turn does, and how it ended, or that it goes on
pub record At : Type 0 where
  pub drives : Drives
  pub phase : Phase
  pub outcome : Outcome

-- how many files a plan has
abbrev pub files_of : PlanValue → ℕ
files_of p = length p.files

-- where drive d stands
abbrev pub drive_at : List DriveAt → ℕ → DriveAt
drive_at each d = slice_index_or each d Gone

-- the drive is not of the run any more, or never was
abbrev pub is_gone : DriveAt → Bool
is_gone Gone = true
is_gone _ = false

-- the drive is sealed, and its line was said, or tried where the run ended by it
abbrev pub is_sealed : DriveAt → Bool
is_sealed Sealed = true
is_sealed _ = false

-- a turn may call the drive: it is to be begun, or was begun and is not sealed
abbrev pub IsCalled : DriveAt → Type 0
IsCalled Fresh = Unit {0}
IsCalled (Begun recs gate kept) = Unit {0}
IsCalled _ = ⊥

-- drive d is or was of the run: it is not gone, or the run dropped it
abbrev pub is_of_run : Drives → ℕ → Bool
is_of_run drives d = not (is_gone (drive_at drives.each d)) || has drives.dropped d

-- how many of these drives are sealed
abbrev pub count_sealed : List DriveAt → ℕ
count_sealed [] = 0
count_sealed (x ∷ each) = if is_sealed x then suc (count_sealed each) else count_sealed each

-- what a drive that is begun has
pub record Journaled : Type 0 where
  pub recs : List Rec
  pub gate : Gate
  pub kept : Bool

-- what a drive has that has a record of each file before file i, and none of it: that file is copied to it and recorded on it
abbrev pub due : ℕ → DriveAt → Option Journaled
due i (Begun recs gate kept) = if nat_eq (length recs) i then Some (record { recs = recs; gate = gate; kept = kept }) else None
due i _ = None

-- file i is due on no drive
abbrev pub IsDueNowhere : ℕ → List DriveAt → Type 0
IsDueNowhere i each = (d : ℕ) → due i (drive_at each d) ≡ None

-- the drive keeps the part of the file that is due on it
abbrev pub keeps_part : Option Journaled → Bool
keeps_part None = false
keeps_part (Some j) = j.kept

-- what is done after drive d, of w, is begun: the next drive is, or the drives of the first file are chosen
abbrev pub after_begin : ℕ → ℕ → Phase
after_begin w d = if nat_lt (suc d) w then Begins (suc d) else File 0

-- what is done after file i, of n: the drives of the next file are chosen, or the first drive is sealed
abbrev pub after_file : ℕ → ℕ → Phase
after_file n i = if nat_lt (suc i) n then File (suc i) else Seals 0

-- what is done after a file was recorded on drive d, of w: it is on the next drive, or what comes after the file
abbrev pub after_record : ℕ → ℕ → Rec → ℕ → Phase
after_record w n rec d = if nat_lt (suc d) w then Records rec (suc d) else after_file n rec.index

-- what is done after drive d, of w, is sealed: the next drive is, or the card is called clear
abbrev pub after_seal : ℕ → ℕ → Phase
after_seal w d = if nat_lt (suc d) w then Seals (suc d) else Clears
