-- What is always so of a run, what its next turn asks for, and how many turns are left at most.
use Rattle.std.specs.Prelude.{◌≡◌, ◌≢◌, ℕ, suc, ◌+◌, ◌-◌, ◌*◌, ◌<◌, ◌≤◌, true, false, List, [], ◌∷◌, length, drop, Option, Some, None, IfSome, is_some, option_map}
use Rattle.std.specs.List.{slice_get}
use Rattle.bay_core.specs.World.{World}
use Rattle.block_pool.specs.Lent.{PoolState, is_lent, free_in}
use Rattle.copy_plan.specs.declared.file.PlannedFile.{PlannedFile}
use Rattle.copy_plan.specs.Plan.{PlanValue, IsPlan}
use Rattle.drive_journal.specs.declared.record.Rec.{Rec}
use Rattle.drive_journal.specs.Journal.{AreRecords}
use Rattle.drive_journal.specs.Look.{next_gate}
use Rattle.fan_core.specs.Flags.{has, lowest, no_drives}
use Rattle.fan_copier.specs.declared.copy.FileCopy.{FileCopy}
use Rattle.fan_copier.specs.Copying.{card_of, size_of, live_of, slots_at_most, slots_of, standing}
use Rattle.fan_copier.specs.Ring.{taken, IsOut, Owns, Spares}
use Rattle.fan_copier.specs.Standing.{blocks_of}
use Rattle.fan_copier.specs.Turning.{turns_left}
use Rattle.run_state.specs.declared.outcome.Outcome.{Outcome}
use Rattle.run_state.specs.declared.outcome.Outcome.TheVariants.{Going}
use Rattle.run_state.specs.declared.outcome.RunTurn.{RunTurn}
use Rattle.run_state.specs.declared.outcome.RunTurn.TheVariants.{Going as TurnGoing, Ended as TurnEnded}
use Rattle.run_state.specs.declared.phase.Phase.{Phase}
use Rattle.run_state.specs.declared.phase.Phase.TheVariants.{Begins, File, Copies, Dates, Records, Seals, Clears, Ended}
use Rattle.run_state.specs.Acts.{other_listed}
use Rattle.run_state.specs.State.{Ordered, DriveAt, Gone, Fresh, Begun, Found, Sealed, Drives, At, files_of, drive_at, is_gone, is_sealed, due, IsDueNowhere}

-- where a drive stands fits the plan: its records are those of the first files, and its gate stands behind them; a drive that was found sealed has all
abbrev pub FitsPlan : PlanValue → DriveAt → Type 0
FitsPlan p Gone = Unit {0}
FitsPlan p Fresh = Unit {0}
FitsPlan p (Begun recs gate kept) = AreRecords 0 p.files recs × (gate ≡ next_gate p (length recs))
FitsPlan p (Found recs) = AreRecords 0 p.files recs × (length recs ≡ length p.files)
FitsPlan p Sealed = Unit {0}

-- the drive was begun, if it is one of the run, and has at least so many records
abbrev pub HasAtLeast : ℕ → DriveAt → Type 0
HasAtLeast i Fresh = ⊥
HasAtLeast i (Begun recs gate kept) = i ≤ length recs
HasAtLeast i _ = Unit {0}

-- nothing is left to be done on the drive
abbrev pub IsOver : DriveAt → Type 0
IsOver Gone = Unit {0}
IsOver Sealed = Unit {0}
IsOver _ = ⊥

-- every drive has at least so many records
abbrev pub AllHave : ℕ → List DriveAt → Type 0
AllHave i each = (d : ℕ) → HasAtLeast i (drive_at each d)

-- file i of a plan has this size
abbrev pub IsSizeOf : PlanValue → ℕ → ℕ → Type 0
IsSizeOf p i size = option_map (λ (f : PlannedFile). f.size) (slice_get p.files i) ≡ Some size

-- a copy of file i to just the drives on which it is due, one at least
pub record FitsCopy (o : Ordered) (each : List DriveAt) (i : ℕ) (copy : FileCopy) : Type 0 where
  pub card : card_of copy ≡ o.source
  pub sized : IsSizeOf o.plan i (size_of copy)
  pub slots : slots_at_most copy ≡ o.slots
  pub some : lowest (live_of copy) ≢ None
  pub live : (d : ℕ) → has (live_of copy) d ≡ is_some (due i (drive_at each d))
  pub have : AllHave i each

-- the drives that were begun so far, where drive d is next: each before it, if it is one of the run
abbrev pub BegunBefore : ℕ → List DriveAt → Type 0
BegunBefore d each = (k : ℕ) → k < d → HasAtLeast 0 (drive_at each k)

-- A record of a file is made on drive after drive: those before d have it, if they are of the run. It has no other digests than the source list records
-- of the file.
pub record FitsRecord (o : Ordered) (each : List DriveAt) (rec : Rec) (d : ℕ) : Type 0 where
  pub there : d < length each
  pub sized : IsSizeOf o.plan rec.index rec.size
  pub agrees : other_listed o.listed rec.index rec.triple ≡ None
  pub before : (k : ℕ) → k < d → HasAtLeast (suc rec.index) (drive_at each k)
  pub have : AllHave rec.index each

-- drives are sealed one after another: those before d are done with
pub record FitsSeal (o : Ordered) (each : List DriveAt) (d : ℕ) : Type 0 where
  pub there : d < length each
  pub before : (k : ℕ) → k < d → IsOver (drive_at each k)
  pub have : AllHave (files_of o.plan) each

-- what is to be done next fits the plan and the drives
abbrev pub Fits : Ordered → List DriveAt → Phase → Type 0
Fits o each (Begins d) = (d < length each) × BegunBefore d each
Fits o each (File i) = (i < files_of o.plan) × AllHave i each
Fits o each (Copies i copy) = FitsCopy o each i copy
Fits o each (Dates i t) = (i < files_of o.plan) × (IsDueNowhere i each → ⊥) × AllHave i each
Fits o each (Records rec d) = FitsRecord o each rec d
Fits o each (Seals d) = FitsSeal o each d
Fits o each Clears = (d : ℕ) → IsOver (drive_at each d)
Fits o each Ended = Unit {0}

-- the run goes on just as long as something is to be done
abbrev pub FitsOutcome : Phase → Outcome → Type 0
FitsOutcome phase outcome = (phase ≡ Ended → outcome ≢ Going) × (phase ≢ Ended → outcome ≡ Going)

-- The drives of a run fit its plan: there are one to eight; just those that are sealed are in the set of the line `sealed`, and each in that of the line
-- `dropped` is gone.
pub record FitDrives (p : PlanValue) (drives : Drives) : Type 0 where
  pub some : 1 ≤ length drives.each
  pub few : length drives.each ≤ 8
  pub each : (d : ℕ) → FitsPlan p (drive_at drives.each d)
  pub sets : (length drives.sealed ≡ 8) × (length drives.dropped ≡ 8)
  pub said : (d : ℕ) → has drives.sealed d ≡ is_sealed (drive_at drives.each d)
  pub lost : (d : ℕ) → has drives.dropped d ≡ true → drive_at drives.each d ≡ Gone

-- what is always so of a run
pub record IsRun (o : Ordered) (at : At) : Type 0 where
  pub plan : IsPlan o.plan
  pub some_slots : 1 ≤ o.slots
  pub few_slots : o.slots ≤ 16
  pub each_listed : IfSome o.listed (λ all. length all ≡ files_of o.plan)
  pub drives : FitDrives o.plan at.drives
  pub fits : Fits o at.drives.each at.phase
  pub outcome : FitsOutcome at.phase at.outcome

-- a run as it is made: its first drive is begun next, and the sets of the lines `sealed` and `dropped` are empty
pub record IsStart (o : Ordered) (at : At) : Type 0 where
  pub run : IsRun o at
  pub phase : at.phase ≡ Begins 0
  pub sets : (at.drives.sealed ≡ no_drives) × (at.drives.dropped ≡ no_drives)

-- the slots of the pool that a run has
abbrev pub slots_in : Phase → List (Option ℕ)
slots_in (Copies i copy) = slots_of copy
slots_in _ = []

-- how many there are
abbrev pub held : Phase → ℕ
held phase = taken (slots_in phase)

-- What a turn asks for: the card and the drives are attached, the run's slots are those that the pool lent it, and so many are free that it may
-- have as many as it may hold, and one more.
pub record CanTurn (o : Ordered) (at : At) (pool : PoolState) (w : World) : Type 0 where
  pub source : o.source < w.attached.sources
  pub drives : (d : ℕ) → is_gone (drive_at at.drives.each d) ≡ false → d < w.attached.drives
  pub owns : Owns (slots_in at.phase) pool
  pub free : o.slots + 1 ≤ free_in pool.lent + held at.phase

-- What a turn leaves of the pool: the run's slots are its own, the free ones and the run's keep their sum, and what is lent to others stays lent
-- to them, with its bytes.
pub record KeepsRunPool (was now : Phase) (old new : PoolState) : Type 0 where
  pub owns : Owns (slots_in now) new
  pub sum : free_in new.lent + held now ≡ free_in old.lent + held was
  pub spares : Spares (slots_in was) (λ n. Unit {0}) old new
  pub out : (n : ℕ) → is_lent old n ≡ true → IsOut (slots_in was) n → IsOut (slots_in now) n

-- ---- how many turns are left at most

-- the turns of a file of this size, to w drives: its drives are chosen, the turns of its copy, its moment, and one for each drive
abbrev pub file_turns : ℕ → ℕ → ℕ
file_turns w size = (blocks_of size + 1) * (w + 1) + (w + 2)

-- the turns of files
abbrev pub turns_of : ℕ → List PlannedFile → ℕ
turns_of w [] = 0
turns_of w (f ∷ files) = file_turns w f.size + turns_of w files

-- the turns after the last file: one for each drive, and one for the card
abbrev pub last_turns : ℕ → ℕ
last_turns w = w + 1

-- the turns after file i: those of the files after it, and the last ones
abbrev pub turns_after : ℕ → PlanValue → ℕ → ℕ
turns_after w p i = turns_of w (drop (suc i) p.files) + last_turns w

-- the turns that are left, at most, of a run to w drives
abbrev pub left_at : ℕ → PlanValue → Phase → ℕ
left_at w p (Begins d) = (w - d) + (turns_of w p.files + last_turns w)
left_at w p (File i) = turns_of w (drop i p.files) + last_turns w
left_at w p (Copies i copy) = turns_left (standing copy) + (1 + w + turns_after w p i)
left_at w p (Dates i t) = 1 + w + turns_after w p i
left_at w p (Records rec d) = (w - d) + turns_after w p rec.index
left_at w p (Seals d) = (w - d) + 1
left_at w p Clears = 1
left_at w p Ended = 0

-- the turns of a run to w drives by a plan, at most
abbrev pub bound : ℕ → PlanValue → ℕ
bound w p = turns_of w p.files + (2 * w + 2)

-- a turn after which the run goes on leaves fewer; after the last one none is left
abbrev pub IsNearer : RunTurn → ℕ → ℕ → Type 0
IsNearer TurnGoing before after = after < before
IsNearer TurnEnded before after = after ≡ 0

-- the answer of a turn: the run has ended just where nothing is to be done any more
abbrev pub Answers : RunTurn → Phase → Type 0
Answers TurnEnded phase = phase ≡ Ended
Answers TurnGoing phase = phase ≢ Ended
