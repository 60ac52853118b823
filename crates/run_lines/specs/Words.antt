-- What the lines of a run say of its drives, and in which order: docs/FORMATS.md, "Lines".
use Rattle.std.specs.Prelude.{◌≡◌, ◌⊎◌, ℕ, zero, suc, ◌+◌, ◌-◌, ◌<◌, Bool, true, false, nat_eq, List, [], ◌∷◌, ◌++◌, length, map, filter, unwrap_or, option_map}
use Rattle.std.specs.List.{slice_get, AllByRecursion}
use Rattle.digest_set.specs.declared.triple.Triple.{Triple}
use Rattle.copy_plan.specs.declared.file.PlannedFile.{PlannedFile}
use Rattle.copy_plan.specs.Inventory.{EachPair}
use Rattle.copy_plan.specs.Plan.{PlanValue, list_of}
use Rattle.report_text.specs.Run.{begun_text, done_text, sealed_text}
use Rattle.report_text.specs.Losses.{dropped_fault_text, dropped_absent_text, dropped_length_text, dropped_altered_text, dropped_byte_text}
use Rattle.run_state.specs.Runs.{Point}
use Rattle.run_state.specs.State.{Ordered, DriveAt, Fresh, Begun as BegunDrive, Found, files_of, drive_at, is_of_run}

-- Why a drive was dropped: a call on it failed; or a file that was read back was absent, or had another length, other digests or another byte,
-- each with what was written, what was read and the path.
pub data Loss : Type 0 where
  Fault : Loss
  Absent : List ℕ → Loss
  Length : ℕ → ℕ → List ℕ → Loss
  Altered : Triple → Triple → List ℕ → Loss
  Byte : ℕ → ℕ → ℕ → List ℕ → Loss

-- What a line says of one drive: it is begun with so many records; file j is recorded; its list is sealed; it is dropped.
pub data Mark : Type 0 where
  Begun : ℕ → Mark
  Done : ℕ → Mark
  Sealed : Mark
  Lost : Loss → Mark

-- a drive, and what is said of it
pub record Word : Type 0 where
  pub drive : ℕ
  pub mark : Mark

-- the path of a file of a plan
abbrev pub path_at : PlanValue → ℕ → List ℕ
path_at p j = unwrap_or (option_map (λ (f : PlannedFile). f.path) (slice_get p.files j)) []

-- the line of a drive that is dropped
abbrev pub loss_text : ℕ → Loss → List ℕ
loss_text d Fault = dropped_fault_text d
loss_text d (Absent path) = dropped_absent_text d path
loss_text d (Length written read path) = dropped_length_text d written read path
loss_text d (Altered written read path) = dropped_altered_text d written read path
loss_text d (Byte at written read path) = dropped_byte_text d at written read path

-- the line that says this of drive d, in an offload by this plan
abbrev pub mark_text : PlanValue → ℕ → Mark → List ℕ
mark_text p d (Begun k) = begun_text d k (files_of p)
mark_text p d (Done j) = done_text d (j + 1) (files_of p) (path_at p j)
mark_text p d Sealed = sealed_text d (files_of p) (list_of p)
mark_text p d (Lost loss) = loss_text d loss

abbrev pub word_text : PlanValue → Word → List ℕ
word_text p w = mark_text p w.drive w.mark

-- what is said of drive d among these words
abbrev pub marks_of : ℕ → List Word → List Mark
marks_of d words = map (λ (w : Word). w.mark) (filter (λ (w : Word). nat_eq w.drive d) words)

-- ---- of one drive

-- the files from number j on, so many, each recorded
abbrev pub dones : ℕ → ℕ → List Mark
dones j zero = []
dones j (suc more) = Done j ∷ dones (suc j) more

-- a drive is begun with k records of n files, each file from number k on is recorded, and the drive is sealed
abbrev pub begun_marks : ℕ → ℕ → List Mark
begun_marks n k = Begun k ∷ dones k (n - k) ++ Sealed ∷ []

-- All that is said of a drive that is not lost, by how it stands as the run is made, where there are n files: one that was found sealed is not begun,
-- and nothing is said of one that is gone.
abbrev pub all_marks : ℕ → DriveAt → List Mark
all_marks n Fresh = begun_marks n 0
all_marks n (BegunDrive recs gate kept) = begun_marks n (length recs)
all_marks n (Found recs) = Sealed ∷ []
all_marks n _ = []

-- of these a first part that is not all, so that `sealed`, which is the last, is not among it; and then one loss
pub record IsCutShort (all said : List Mark) : Type 0 where
  pub first : List Mark
  pub next : Mark
  pub rest : List Mark
  pub loss : Loss
  pub part : all ≡ first ++ next ∷ rest
  pub is : said ≡ first ++ Lost loss ∷ []

-- so far: a first part of these; or one that is not all, and then one loss
abbrev pub IsSoFar : List Mark → List Mark → Type 0
IsSoFar all said = ((rest : List Mark) × (all ≡ said ++ rest)) ⊎ IsCutShort all said

-- at the end: all of these; or a first part that is not all, and then one loss
abbrev pub IsWhole : List Mark → List Mark → Type 0
IsWhole all said = (said ≡ all) ⊎ IsCutShort all said

-- ---- across drives

-- it says that a step was done, not that the drive is lost
abbrev pub is_step : Mark → Bool
is_step (Lost loss) = false
is_step _ = true

-- it says that the drive is sealed
abbrev pub is_seal : Mark → Bool
is_seal Sealed = true
is_seal _ = false

-- the words that say that a step was done
abbrev pub steps_in : List Word → List Word
steps_in words = filter (λ (w : Word). is_step w.mark) words

-- the drives of which it is said that they are sealed
abbrev pub sealed_in : List Word → List ℕ
sealed_in words = map (λ (w : Word). w.drive) (filter (λ (w : Word). is_seal w.mark) words)

-- the round in which something is said: `begun` in the first, then file by file, then `sealed`; a loss is said at once, and is of no round
abbrev pub round_of : ℕ → Mark → ℕ
round_of n (Begun k) = 0
round_of n (Done j) = suc j
round_of n Sealed = suc n
round_of n (Lost loss) = 0

-- a round before another, or in the same round a drive with a lower number
abbrev pub Before : ℕ → Word → Word → Type 0
Before n v w = (round_of n v.mark < round_of n w.mark) ⊎ ((round_of n v.mark ≡ round_of n w.mark) × (v.drive < w.drive))

-- The words of a run, in the order in which they are said: each is of a drive of the run; of each of these they are such; and but for losses, which
-- may stand anywhere, they go round by round, and in a round drive by drive.
pub record AreWords (o : Ordered) (a : Point) (Such : List Mark → List Mark → Type 0) (words : List Word) : Type 0 where
  pub ours : AllByRecursion (λ (w : Word). is_of_run a.at.drives w.drive ≡ true) words
  pub each : (d : ℕ) → is_of_run a.at.drives d ≡ true → Such (all_marks (files_of o.plan) (drive_at a.at.drives.each d)) (marks_of d words)
  pub ordered : EachPair (Before (files_of o.plan)) (steps_in words)
