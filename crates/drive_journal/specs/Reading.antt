-- What reading the bytes of a journal gives.
use Rattle.std.specs.Prelude.{◌≡◌, ◌≢◌, ◌⊎◌, ℕ, ◌+◌, ◌-◌, List, [], ◌∷◌, ◌++◌, length}
use Rattle.copy_plan.specs.declared.file.PlannedFile.{PlannedFile}
use Rattle.copy_plan.specs.Fields.{Begins, BeginsNone}
use Rattle.drive_journal.specs.Record.{record_code}
use Rattle.drive_journal.specs.declared.journal.Step.{Step}
use Rattle.drive_journal.specs.declared.journal.Step.TheVariants.{Closed, Record, Broken}
use Rattle.drive_journal.specs.declared.journal.JournalError.{JournalError}
use Rattle.drive_journal.specs.declared.journal.JournalError.TheVariants.{NotAJournal, Memory}
use Rattle.digest_set.specs.declared.triple.Triple.{Triple}
use Rattle.copy_plan.specs.declared.decoding.PlanError.{PlanError}
use Rattle.copy_plan.specs.declared.decoding.PlanError.TheVariants.{NotAPlan, Memory as NoMemoryPlan}
use Rattle.drive_journal.specs.declared.record.Rec.{Rec}
use Rattle.drive_journal.specs.Journal.{IsRecord, AreRecords, RecordsFault, JournalFault, records_code}

-- three digests of their lengths
pub record IsTriple (t : Triple) : Type 0 where
  pub md5 : length t.md5 ≡ 16
  pub sha1 : length t.sha1 ≡ 20
  pub xxh : length t.xxh ≡ 8

-- one behind another
abbrev pub triple_code : Triple → List ℕ
triple_code t = t.md5 ++ (t.sha1 ++ t.xxh)

-- why bytes could not be read: the place of their fault, or want of memory
abbrev pub JournalFails : List ℕ → JournalError → Type 0
JournalFails bytes (NotAJournal at) = JournalFault bytes at
JournalFails bytes Memory = Unit {0}

-- what stands at the gate in front of the record of a file, by what was found there
abbrev pub Steps : ℕ → PlannedFile → List ℕ → Step → Type 0
Steps j f bytes Closed = (gate : ℕ) × (behind : List ℕ) × (bytes ≡ gate ∷ behind) × (gate ≢ 1)
Steps j f bytes (Record r rest) = (after : List ℕ) × (bytes ≡ 1 ∷ after) × Begins (IsRecord j f) record_code after r rest.now
Steps j f bytes (Broken rest) = ((bytes ≡ []) × (rest.now ≡ [])) ⊎ ((bytes ≡ 1 ∷ rest.now) × BeginsNone (IsRecord j f) record_code rest.now)

-- the bytes begin with a closed gate
abbrev pub IsClosed : List ℕ → Type 0
IsClosed bytes = (gate : ℕ) × (behind : List ℕ) × (bytes ≡ gate ∷ behind) × (gate ≢ 1)

-- the records of the first of these files, and then a closed gate
pub record RecordsTaken (files : List PlannedFile) (bytes : List ℕ) (entries : List Rec) : Type 0 where
  pub records : AreRecords 0 files entries
  pub rest : List ℕ
  pub is : bytes ≡ records_code entries ++ rest
  pub closed : IsClosed rest

-- the place of the first fault of the records, where the bytes go on with this rest
pub record RecordsBehind (bytes : List ℕ) (files : List PlannedFile) (rest : List ℕ) (at : ℕ) : Type 0 where
  pub later : ℕ
  pub at_is : at ≡ length bytes - length rest + later
  pub fault : RecordsFault 0 files rest later

-- a refusal with a place where something goes wrong, or want of memory
abbrev pub FailsAt : (ℕ → Type 0) → JournalError → Type 0
FailsAt Wrong (NotAJournal at) = Wrong at
FailsAt Wrong Memory = Unit {0}

-- the refusal of a journal by that of its plan
abbrev pub unread : PlanError → JournalError
unread (NotAPlan at) = NotAJournal at
unread NoMemoryPlan = Memory
