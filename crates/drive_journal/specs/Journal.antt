-- The journal of a drive: which bytes hold one, and where others go wrong. docs/FORMATS.md, "The journal".
use Rattle.std.specs.Prelude.{◌≡◌, ◌≢◌, ◌⊎◌, ℕ, suc, ◌+◌, ◌^◌, ◌<◌, ◌≤◌, List, [], ◌∷◌, ◌++◌, length}
use Rattle.std.specs.List.{flat_map}
use Rattle.path_text.specs.Moment.{last_moment}
use Rattle.copy_plan.specs.declared.file.PlannedFile.{PlannedFile}
use Rattle.copy_plan.specs.Plan.{PlanValue, IsPlan}
use Rattle.copy_plan.specs.Fields.{FaultFrom, PlanFault, plan_code}
use Rattle.drive_journal.specs.declared.record.Rec.{Rec}
use Rattle.drive_journal.specs.Record.{record_code}

-- a record that 64 bytes can say
pub record IsShape (r : Rec) : Type 0 where
  pub index : r.index < 2 ^ 32
  pub size : r.size < 2 ^ 64
  pub md5 : length r.triple.md5 ≡ 16
  pub sha1 : length r.triple.sha1 ≡ 20
  pub xxh : length r.triple.xxh ≡ 8
  pub hashed : r.hashed ≤ last_moment

-- a record of the file with this number: its number and size are those of the file
pub record IsRecord (j : ℕ) (f : PlannedFile) (r : Rec) : Type 0 where
  pub shape : IsShape r
  pub index : r.index ≡ j
  pub size : r.size ≡ f.size

-- the records of the first of these files, which are numbered from j on
unfoldable pub AreRecords : ℕ → List PlannedFile → List Rec → Type 0
AreRecords j files [] = Unit {0}
AreRecords j [] (r ∷ recs) = ⊥
AreRecords j (f ∷ files) (r ∷ recs) = IsRecord j f r × AreRecords (suc j) files recs

-- a record behind its open gate, which is the byte 1
abbrev pub open_record : Rec → List ℕ
open_record r = 1 ∷ record_code r

-- records behind their open gates
abbrev pub records_code : List Rec → List ℕ
records_code recs = flat_map open_record recs

-- a journal up to its closed gate: the code of its plan, and its records
abbrev pub journal_code : PlanValue → List Rec → List ℕ
journal_code p recs = plan_code p ++ records_code recs

-- the bytes hold this plan with these records: they stand there, and then a closed gate, which is a byte that is not 1; what lies behind it is not looked at
pub record HoldsJournal (bytes : List ℕ) (p : PlanValue) (recs : List Rec) : Type 0 where
  pub plan : IsPlan p
  pub records : AreRecords 0 p.files recs
  pub gate : ℕ
  pub behind : List ℕ
  pub is : bytes ≡ journal_code p recs ++ gate ∷ behind
  pub closed : gate ≢ 1

-- the first fault of the records of these files, which are numbered from j on: a gate is not there; a gate is open behind the last file; or a record does not stand behind an open gate
unfoldable pub RecordsFault : ℕ → List PlannedFile → List ℕ → ℕ → Type 0
RecordsFault j files [] at = at ≡ 0
RecordsFault j [] (gate ∷ bytes) at = (gate ≡ 1) × (at ≡ 0)
RecordsFault j (f ∷ files) (gate ∷ bytes) at = (gate ≡ 1) × ((later : ℕ) × (at ≡ 1 + later) × FaultFrom (IsRecord j f) record_code (λ r. RecordsFault (suc j) files) bytes later)

-- the place where bytes go wrong that hold no journal: where their plan does, or behind a plan the first fault of its records
abbrev pub JournalFault : List ℕ → ℕ → Type 0
JournalFault bytes at = PlanFault bytes at ⊎ ((p : PlanValue) × (rest : List ℕ) × (later : ℕ) × IsPlan p × (bytes ≡ plan_code p ++ rest) × (at ≡ length (plan_code p) + later) × RecordsFault 0 p.files rest later)
