-- How many bytes a journal has at most.
use Rattle.std.proofs.Common.{◌≡◌, ℕ, suc, ◌+◌, ◌*◌, ◌<◌, ◌≤◌, List, [], ◌∷◌, length, arith, length-append}
use Rattle.copy_plan.specs.declared.file.PlannedFile.{PlannedFile}
use Rattle.copy_plan.specs.Plan.{PlanValue, IsPlan}
use Rattle.copy_plan.specs.Fields.{plan_code}
use Rattle.copy_plan.proofs.Bounds.{code_most}
use Rattle.drive_journal.specs.declared.record.Rec.{Rec}
use Rattle.drive_journal.specs.Journal.{AreRecords, open_record, records_code, journal_code}
use Rattle.drive_journal.specs.Look.{longest_journal, next_gate}
use Rattle.drive_journal.proofs.Entries.{records_few}
use Rattle.drive_journal.proofs.Fields.{length-record_code}

-- 65 bytes for each record
records_length : (j : ℕ) (files : List PlannedFile) (recs : List Rec) → AreRecords j files recs → length (records_code recs) ≡ 65 * length recs
unfolding AreRecords
records_length j files [] are = omega arith
records_length j [] (r ∷ recs) are = absurd are
records_length j (f ∷ files) (r ∷ recs) are =
    let s = are.0.shape in
    let one = length-record_code r (record { md5 = s.md5; sha1 = s.sha1; xxh = s.xxh }) in
    omega (arith, one, records_length (suc j) files recs are.1, length-append (open_record r) (records_code recs))

pub gate_behind : (p : PlanValue) (recs : List Rec) → AreRecords 0 p.files recs → length (journal_code p recs) ≡ (next_gate p (length recs)).at
gate_behind p recs are = omega (arith, records_length 0 p.files recs are, length-append (plan_code p) (records_code recs))

pub gate_within : (p : PlanValue) (k : ℕ) → IsPlan p → k ≤ length p.files → (next_gate p k).at < longest_journal
gate_within p k is few = omega (arith, code_most p is, is.inventory.few, few)

pub journal_most : (p : PlanValue) (recs : List Rec) → IsPlan p → AreRecords 0 p.files recs → length (journal_code p recs) + 1 ≤ longest_journal
journal_most p recs is are = omega (arith, gate_behind p recs are, gate_within p (length recs) is (records_few 0 p.files recs are))
