-- Bytes hold one journal at most.
use Rattle.std.proofs.Common.{◌≡◌, ◌≢◌, inl, inr, ℕ, suc, List, [], ◌∷◌, ◌++◌, refl, sym, ◌∙◌, subst, append_assoc}
use Rattle.copy_plan.specs.declared.file.PlannedFile.{PlannedFile}
use Rattle.copy_plan.specs.Plan.{PlanValue}
use Rattle.copy_plan.specs.Fields.{plan_code}
use Rattle.copy_plan.proofs.Plans.{one_plan, code_no_fault}
use Rattle.copy_plan.proofs.Leads.{fault_behind}
use Rattle.drive_journal.specs.declared.record.Rec.{Rec}
use Rattle.drive_journal.specs.Record.{record_code}
use Rattle.drive_journal.specs.Journal.{AreRecords, open_record, records_code, HoldsJournal, RecordsFault, JournalFault}
use Rattle.drive_journal.proofs.Records.{one_record}

-- the first record, behind its gate
first_record : (r : Rec) (recs : List Rec) (rest : List ℕ) → records_code (r ∷ recs) ++ rest ≡ 1 ∷ (record_code r ++ (records_code recs ++ rest))
first_record r recs rest = append_assoc (open_record r) (records_code recs) rest

-- records and a closed gate leave no fault
pub records_stand : (j : ℕ) (files : List PlannedFile) (recs : List Rec) (gate : ℕ) (behind bytes : List ℕ) (at : ℕ) → AreRecords j files recs → gate ≢ 1 → bytes ≡ records_code recs ++ gate ∷ behind → RecordsFault j files bytes at → ⊥
unfolding AreRecords RecordsFault
records_stand j [] [] gate behind [] at are closed is fault = absurd (cc)
records_stand j [] [] gate behind (b ∷ bytes) at are closed is fault = let same : b ≡ gate = cc in closed (sym same ∙ fault.0)
records_stand j (f ∷ files) [] gate behind [] at are closed is fault = absurd (cc)
records_stand j (f ∷ files) [] gate behind (b ∷ bytes) at are closed is fault = let same : b ≡ gate = cc in closed (sym same ∙ fault.0)
records_stand j [] (r ∷ recs) gate behind bytes at are closed is fault = are
records_stand j (f ∷ files) (r ∷ recs) gate behind [] at are closed is fault = let e : [] ≡ 1 ∷ (record_code r ++ (records_code recs ++ gate ∷ behind)) = is ∙ first_record r recs (gate ∷ behind) in absurd (cc)
records_stand j (f ∷ files) (r ∷ recs) gate behind (b ∷ bytes) at are closed is fault =
    let e : b ∷ bytes ≡ 1 ∷ (record_code r ++ (records_code recs ++ gate ∷ behind)) = is ∙ first_record r recs (gate ∷ behind) in
    let tail : bytes ≡ record_code r ++ (records_code recs ++ gate ∷ behind) = cc in
    let next = fault_behind (one_record j f) bytes fault.1.0 r (records_code recs ++ gate ∷ behind) (record { kept = are.0; is = tail }) fault.1.2 in
    records_stand (suc j) files recs gate behind (records_code recs ++ gate ∷ behind) next.0 are.1 closed refl next.2

-- records up to a closed gate are read one way
records_one : (j : ℕ) (files : List PlannedFile) (recs others : List Rec) (gate other : ℕ) (behind after : List ℕ) → AreRecords j files recs → AreRecords j files others → gate ≢ 1 → other ≢ 1 → records_code recs ++ gate ∷ behind ≡ records_code others ++ other ∷ after → recs ≡ others
unfolding AreRecords
records_one j files [] [] gate other behind after x y closed shut e = refl
records_one j files [] (s ∷ others) gate other behind after x y closed shut e =
    let f : gate ∷ behind ≡ 1 ∷ (record_code s ++ (records_code others ++ other ∷ after)) = e ∙ first_record s others (other ∷ after) in
    let same : gate ≡ 1 = cc in
    absurd (closed same)
records_one j files (r ∷ recs) [] gate other behind after x y closed shut e =
    let f : 1 ∷ (record_code r ++ (records_code recs ++ gate ∷ behind)) ≡ other ∷ after = sym (first_record r recs (gate ∷ behind)) ∙ e in
    let same : other ≡ 1 = cc in
    absurd (shut same)
records_one j [] (r ∷ recs) (s ∷ others) gate other behind after x y closed shut e = absurd x
records_one j (g ∷ files) (r ∷ recs) (s ∷ others) gate other behind after x y closed shut e =
    let f : 1 ∷ (record_code r ++ (records_code recs ++ gate ∷ behind)) ≡ 1 ∷ (record_code s ++ (records_code others ++ other ∷ after)) = sym (first_record r recs (gate ∷ behind)) ∙ e ∙ first_record s others (other ∷ after) in
    let tail : record_code r ++ (records_code recs ++ gate ∷ behind) ≡ record_code s ++ (records_code others ++ other ∷ after) = cc in
    let one = (one_record j g).one r s (records_code recs ++ gate ∷ behind) (records_code others ++ other ∷ after) x.0 y.0 tail in
    let rest = records_one (suc j) files recs others gate other behind after x.1 y.1 closed shut one.1 in
    λ i. one.0 i ∷ rest i

journal_split : (bytes : List ℕ) (p : PlanValue) (recs : List Rec) → (holds : HoldsJournal bytes p recs) → bytes ≡ plan_code p ++ (records_code recs ++ holds.gate ∷ holds.behind)
journal_split bytes p recs holds = holds.is ∙ append_assoc (plan_code p) (records_code recs) (holds.gate ∷ holds.behind)

pub one_journal : (bytes : List ℕ) (p q : PlanValue) (recs others : List Rec) → HoldsJournal bytes p recs → HoldsJournal bytes q others → (p ≡ q) × (recs ≡ others)
one_journal bytes p q recs others x y =
    let plan = one_plan p q (records_code recs ++ x.gate ∷ x.behind) (records_code others ++ y.gate ∷ y.behind) x.plan y.plan (sym (journal_split bytes p recs x) ∙ journal_split bytes q others y) in
    let are = subst (λ (r : PlanValue). AreRecords 0 r.files recs) plan.0 x.records in
    (plan.0, records_one 0 q.files recs others x.gate y.gate x.behind y.behind are y.records x.closed y.closed plan.1)

pub no_fault : (bytes : List ℕ) (p : PlanValue) (recs : List Rec) (at : ℕ) → HoldsJournal bytes p recs → JournalFault bytes at → ⊥
no_fault bytes p recs at holds (inl fault) = code_no_fault p (records_code recs ++ holds.gate ∷ holds.behind) bytes at holds.plan (journal_split bytes p recs holds) fault
no_fault bytes p recs at holds (inr (q, rest, later, plan, is, place, fault)) =
    let same = one_plan q p rest (records_code recs ++ holds.gate ∷ holds.behind) plan holds.plan (sym is ∙ journal_split bytes p recs holds) in
    records_stand 0 p.files recs holds.gate holds.behind rest later holds.records holds.closed same.1 (subst (λ (r : PlanValue). RecordsFault 0 r.files rest later) same.0 fault)
