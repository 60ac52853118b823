-- The records of a journal, one behind another, and where they go wrong.
use Rattle.std.proofs.Common.{◌≡◌, ◌⊎◌, inl, inr, ℕ, zero, suc, ◌+◌, ◌-◌, ◌*◌, ◌≤◌, ◌<◌, List, [], ◌∷◌, ◌++◌, length, take, drop, get_or, refl, sym, ◌∙◌, ap, subst, arith, append_assoc, append-nil, length-append, length-drop}
use Rattle.std.specs.Prelude.{Vec, vec_len}
use Rattle.std.specs.Global.{Global}
use Rattle.std.proofs.lemmas.Bool.Decides.{eqb_tells}
use Rattle.copy_plan.specs.declared.file.PlannedFile.{PlannedFile}
use Rattle.copy_plan.specs.Fields.{Begins, BeginsNone}
use Rattle.copy_plan.proofs.Leads.{Leads, leads_start}
use Rattle.drive_journal.specs.declared.record.Rec.{Rec}
use Rattle.drive_journal.specs.declared.journal.JournalError.{JournalError}
use Rattle.drive_journal.specs.declared.journal.JournalError.TheVariants.{NotAJournal, Memory}
use Rattle.drive_journal.specs.Record.{record_code}
use Rattle.drive_journal.specs.Journal.{IsRecord, AreRecords, open_record, records_code, RecordsFault, HoldsJournal}
use Rattle.std.proofs.Math.Seq.{drop-append_seam}
use Rattle.copy_plan.specs.Plan.{PlanValue}
use Rattle.copy_plan.specs.Fields.{PlanFault, plan_code}
use Rattle.copy_plan.specs.declared.decoding.PlanError.{PlanError}
use Rattle.copy_plan.specs.declared.decoding.PlanError.TheVariants.{NotAPlan, Memory as NoMemoryPlan}
use Rattle.copy_plan.specs.Decoding.{PlanStands, IsNoPlan, Faults}
use Rattle.drive_journal.specs.declared.record.Gate.{Gate}
use Rattle.drive_journal.specs.Look.{next_gate}
use Rattle.drive_journal.specs.Reading.{IsClosed, RecordsTaken, RecordsBehind, FailsAt, JournalFails, unread}
use Rattle.drive_journal.proofs.Records.{length-record}

-- one record more, of the next file
pub records_push : (j : ℕ) (files : List PlannedFile) (entries : List Rec) (f : PlannedFile) (more : List PlannedFile) (r : Rec) → AreRecords j files entries → drop (length entries) files ≡ f ∷ more → IsRecord (j + length entries) f r → AreRecords j files (entries ++ r ∷ [])
unfolding AreRecords
records_push j [] [] f more r are next is = absurd (cc)
records_push j (g ∷ files) [] f more r are next is =
    let same : f ≡ g = cc in
    let here : j + 0 ≡ j = omega arith in
    (subst (λ (h : PlannedFile). IsRecord j h r) same (subst (λ (k : ℕ). IsRecord k f r) here is), tt)
records_push j [] (e ∷ entries) f more r are next is = absurd are
records_push j (g ∷ files) (e ∷ entries) f more r are next is =
    let on : j + suc (length entries) ≡ suc j + length entries = omega arith in
    (are.0, records_push (suc j) files entries f more r are.1 next (subst (λ (k : ℕ). IsRecord k f r) on is))

pub records_none : (files : List PlannedFile) → AreRecords 0 files []
unfolding AreRecords
records_none [] = tt
records_none (f ∷ files) = tt

code_push : (entries : List Rec) (r : Rec) (rest : List ℕ) → records_code (entries ++ r ∷ []) ++ rest ≡ records_code entries ++ (1 ∷ (record_code r ++ rest))
code_push [] r rest = ap (λ (l : List ℕ). 1 ∷ (l ++ rest)) (append-nil (record_code r))
code_push (e ∷ entries) r rest =
    append_assoc (open_record e) (records_code (entries ++ r ∷ [])) rest ∙ ap (λ (l : List ℕ). open_record e ++ l) (code_push entries r rest) ∙ sym (append_assoc (open_record e) (records_code entries) (1 ∷ (record_code r ++ rest)))

-- the files from a place on
next_file : (files : List PlannedFile) (i : ℕ) (f : PlannedFile) → i < length files → get_or files i f ≡ f → drop i files ≡ f ∷ drop (suc i) files
next_file [] i f within is = absurd (omega arith)
next_file (g ∷ files) zero f within is = λ k. is k ∷ files
next_file (g ∷ files) (suc i) f within is = next_file files i f (omega arith) is

-- the records taken so far
pub record SoFar (files : List PlannedFile) (bytes : List ℕ) (entries : List Rec) (done : ℕ) (rest : List ℕ) : Type 0 where
  pub counted : length entries ≡ done
  pub records : AreRecords 0 files entries
  pub is : bytes ≡ records_code entries ++ rest
  pub leads : Leads (RecordsFault 0 files) (RecordsFault done (drop done files)) bytes rest

pub none_taken : (files : List PlannedFile) (bytes : List ℕ) → SoFar files bytes [] 0 bytes
none_taken files bytes = record { counted = refl; records = records_none files; is = refl; leads = leads_start (RecordsFault 0 files) bytes }

-- a fault behind a record is one at its gate, so much further on
record_leads : (whole : List ℕ → ℕ → Type 0) (j : ℕ) (f : PlannedFile) (files : List PlannedFile) (bytes rest after : List ℕ) (r : Rec) (behind : List ℕ) → Leads whole (RecordsFault j (f ∷ files)) bytes rest → rest ≡ 1 ∷ after → Begins (IsRecord j f) record_code after r behind
    → Leads whole (RecordsFault (suc j) files) bytes behind
unfolding RecordsFault
record_leads whole j f files bytes rest after r behind leads opened begins = record {
  gap = leads.gap + (1 + length (record_code r));
  is = omega (arith, leads.is, ap length opened, ap length begins.is, length-append (record_code r) behind);
  on = λ later fault.
      let here : RecordsFault j (f ∷ files) (1 ∷ after) (1 + (length (record_code r) + later)) = (refl, (length (record_code r) + later, refl, inr (r, behind, later, begins, refl, fault))) in
      let e : leads.gap + (1 + (length (record_code r) + later)) ≡ leads.gap + (1 + length (record_code r)) + later = omega arith in
      subst (whole bytes) e (leads.on (1 + (length (record_code r) + later)) (subst (λ (l : List ℕ). RecordsFault j (f ∷ files) l (1 + (length (record_code r) + later))) (sym opened) here));
}

pub one_more : (files : List PlannedFile) (bytes : List ℕ) (entries : List Rec) (done : ℕ) (rest : List ℕ) (f : PlannedFile) (j : ℕ) (after : List ℕ) (r : Rec) (behind : List ℕ) → done < length files → get_or files done f ≡ f → j ≡ length entries → SoFar files bytes entries done rest
    → rest ≡ 1 ∷ after → Begins (IsRecord j f) record_code after r behind → SoFar files bytes (entries ++ r ∷ []) (done + 1) behind
one_more files bytes entries done rest f j after r behind within is at so opened begins =
    let next = next_file files done f within is in
    let numbered : j ≡ done = at ∙ so.counted in
    let stands = subst (λ (k : ℕ). Begins (IsRecord k f) record_code after r behind) numbered begins in
    let same : length entries ≡ done = so.counted in
    let here : drop (length entries) files ≡ f ∷ drop (suc done) files = ap (λ (n : ℕ). drop n files) same ∙ next in
    let zero_on : j ≡ 0 + length entries = omega (arith, at) in
    let leads = record_leads (RecordsFault 0 files) done f (drop (suc done) files) bytes rest after r behind (subst (λ (l : List PlannedFile). Leads (RecordsFault 0 files) (RecordsFault done l) bytes rest) next so.leads) opened stands in
    let step : suc done ≡ done + 1 = omega arith in
    record {
      counted = omega (arith, same, length-append entries (r ∷ []));
      records = records_push 0 files entries f (drop (suc done) files) r so.records here (subst (λ (k : ℕ). IsRecord k f r) zero_on begins.kept);
      is = so.is ∙ ap (λ (l : List ℕ). records_code entries ++ l) (opened ∙ ap (λ (l : List ℕ). 1 ∷ l) begins.is) ∙ sym (code_push entries r behind);
      leads = subst (λ (k : ℕ). Leads (RecordsFault 0 files) (RecordsFault k (drop k files)) bytes behind) step leads;
    }

-- a closed gate behind the records so far
pub taken_closed : (files : List PlannedFile) (bytes : List ℕ) (entries : List Rec) (done : ℕ) (rest : List ℕ) → SoFar files bytes entries done rest → IsClosed rest → RecordsTaken files bytes entries
taken_closed files bytes entries done rest so closed = record { records = so.records; rest = rest; is = so.is; closed = closed }

fails_at : (Wrong : ℕ → Type 0) (e : JournalError) (at : ℕ) → e ≡ NotAJournal at → Wrong at → FailsAt Wrong e
fails_at Wrong e at is wrong = subst (FailsAt Wrong) (sym is) wrong

behind_here : (files : List PlannedFile) (whole bytes : List ℕ) (rest : List ℕ) (next : List ℕ → ℕ → Type 0) → Leads (RecordsFault 0 files) next bytes rest → (n : ℕ) → next rest n → length bytes ≤ length whole → (at : ℕ) → at ≡ length whole - length rest + n → RecordsBehind whole files bytes at
behind_here files whole bytes rest next leads n fault within at is = record { later = leads.gap + n; at_is = omega (arith, leads.is, is); fault = leads.on n fault }

open_fault : (j : ℕ) (f : PlannedFile) (files : List PlannedFile) (rest place : List ℕ) → rest ≡ 1 ∷ place → BeginsNone (IsRecord j f) record_code place → RecordsFault j (f ∷ files) rest 1
unfolding RecordsFault
open_fault j f files rest place opened none = subst (λ (l : List ℕ). RecordsFault j (f ∷ files) l 1) (sym opened) (refl, (0, refl, inl (refl, none)))

no_gate : (j : ℕ) (files : List PlannedFile) (rest : List ℕ) → rest ≡ [] → RecordsFault j files rest 0
unfolding RecordsFault
no_gate j [] rest none = subst (λ (l : List ℕ). RecordsFault j [] l 0) (sym none) refl
no_gate j (f ∷ files) rest none = subst (λ (l : List ℕ). RecordsFault j (f ∷ files) l 0) (sym none) refl

-- the record of the next file does not stand there
pub broken : (files : List PlannedFile) (whole bytes : List ℕ) (entries : List Rec) (done : ℕ) (rest : List ℕ) (f : PlannedFile) (j : ℕ) (place : List ℕ) (e : JournalError) → length bytes ≤ length whole → done < length files → get_or files done f ≡ f → j ≡ length entries → SoFar files bytes entries done rest
    → ((rest ≡ []) × (place ≡ [])) ⊎ ((rest ≡ 1 ∷ place) × BeginsNone (IsRecord j f) record_code place) → e ≡ NotAJournal (length whole - length place) → FailsAt (RecordsBehind whole files bytes) e
broken files whole bytes entries done rest f j place e within more is at so (inl none) wrong =
    fails_at _ e _ wrong
    (behind_here files whole bytes rest (RecordsFault done (drop done files)) so.leads 0 (no_gate done (drop done files) rest none.0) within (length whole - length place) (let a = ap length none.0 in let b = ap length none.1 in omega (arith, a, b)))
broken files whole bytes entries done rest f j place e within more is at so (inr opened) wrong =
    let next = next_file files done f more is in
    let numbered : j ≡ done = at ∙ so.counted in
    let none = subst (λ (k : ℕ). BeginsNone (IsRecord k f) record_code place) numbered opened.1 in
    let leads = subst (λ (l : List PlannedFile). Leads (RecordsFault 0 files) (RecordsFault done l) bytes rest) next so.leads in
    fails_at _ e _ wrong
    (behind_here files whole bytes rest (RecordsFault done (f ∷ drop (suc done) files)) leads 1 (open_fault done f (drop (suc done) files) rest place opened.0 none) within (length whole - length place) (let a = ap length opened.0 in let b = so.leads.is in omega (arith, a, b)))

all_dropped : (files : List PlannedFile) (n : ℕ) → length files ≤ n → drop n files ≡ []
all_dropped [] zero short = refl
all_dropped [] (suc n) short = refl
all_dropped (f ∷ files) zero short = absurd (omega arith)
all_dropped (f ∷ files) (suc n) short = all_dropped files n (omega arith)

last_gate : (j : ℕ) (rest : List ℕ) → (IsClosed rest → ⊥) → RecordsFault j [] rest 0
unfolding RecordsFault
last_gate j [] not = refl
last_gate j (gate ∷ rest) not = elim (eqb_tells gate 1) [ inl is ↦ (is.1, refl) | inr differs ↦ absurd (not (gate, rest, refl, differs.1)) ]

-- no closed gate stands behind the records of all files
pub left_open : (files : List PlannedFile) (whole bytes : List ℕ) (entries : List Rec) (done : ℕ) (rest : List ℕ) (e : JournalError) → length bytes ≤ length whole → length files ≤ done → SoFar files bytes entries done rest → (IsClosed rest → ⊥) → e ≡ NotAJournal (length whole - length rest) → FailsAt (RecordsBehind whole files bytes) e
left_open files whole bytes entries done rest e within all so not wrong =
    let leads = subst (λ (l : List PlannedFile). Leads (RecordsFault 0 files) (RecordsFault done l) bytes rest) (all_dropped files done all) so.leads in
    fails_at _ e _ wrong (behind_here files whole bytes rest (RecordsFault done []) leads 0 (last_gate done rest not) within (length whole - length rest) (omega arith))

-- there are no more records than files
pub records_few : (j : ℕ) (files : List PlannedFile) (entries : List Rec) → AreRecords j files entries → length entries ≤ length files
unfolding AreRecords
records_few j files [] are = omega arith
records_few j [] (r ∷ entries) are = absurd are
records_few j (f ∷ files) (r ∷ entries) are = let rest = records_few (suc j) files entries are.1 in omega arith

pub records_length : (j : ℕ) (files : List PlannedFile) (entries : List Rec) → AreRecords j files entries → length (records_code entries) ≡ 65 * length entries
unfolding AreRecords
records_length j files [] are = omega arith
records_length j [] (r ∷ entries) are = absurd are
records_length j (f ∷ files) (r ∷ entries) are =
    let rest = records_length (suc j) files entries are.1 in
    let one = length-record r are.0.shape in
    omega (arith, rest, one, length-append (open_record r) (records_code entries))

-- a journal from its plan and its records
pub journal_holds : (bytes : List ℕ) (p : PlanValue) (used : ℕ) (files : List PlannedFile) (rest : List ℕ) (entries : List Rec) → PlanStands bytes p used → files ≡ p.files → rest ≡ drop used bytes → RecordsTaken files rest entries → HoldsJournal bytes p entries
journal_holds bytes p used files rest entries stands same is taken =
    let behind : rest ≡ stands.rest = is ∙ (λ i. drop (stands.used_is i) (stands.is i)) ∙ drop-append_seam (plan_code p) stands.rest in
    record {
      plan = stands.plan;
      records = subst (λ (l : List PlannedFile). AreRecords 0 l entries) same taken.records;
      gate = taken.closed.0;
      behind = taken.closed.1;
      is = stands.is ∙ ap (λ (l : List ℕ). plan_code p ++ l) (sym behind ∙ taken.is ∙ ap (λ (l : List ℕ). records_code entries ++ l) taken.closed.2) ∙ sym (append_assoc (plan_code p) (records_code entries) (taken.closed.0 ∷ taken.closed.1));
      closed = taken.closed.3;
    }

-- a fault of the records is one of the journal
pub journal_fails : (bytes : List ℕ) (p : PlanValue) (used : ℕ) (files : List PlannedFile) (rest : List ℕ) (e : JournalError) → PlanStands bytes p used → files ≡ p.files → rest ≡ drop used bytes → FailsAt (RecordsBehind bytes files rest) e → JournalFails bytes e
journal_fails bytes p used files rest Memory stands same is fails = tt
journal_fails bytes p used files rest (NotAJournal at) stands same is fails =
    let behind : rest ≡ stands.rest = is ∙ (λ i. drop (stands.used_is i) (stands.is i)) ∙ drop-append_seam (plan_code p) stands.rest in
    let long = ap length behind in
    let whole = ap length stands.is in
    let far = fails.at_is in
    let place : at ≡ length (plan_code p) + fails.later = omega (arith, far, long, whole, length-append (plan_code p) stands.rest) in
    let there : bytes ≡ plan_code p ++ rest = stands.is ∙ ap (λ (l : List ℕ). plan_code p ++ l) (sym behind) in
    inr (p, rest, fails.later, stands.plan, there, place, subst (λ (l : List PlannedFile). RecordsFault 0 l rest fails.later) same fails.fault)

-- a fault of the plan is one of the journal
pub plan_fails : (bytes : List ℕ) (e : PlanError) → Faults (λ at. PlanFault bytes at × IsNoPlan bytes) e → (f : JournalError) → f ≡ unread e → JournalFails bytes f
plan_fails bytes (NotAPlan at) faults f is = subst (JournalFails bytes) (sym is) (inl faults.0)
plan_fails bytes NoMemoryPlan faults f is = subst (JournalFails bytes) (sym is) tt

pub gate_place : (p : PlanValue) (used n : ℕ) (entries : List Rec) (gate : Gate) → used ≡ length (plan_code p) → n ≡ length entries → gate ≡ record { at = used + 65 * n; index = n } → gate ≡ next_gate p (length entries)
gate_place p used n entries gate a b is = is ∙ (λ i. record { at = a i + 65 * b i; index = b i })

-- the number of a Vec's elements is that of its list
pub items_counted : (v : Vec Rec Global) (n : ℕ) → n ≡ vec_len v → n ≡ length v.items
items_counted v n is = is ∙ v.ok.0

take_whole : (n : ℕ) (l : List ℕ) → length l ≤ n → take n l ≡ l
take_whole zero [] short = refl
take_whole zero (x ∷ l) short = absurd (omega arith)
take_whole (suc n) [] short = refl
take_whole (suc n) (x ∷ l) short = ap (λ (m : List ℕ). x ∷ m) (take_whole n l (omega arith))

-- a part up to the end of the bytes
pub rest_all : (bytes : List ℕ) (used : ℕ) → take (length bytes - used) (drop used bytes) ≡ drop used bytes
rest_all bytes used = take_whole (length bytes - used) (drop used bytes) (omega (arith, length-drop used bytes))
