-- The line of a loss among the calls of a run.
use Rattle.std.proofs.Common.{◌≡◌, ℕ, zero, suc, ◌+◌, true, List, [], ◌∷◌, ◌++◌, length, refl, sym, ap, ◌∙◌, subst, arith, append_assoc}
use Rattle.std.specs.Prelude.{codes, decimal, Contains, Some}
use Rattle.std.specs.List.{slice_get, AllByRecursion}
use Rattle.std.proofs.lemmas.Bool.Decides.{Decides-eqb}
use Rattle.std.proofs.lemmas.Slice.Eq.{starts_is}
use Rattle.bay_core.specs.declared.event.Event.{Event}
use Rattle.copy_plan.specs.Plan.{PlanValue}
use Rattle.copy_plan.specs.declared.file.PlannedFile.{PlannedFile}
use Rattle.drive_journal.specs.declared.record.Rec.{Rec}
use Rattle.drive_journal.specs.Journal.{AreRecords}
use Rattle.report_text.specs.Fields.{fields, triple_fields}
use Rattle.run_state.specs.Runs.{begins_with}
use Rattle.run_lines.specs.Words.{Loss, Fault, Absent, Length, Altered, Byte, Lost, mark_text}

-- ---- the line begins with its word and its drive

abbrev head : List ℕ → ℕ → List ℕ
head word d = (word ++ 32 ∷ decimal d) ++ 32 ∷ []

fields_behind : (word rest : List ℕ) (more : List (List ℕ)) → (end : List ℕ) × (fields (word ++ rest) more ≡ word ++ end)
fields_behind word rest [] = (rest, refl)
fields_behind word rest (field ∷ more) = let b = fields_behind word (rest ++ 32 ∷ field) more in (b.0, ap (λ (l : List ℕ). fields l more) (append_assoc word rest (32 ∷ field)) ∙ b.1)

text_is : (word : List ℕ) (d : ℕ) (field : List ℕ) (more : List (List ℕ)) → (end : List ℕ) × (fields word (decimal d ∷ field ∷ more) ≡ head word d ++ end)
text_is word d field more =
    let b = fields_behind (head word d) field more in
    (b.0, ap (λ (l : List ℕ). fields l more) (sym (append_assoc (word ++ 32 ∷ decimal d) (32 ∷ []) field)) ∙ b.1)

lost_is : (p : PlanValue) (d : ℕ) (loss : Loss) → (end : List ℕ) × (mark_text p d (Lost loss) ≡ head (codes "dropped") d ++ end)
lost_is p d Fault = text_is (codes "dropped") d (codes "fault") []
lost_is p d (Absent path) = text_is (codes "dropped") d (codes "absent") (path ∷ [])
lost_is p d (Length written read path) = text_is (codes "dropped") d (codes "length") (decimal written ∷ decimal read ∷ path ∷ [])
lost_is p d (Altered written read path) = text_is (codes "dropped") d (codes "altered") (triple_fields written ++ triple_fields read ++ path ∷ [])
lost_is p d (Byte at written read path) = text_is (codes "dropped") d (codes "byte") (decimal at ∷ decimal written ∷ decimal read ∷ path ∷ [])

pub lost_begins : (p : PlanValue) (d : ℕ) (loss : Loss) → begins_with (codes "dropped") d (mark_text p d (Lost loss)) ≡ true
lost_begins p d loss = let i = lost_is p d loss in (starts_is Decides-eqb (mark_text p d (Lost loss)) (head (codes "dropped") d) (begins_with (codes "dropped") d (mark_text p d (Lost loss))) refl).1 i.0 i.1

-- ---- places in lists

pub split_of : (L : List Event) (e : Event) → Contains L e → (before : List Event) × (after : List Event) × (L ≡ before ++ e ∷ after)
split_of [] e (k, low, is) = absurd (omega (arith, low))
split_of (x ∷ L) e (zero, low, is) = ([], L, ap (λ (y : Event). y ∷ L) is)
split_of (x ∷ L) e (suc k, low, is) = let r = split_of L e (k, omega (arith, low), is) in (x ∷ r.0, r.1, ap (λ (l : List Event). x ∷ l) r.2)

pub each_at : {A : Type 0} (P : A → Type 0) (xs : List A) (i : ℕ) (x : A) → AllByRecursion P xs → slice_get xs i ≡ Some x → P x
each_at P [] i x all is = absurd (cc is)
each_at P (y ∷ xs) zero x all is = let same : y ≡ x = cc is in subst P same all.0
each_at P (y ∷ xs) (suc i) x all is = each_at P xs i x all.1 is

-- the record with number i is that of file i
pub record_at : (j : ℕ) (files : List PlannedFile) (recs : List Rec) (i : ℕ) (rec : Rec) → AreRecords j files recs → slice_get recs i ≡ Some rec → rec.index ≡ j + i
unfolding AreRecords
record_at j files [] i rec are is = absurd (cc is)
record_at j [] (r ∷ recs) i rec are is = absurd are
record_at j (f ∷ files) (r ∷ recs) zero rec are is = let same : r ≡ rec = cc is in let index = are.0.index in ap (λ (x : Rec). x.index) (sym same) ∙ omega (arith, index)
record_at j (f ∷ files) (r ∷ recs) (suc i) rec are is = let rest = record_at (suc j) files recs i rec are.1 is in omega (arith, rest)
