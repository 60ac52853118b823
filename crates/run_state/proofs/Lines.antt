-- About which drive a line of a run is.
use Rattle.std.proofs.Common.{◌≡◌, ◌≢◌, inl, inr, ℕ, ◌+◌, ◌^◌, ◌<◌, Bool, true, false, List, [], ◌∷◌, ◌++◌, length, drop, refl, sym, ap, ◌∙◌, append_assoc}
use Rattle.std.specs.Prelude.{codes, decimal, ◌||◌, Result, Ok, Err}
use Rattle.std.specs.List.{before_first}
use Rattle.std.proofs.lemmas.Bool.{cases_Bool}
use Rattle.std.proofs.lemmas.Bool.Decides.{Decides-eqb}
use Rattle.std.proofs.lemmas.Fmt.{decimal_injective}
use Rattle.std.proofs.lemmas.List.{append_cancel_left}
use Rattle.std.proofs.lemmas.Slice.Eq.{starts_is}
use Rattle.copy_plan.specs.Plan.{PlanValue, list_of}
use Rattle.drive_journal.specs.declared.record.Gate.{Gate}
use Rattle.drive_journal.specs.declared.record.Rec.{Rec}
use Rattle.offload_law.specs.Lines.{is_space}
use Rattle.offload_law.proofs.Fields.{decimal_no_space, field_before}
use Rattle.read_back.specs.declared.back.ReadBackError.{ReadBackError}
use Rattle.read_back.specs.declared.back.ReadBackError.TheVariants.{DriveFailed, Absent, Length, Differs}
use Rattle.report_text.specs.Fields.{fields, triple_fields}
use Rattle.report_text.specs.Run.{sealed_text, clear_text}
use Rattle.report_text.specs.Losses.{dropped_fault_text}
use Rattle.seal_step.specs.declared.error.SealError.{SealError}
use Rattle.seal_step.specs.declared.error.SealError.TheVariants.{DriveFailed as SealFailed, Absent as ListAbsent, Byte as ListByte, Length as ListLength}
use Rattle.run_state.specs.Acts.{begin_line, record_line, seal_line}
use Rattle.run_state.specs.Runs.{begins_with, is_about}

-- ---- fields

-- what stands behind the first field
pub fields_behind : (word rest : List ℕ) (more : List (List ℕ)) → (end : List ℕ) × (fields (word ++ rest) more ≡ word ++ end)
fields_behind word rest [] = (rest, refl)
fields_behind word rest (field ∷ more) = let b = fields_behind word (rest ++ 32 ∷ field) more in (b.0, ap (λ (l : List ℕ). fields l more) (append_assoc word rest (32 ∷ field)) ∙ b.1)

-- a text that begins with this word and the number of drive d
abbrev of_drive : List ℕ → ℕ → List ℕ → List ℕ
of_drive word d rest = ((word ++ 32 ∷ decimal d) ++ 32 ∷ []) ++ rest

of_fields : (word : List ℕ) (d : ℕ) (field : List ℕ) (more : List (List ℕ)) → (rest : List ℕ) × (fields word (decimal d ∷ field ∷ more) ≡ of_drive word d rest)
of_fields word d field more =
    let front : List ℕ = word ++ 32 ∷ decimal d in
    let b = fields_behind (front ++ 32 ∷ []) field more in
    (b.0, ap (λ (l : List ℕ). fields l more) (sym (append_assoc front (32 ∷ []) field)) ∙ b.1)

regroup : (word : List ℕ) (d : ℕ) (rest : List ℕ) → of_drive word d rest ≡ word ++ 32 ∷ (decimal d ++ 32 ∷ rest)
regroup word d rest = append_assoc (word ++ 32 ∷ decimal d) (32 ∷ []) rest ∙ append_assoc word (32 ∷ decimal d) (32 ∷ rest)

one_drive : (word : List ℕ) (d e : ℕ) (r s : List ℕ) → d < 2 ^ 64 → e < 2 ^ 64 → of_drive word d r ≡ of_drive word e s → d ≡ e
one_drive word d e r s x y same =
    let behind : 32 ∷ (decimal d ++ 32 ∷ r) ≡ 32 ∷ (decimal e ++ 32 ∷ s) = append_cancel_left word _ _ (sym (regroup word d r) ∙ same ∙ regroup word e s) in
    let ds = field_before (decimal d) r (decimal_no_space d) in
    let es = field_before (decimal e) s (decimal_no_space e) in
    decimal_injective d e x y (sym ds ∙ ap (λ (l : List ℕ). before_first is_space (drop 1 l)) behind ∙ es)

none_of : {a b c e : Bool} → a ≡ false → b ≡ false → c ≡ false → e ≡ false → (a || (b || (c || e))) ≡ false
none_of begun done sealed dropped = λ i. begun i || (done i || (sealed i || dropped i))

-- ---- a line of drive e is about no other

module _ (d e : ℕ) (low : d < 2 ^ 64) (also_low : e < 2 ^ 64) (others : d ≢ e) where
  not_begun_with : (word line rest : List ℕ) → line ≡ of_drive word e rest → begins_with word d line ≡ false
  not_begun_with word line rest is = elim (cases_Bool (begins_with word d line)) [
    | inl begins ↦
        let front : List ℕ = (word ++ 32 ∷ decimal d) ++ 32 ∷ [] in
        let whole = (starts_is Decides-eqb line front (begins_with word d line) refl).0 begins in
        absurd (others (one_drive word d e (drop (length front) line) rest low also_low (sym whole ∙ is)))
    | inr not_so ↦ not_so
  ]

  off_begun : (line rest : List ℕ) → line ≡ of_drive (codes "begun") e rest → is_about d line ≡ false
  off_begun line rest is = none_of (not_begun_with (codes "begun") line rest is) (ap (begins_with (codes "done") d) is) (ap (begins_with (codes "sealed") d) is) (ap (begins_with (codes "dropped") d) is)

  off_done : (line rest : List ℕ) → line ≡ of_drive (codes "done") e rest → is_about d line ≡ false
  off_done line rest is = none_of (ap (begins_with (codes "begun") d) is) (not_begun_with (codes "done") line rest is) (ap (begins_with (codes "sealed") d) is) (ap (begins_with (codes "dropped") d) is)

  off_sealed : (line rest : List ℕ) → line ≡ of_drive (codes "sealed") e rest → is_about d line ≡ false
  off_sealed line rest is = none_of (ap (begins_with (codes "begun") d) is) (ap (begins_with (codes "done") d) is) (not_begun_with (codes "sealed") line rest is) (ap (begins_with (codes "dropped") d) is)

  off_dropped : (field : List ℕ) (more : List (List ℕ)) → is_about d (fields (codes "dropped") (decimal e ∷ field ∷ more)) ≡ false
  off_dropped field more =
      let line = fields (codes "dropped") (decimal e ∷ field ∷ more) in
      let b = of_fields (codes "dropped") e field more in
      none_of (ap (begins_with (codes "begun") d) b.1) (ap (begins_with (codes "done") d) b.1) (ap (begins_with (codes "sealed") d) b.1) (not_begun_with (codes "dropped") line b.0 b.1)

  pub fault_off : is_about d (dropped_fault_text e) ≡ false
  fault_off = off_dropped (codes "fault") []

  pub begin_off : (records files : ℕ) (ok : Bool) → is_about d (begin_line e records files ok) ≡ false
  begin_off records files true = let b = of_fields (codes "begun") e (decimal records) (decimal files ∷ []) in off_begun (begin_line e records files true) b.0 b.1
  begin_off records files false = fault_off

  pub record_off : (files : ℕ) (path : List ℕ) (rec : Rec) (came : Result Gate ReadBackError) → is_about d (record_line e files path rec came) ≡ false
  record_off files path rec (Ok next) = let b = of_fields (codes "done") e (decimal (rec.index + 1)) (decimal files ∷ path ∷ []) in off_done (record_line e files path rec (Ok next)) b.0 b.1
  record_off files path rec (Err DriveFailed) = fault_off
  record_off files path rec (Err Absent) = off_dropped (codes "absent") (path ∷ [])
  record_off files path rec (Err (Length recorded read)) = off_dropped (codes "length") (decimal recorded ∷ decimal read ∷ path ∷ [])
  record_off files path rec (Err (Differs recorded read)) = off_dropped (codes "altered") (triple_fields recorded ++ triple_fields read ++ path ∷ [])

  pub sealed_off : (files : ℕ) (list : List ℕ) → is_about d (sealed_text e files list) ≡ false
  sealed_off files list = let b = of_fields (codes "sealed") e (decimal files) (list ∷ []) in off_sealed (sealed_text e files list) b.0 b.1

  pub seal_off : (p : PlanValue) (came : Result Unit SealError) → is_about d (seal_line e p came) ≡ false
  seal_off p (Ok done) = sealed_off (length p.files) (list_of p)
  seal_off p (Err SealFailed) = fault_off
  seal_off p (Err ListAbsent) = off_dropped (codes "absent") (list_of p ∷ [])
  seal_off p (Err (ListByte at written read)) = off_dropped (codes "byte") (decimal at ∷ decimal written ∷ decimal read ∷ list_of p ∷ [])
  seal_off p (Err (ListLength written read)) = off_dropped (codes "length") (decimal written ∷ decimal read ∷ list_of p ∷ [])

-- the line `clear` is about none
pub clear_off : (d sealed required : ℕ) → is_about d (clear_text sealed required) ≡ false
clear_off d sealed required = refl
