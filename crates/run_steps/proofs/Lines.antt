-- The lines that announce nothing for a drive.
use Rattle.std.proofs.Common.{◌≡◌, ◌≢◌, ℕ, ◌^◌, ◌<◌, ◌+◌, Bool, true, false, List, [], ◌∷◌, ◌++◌, length, refl, sym, ap, ◌∙◌, arith, append_assoc}
use Rattle.std.specs.Prelude.{codes, decimal, ◌||◌, Result, Ok, Err, get_or}
use Rattle.std.proofs.lemmas.Bool.{false≢true}
use Rattle.std.proofs.lemmas.Slice.Eq.{starts_is}
use Rattle.std.proofs.lemmas.Bool.Decides.{Decides-eqb}
use Rattle.copy_plan.specs.Plan.{PlanValue, list_of}
use Rattle.drive_journal.specs.declared.record.Gate.{Gate}
use Rattle.drive_journal.specs.declared.record.Rec.{Rec}
use Rattle.offload_law.specs.Lines.{announces}
use Rattle.offload_law.proofs.Said.{announces_none, begun_elsewhere, done_elsewhere, sealed_elsewhere}
use Rattle.read_back.specs.declared.back.ReadBackError.{ReadBackError}
use Rattle.read_back.specs.declared.back.ReadBackError.TheVariants.{DriveFailed, Absent, Length, Differs}
use Rattle.seal_step.specs.declared.error.SealError.{SealError}
use Rattle.seal_step.specs.declared.error.SealError.TheVariants.{DriveFailed as SealFailed, Absent as ListAbsent, Byte as ListByte, Length as ListLength}
use Rattle.report_text.specs.Fields.{fields, triple_fields}
use Rattle.report_text.specs.Run.{sealed_text}
use Rattle.report_text.specs.Losses.{dropped_fault_text, dropped_absent_text, dropped_length_text, dropped_altered_text, dropped_byte_text}
use Rattle.run_state.specs.Acts.{begin_line, record_line, seal_line}
use Rattle.run_state.specs.Runs.{begins_with, is_about}
use Rattle.run_state.proofs.Lines.{fields_behind}

-- ---- a line whose first word is `dropped`

-- what follows the first word
abbrev is_dropped : List ℕ → Type 0
is_dropped line = (rest : List ℕ) × (line ≡ codes "dropped" ++ rest)

dropped_word : (more : List (List ℕ)) → is_dropped (fields (codes "dropped") more)
dropped_word more = fields_behind (codes "dropped") [] more

abbrev first : List ℕ → ℕ
first line = get_or line 0 0

abbrev second : List ℕ → ℕ
second line = get_or line 1 0

dropped_none : (d n : ℕ) (line : List ℕ) → is_dropped line → announces d n line ≡ 0
dropped_none d n line (rest, is) =
    announces_none d n line
    (λ k m same. let bytes : 100 ≡ 98 = ap first (sym is ∙ same) in absurd (omega (arith, bytes)))
    (λ k m path same. let bytes : 114 ≡ 111 = ap second (sym is ∙ same) in absurd (omega (arith, bytes)))
    (λ m list same. let bytes : 100 ≡ 115 = ap first (sym is ∙ same) in absurd (omega (arith, bytes)))

pub fault_none : (d n e : ℕ) → announces d n (dropped_fault_text e) ≡ 0
fault_none d n e = dropped_none d n (dropped_fault_text e) (dropped_word (decimal e ∷ codes "fault" ∷ []))

-- ---- the lines of another drive

module _ (d e n : ℕ) (low : d < 2 ^ 64) (also_low : e < 2 ^ 64) (others : d ≢ e) where
  pub begin_elsewhere : (records files : ℕ) (ok : Bool) → announces d n (begin_line e records files ok) ≡ 0
  begin_elsewhere records files true = begun_elsewhere d e n low also_low others records files
  begin_elsewhere records files false = fault_none d n e

  pub sealing_elsewhere : (files : ℕ) (list : List ℕ) → announces d n (sealed_text e files list) ≡ 0
  sealing_elsewhere files list = sealed_elsewhere d e n low also_low others files list

-- ---- the lines of a drive that was lost

pub record_lost : (d n e files : ℕ) (path : List ℕ) (rec : Rec) (x : ReadBackError) → announces d n (record_line e files path rec (Err x)) ≡ 0
record_lost d n e files path rec DriveFailed = fault_none d n e
record_lost d n e files path rec Absent = dropped_none d n (dropped_absent_text e path) (dropped_word (decimal e ∷ codes "absent" ∷ path ∷ []))
record_lost d n e files path rec (Length recorded read) = dropped_none d n (dropped_length_text e recorded read path) (dropped_word (decimal e ∷ codes "length" ∷ decimal recorded ∷ decimal read ∷ path ∷ []))
record_lost d n e files path rec (Differs recorded read) = dropped_none d n (dropped_altered_text e recorded read path) (dropped_word (decimal e ∷ codes "altered" ∷ triple_fields recorded ++ triple_fields read ++ path ∷ []))

pub seal_lost : (d n e : ℕ) (p : PlanValue) (x : SealError) → announces d n (seal_line e p (Err x)) ≡ 0
seal_lost d n e p SealFailed = fault_none d n e
seal_lost d n e p ListAbsent = dropped_none d n (dropped_absent_text e (list_of p)) (dropped_word (decimal e ∷ codes "absent" ∷ list_of p ∷ []))
seal_lost d n e p (ListByte at written read) = dropped_none d n (dropped_byte_text e at written read (list_of p)) (dropped_word (decimal e ∷ codes "byte" ∷ decimal at ∷ decimal written ∷ decimal read ∷ list_of p ∷ []))
seal_lost d n e p (ListLength written read) = dropped_none d n (dropped_length_text e written read (list_of p)) (dropped_word (decimal e ∷ codes "length" ∷ decimal written ∷ decimal read ∷ list_of p ∷ []))

module _ (d e n : ℕ) (low : d < 2 ^ 64) (also_low : e < 2 ^ 64) (others : d ≢ e) where
  pub record_elsewhere : (files : ℕ) (path : List ℕ) (rec : Rec) (came : Result Gate ReadBackError) → announces d n (record_line e files path rec came) ≡ 0
  record_elsewhere files path rec (Ok next) = done_elsewhere d e n low also_low others (rec.index + 1) files path
  record_elsewhere files path rec (Err x) = record_lost d n e files path rec x

  pub seal_elsewhere : (p : PlanValue) (came : Result Unit SealError) → announces d n (seal_line e p came) ≡ 0
  seal_elsewhere p (Ok done) = sealed_elsewhere d e n low also_low others (length p.files) (list_of p)
  seal_elsewhere p (Err x) = seal_lost d n e p x

-- ---- lines about no drive of the run

begins : (word rest : List ℕ) (k : ℕ) (line : List ℕ) → line ≡ word ++ 32 ∷ (decimal k ++ 32 ∷ rest) → begins_with word k line ≡ true
begins word rest k line is = (starts_is Decides-eqb line ((word ++ 32 ∷ decimal k) ++ 32 ∷ []) (begins_with word k line) refl).1 rest (is ∙ regroup)
  where
    regroup : word ++ 32 ∷ (decimal k ++ 32 ∷ rest) ≡ ((word ++ 32 ∷ decimal k) ++ 32 ∷ []) ++ rest
    regroup = sym (append_assoc (word ++ 32 ∷ decimal k) (32 ∷ []) rest ∙ append_assoc word (32 ∷ decimal k) (32 ∷ rest))

first_off : (a b : Bool) → (a || b) ≡ false → a ≡ true → ⊥
first_off true b off on = false≢true (sym off)
first_off false b off on = false≢true on

rest_off : (a b : Bool) → (a || b) ≡ false → b ≡ false
rest_off true b off = absurd (false≢true (sym off))
rest_off false b off = off

-- the fields of a line behind its second one
four_fields : (w a b c : List ℕ) → ((w ++ 32 ∷ a) ++ 32 ∷ b) ++ 32 ∷ c ≡ w ++ 32 ∷ (a ++ 32 ∷ (b ++ 32 ∷ c))
four_fields w a b c = append_assoc (w ++ 32 ∷ a) (32 ∷ b) (32 ∷ c) ∙ append_assoc w (32 ∷ a) (32 ∷ (b ++ 32 ∷ c))

pub about_none : (k n : ℕ) (line : List ℕ) → is_about k line ≡ false → announces k n line ≡ 0
about_none k n line off =
    let b = begins_with (codes "begun") k line in
    let o = begins_with (codes "done") k line in
    let s = begins_with (codes "sealed") k line in
    let r = begins_with (codes "dropped") k line in
    let two = rest_off b (o || (s || r)) off in
    let three = rest_off o (s || r) two in
    announces_none k n line
    (λ a m is. first_off b (o || (s || r)) off (begins (codes "begun") (decimal a ++ 32 ∷ decimal m) k line (is ∙ four_fields (codes "begun") (decimal k) (decimal a) (decimal m))))
    (λ a m path is. first_off o (s || r) two (begins (codes "done") (decimal a ++ 32 ∷ (decimal m ++ 32 ∷ path)) k line
    (is ∙ append_assoc ((codes "done" ++ 32 ∷ decimal k) ++ 32 ∷ decimal a) (32 ∷ decimal m) (32 ∷ path) ∙ four_fields (codes "done") (decimal k) (decimal a) (decimal m ++ 32 ∷ path))))
    (λ m list is. first_off s r three (begins (codes "sealed") (decimal m ++ 32 ∷ list) k line (is ∙ four_fields (codes "sealed") (decimal k) (decimal m) list)))
