-- The lines of a run among its calls.
use Rattle.std.proofs.Common.{◌≡◌, ◌⊎◌, inl, inr, ℕ, ◌^◌, ◌<◌, Bool, true, false, List, [], ◌∷◌, ◌++◌, length, take, drop, refl, sym, ap, ◌∙◌, append_assoc}
use Rattle.std.specs.Prelude.{codes, decimal, ◌||◌, Err}
use Rattle.std.specs.List.{before_first}
use Rattle.std.specs.Cmp.Lexicographic.{same_text}
use Rattle.std.proofs.lemmas.Bool.{false≢true}
use Rattle.std.proofs.lemmas.Fmt.{decimal_injective}
use Rattle.std.proofs.lemmas.List.{append_cancel_left, take-append-drop}
use Rattle.bay_core.specs.declared.event.Event.{Event}
use Rattle.bay_core.specs.declared.event.Event.TheVariants.{Say}
use Rattle.bay_core.specs.Replay.{Device, Output}
use Rattle.bay_core.specs.Went.{AllOn, Ran, say_call}
use Rattle.copy_plan.specs.Plan.{PlanValue}
use Rattle.drive_journal.specs.declared.record.Rec.{Rec}
use Rattle.offload_law.specs.Lines.{is_space}
use Rattle.offload_law.proofs.Fields.{decimal_no_space, field_before}
use Rattle.read_back.specs.declared.back.ReadBackError.{ReadBackError}
use Rattle.read_back.specs.declared.back.ReadBackError.TheVariants.{DriveFailed as BackFailed, Absent as BackAbsent, Length as BackLength, Differs}
use Rattle.report_text.specs.Run.{done_text, sealed_text, clear_text}
use Rattle.report_text.specs.Losses.{dropped_fault_text}
use Rattle.seal_step.specs.declared.error.SealError.{SealError}
use Rattle.seal_step.specs.declared.error.SealError.TheVariants.{DriveFailed as SealFailed, Absent as ListAbsent, Byte as ListByte, Length as ListLength}
use Rattle.run_state.specs.Acts.{begin_line, record_line, seal_line}
use Rattle.run_state.specs.Runs.{begins_with, is_about, IsAboutNone, AreBeside}
use Rattle.run_state.specs.State.{Drives, Ordered}

-- ---- words

-- the line of neither a recorded file nor a sealed drive
pub record IsOther (line : List ℕ) : Type 0 where
  pub not_done : (e : ℕ) → begins_with (codes "done") e line ≡ false
  pub not_sealed : (e : ℕ) → begins_with (codes "sealed") e line ≡ false

pub begin_other : (d records n : ℕ) (ok : Bool) → IsOther (begin_line d records n ok)
begin_other d records n true = record { not_done = λ e. refl; not_sealed = λ e. refl }
begin_other d records n false = record { not_done = λ e. refl; not_sealed = λ e. refl }

pub fault_other : (d : ℕ) → IsOther (dropped_fault_text d)
fault_other d = record { not_done = λ e. refl; not_sealed = λ e. refl }

pub record_other : (d n : ℕ) (path : List ℕ) (rec : Rec) (y : ReadBackError) → IsOther (record_line d n path rec (Err y))
record_other d n path rec BackFailed = record { not_done = λ e. refl; not_sealed = λ e. refl }
record_other d n path rec BackAbsent = record { not_done = λ e. refl; not_sealed = λ e. refl }
record_other d n path rec (BackLength recorded read) = record { not_done = λ e. refl; not_sealed = λ e. refl }
record_other d n path rec (Differs recorded read) = record { not_done = λ e. refl; not_sealed = λ e. refl }

pub seal_other : (d : ℕ) (p : PlanValue) (y : SealError) → IsOther (seal_line d p (Err y))
seal_other d p SealFailed = record { not_done = λ e. refl; not_sealed = λ e. refl }
seal_other d p ListAbsent = record { not_done = λ e. refl; not_sealed = λ e. refl }
seal_other d p (ListByte at written read) = record { not_done = λ e. refl; not_sealed = λ e. refl }
seal_other d p (ListLength written read) = record { not_done = λ e. refl; not_sealed = λ e. refl }

pub clear_other : (sealed required : ℕ) → IsOther (clear_text sealed required)
clear_other sealed required = record { not_done = λ e. refl; not_sealed = λ e. refl }

pub done_not_sealed : (e d k n : ℕ) (path : List ℕ) → begins_with (codes "sealed") e (done_text d k n path) ≡ false
done_not_sealed e d k n path = refl

pub sealed_not_done : (e d n : ℕ) (list : List ℕ) → begins_with (codes "done") e (sealed_text d n list) ≡ false
sealed_not_done e d n list = refl

-- ---- whose line it is

abbrev of_drive : List ℕ → ℕ → List ℕ → List ℕ
of_drive word d rest = word ++ 32 ∷ (decimal d ++ 32 ∷ rest)

regroup : (w a b c : List ℕ) → ((w ++ 32 ∷ a) ++ 32 ∷ b) ++ 32 ∷ c ≡ w ++ 32 ∷ (a ++ 32 ∷ (b ++ 32 ∷ c))
regroup w a b c = append_assoc (w ++ 32 ∷ a) (32 ∷ b) (32 ∷ c) ∙ append_assoc w (32 ∷ a) (32 ∷ (b ++ 32 ∷ c))

one_drive : (word : List ℕ) (d e : ℕ) (r s : List ℕ) → d < 2 ^ 64 → e < 2 ^ 64 → of_drive word d r ≡ of_drive word e s → d ≡ e
one_drive word d e r s x y same =
    let fields : 32 ∷ (decimal d ++ 32 ∷ r) ≡ 32 ∷ (decimal e ++ 32 ∷ s) = append_cancel_left word _ _ same in
    let ds = field_before (decimal d) r (decimal_no_space d) in
    let es = field_before (decimal e) s (decimal_no_space e) in
    decimal_injective d e x y (sym ds ∙ ap (λ (l : List ℕ). before_first is_space (drop 1 l)) fields ∙ es)

-- a line that begins with a word and a drive's number is of that drive
begins_of : (word : List ℕ) (d e : ℕ) (line rest : List ℕ) → d < 2 ^ 64 → e < 2 ^ 64 → line ≡ of_drive word d rest → begins_with word e line ≡ true → d ≡ e
begins_of word d e line rest low also is begins =
    let needle : List ℕ = (word ++ 32 ∷ decimal e) ++ 32 ∷ [] in
    let front : needle ≡ take (length needle) line = same_text needle (take (length needle) line) (sym begins) in
    let tail : List ℕ = drop (length needle) line in
    let whole : line ≡ needle ++ tail = sym (take-append-drop (length needle) line) ∙ ap (λ (l : List ℕ). l ++ tail) (sym front) in
    let grouped : needle ++ tail ≡ of_drive word e tail = append_assoc (word ++ 32 ∷ decimal e) (32 ∷ []) tail ∙ append_assoc word (32 ∷ decimal e) (32 ∷ tail) in
    one_drive word d e rest tail low also (sym is ∙ whole ∙ grouped)

pub done_of : (d e k n : ℕ) (path : List ℕ) → d < 2 ^ 64 → e < 2 ^ 64 → begins_with (codes "done") e (done_text d k n path) ≡ true → d ≡ e
done_of d e k n path low also begins =
    let is = append_assoc ((codes "done" ++ 32 ∷ decimal d) ++ 32 ∷ decimal k) (32 ∷ decimal n) (32 ∷ path) ∙ regroup (codes "done") (decimal d) (decimal k) (decimal n ++ 32 ∷ path) in
    begins_of (codes "done") d e (done_text d k n path) (decimal k ++ 32 ∷ (decimal n ++ 32 ∷ path)) low also is begins

pub sealed_of : (d e n : ℕ) (list : List ℕ) → d < 2 ^ 64 → e < 2 ^ 64 → begins_with (codes "sealed") e (sealed_text d n list) ≡ true → d ≡ e
sealed_of d e n list low also begins = begins_of (codes "sealed") d e (sealed_text d n list) (decimal n ++ 32 ∷ list) low also (regroup (codes "sealed") (decimal d) (decimal n) list) begins

-- a line about none of these drives
second_or : (a b : Bool) → b ≡ true → (a || b) ≡ true
second_or true b is = refl
second_or false b is = is

first_or : (a b : Bool) → a ≡ true → (a || b) ≡ true
first_or true b is = refl
first_or false b is = absurd (false≢true is)

pub about_done : (e : ℕ) (line : List ℕ) → begins_with (codes "done") e line ≡ true → is_about e line ≡ true
about_done e line is = second_or (begins_with (codes "begun") e line) _ (first_or (begins_with (codes "done") e line) _ is)

pub about_sealed : (e : ℕ) (line : List ℕ) → begins_with (codes "sealed") e line ≡ true → is_about e line ≡ true
about_sealed e line is = second_or (begins_with (codes "begun") e line) _ (second_or (begins_with (codes "done") e line) _ (first_or (begins_with (codes "sealed") e line) _ is))

-- ---- lists

-- an item of two lists is in the first or the second
pub split_at : (A B before after : List Event) (e : Event) → A ++ B ≡ before ++ e ∷ after → ((rest : List Event) × (A ≡ before ++ e ∷ rest)) ⊎ ((first : List Event) × (before ≡ A ++ first) × (B ≡ first ++ e ∷ after))
split_at [] B before after e is = inr (before, refl, is)
split_at (x ∷ A) B [] after e is = let head : x ≡ e = cc is in inl (A, ap (λ (y : Event). y ∷ A) head)
split_at (x ∷ A) B (y ∷ before) after e is =
    let head : x ≡ y = cc is in
    let rest : A ++ B ≡ before ++ e ∷ after = cc is in
    elim (split_at A B before after e rest) [
      | inl found ↦ inl (found.0, ap (λ (z : Event). z ∷ A) head ∙ ap (λ (l : List Event). y ∷ l) found.1)
      | inr found ↦ inr (found.0, ap (λ (z : Event). z ∷ before) (sym head) ∙ ap (λ (l : List Event). x ∷ l) found.1, found.2)
    ]

-- calls that are not on the output have no line among them
pub no_say : (On : Device → Type 0) → ((y : Device) → On y → y ≡ Output → ⊥) → (front after : List Event) (line : List ℕ) (ok : Bool) → AllOn On (front ++ Say line ok ∷ after) → ⊥
unfolding AllOn
no_say On off [] after line ok on = off Output on.0 refl
no_say On off (e ∷ front) after line ok on = no_say On off front after line ok on.1

-- the line of others is about none of the drives
pub line_beside : (o : Ordered) (drives : Drives) (front after : List Event) (line : List ℕ) (ok : Bool) → AreBeside o drives (front ++ Say line ok ∷ after) → IsAboutNone drives line
unfolding AreBeside
line_beside o drives [] after line ok are = are.0
line_beside o drives (e ∷ front) after line ok are = line_beside o drives front after line ok are.1

-- one call of the output
pub one_say : (line : List ℕ) (ok : Bool) (L : List Event) → Ran (say_call line ∷ []) ok L → (front after : List Event) (said : List ℕ) (how : Bool) → L ≡ front ++ Say said how ∷ after → (front ≡ []) × (said ≡ line)
unfolding Ran
one_say line true L (rest, is, none) front after said how at = by front (sym at ∙ is ∙ ap (λ (l : List Event). Say line true ∷ l) none)
  where
    by : (front : List Event) → front ++ Say said how ∷ after ≡ Say line true ∷ [] → (front ≡ []) × (said ≡ line)
    by [] e = (refl, cc e)
    by (x ∷ []) e = absurd (cc e)
    by (x ∷ (y ∷ front)) e = absurd (cc e)
one_say line false L (inl none) front after said how at = absurd (by front (sym none ∙ at))
  where
    by : (front : List Event) → [] ≡ front ++ Say said how ∷ after → ⊥
    by [] e = absurd (cc e)
    by (x ∷ front) e = absurd (cc e)
one_say line false L (inr (inl one)) front after said how at = by front (sym at ∙ one)
  where
    by : (front : List Event) → front ++ Say said how ∷ after ≡ Say line false ∷ [] → (front ≡ []) × (said ≡ line)
    by [] e = (refl, cc e)
    by (x ∷ []) e = absurd (cc e)
    by (x ∷ (y ∷ front)) e = absurd (cc e)
one_say line false L (inr (inr (rest, is, more))) front after said how at = absurd more
