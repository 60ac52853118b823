-- The texts of the lines of a run: whose line one is, and which numbers stand in it.
use Rattle.std.proofs.Common.{◌≡◌, ◌≢◌, inl, inr, ℕ, zero, suc, ◌/◌, ◌%◌, ◌<◌, ◌≤◌, Bool, true, false, List, [], ◌∷◌, ◌++◌, length, get_or, drop, refl, sym, ap, ◌∙◌, subst, arith, append_assoc}
use Rattle.std.specs.Prelude.{codes, decimal, ◌||◌, ◌==◌}
use Rattle.std.specs.Fmt.{digits, digits_onto, digit_glyph}
use Rattle.std.specs.List.{before_first, after_first}
use Rattle.std.proofs.lemmas.Bool.{cases_Bool, cond_both, false≢true}
use Rattle.std.proofs.lemmas.Bool.Decides.{Decides-eqb}
use Rattle.std.proofs.lemmas.Fmt.{decimal_injective, length-decimal-le}
use Rattle.std.proofs.lemmas.List.{append_cancel_left}
use Rattle.std.proofs.lemmas.Slice.Eq.{starts_is}
use Rattle.copy_plan.specs.Plan.{PlanValue}
use Rattle.offload_law.specs.Lines.{is_space}
use Rattle.offload_law.proofs.Fields.{decimal_no_space, field_before, field_after}
use Rattle.report_text.specs.Fields.{fields, triple_fields}
use Rattle.report_text.specs.Run.{sealed_text, clear_text}
use Rattle.run_state.specs.Runs.{begins_with, is_about}
use Rattle.run_lines.specs.Words.{Loss, Fault, Absent, Length, Altered, Byte, Mark, Begun, Done, Sealed, Lost, loss_text, mark_text, is_seal}

-- ---- numbers of one digit

onto_more : (k n : ℕ) (behind : List ℕ) → length behind ≤ length (digits_onto k 10 false n behind)
onto_more zero n behind = omega arith
onto_more (suc k) n behind =
    cond_both (n / 10 == 0) (digit_glyph false (n % 10) ∷ behind) (digits_onto k 10 false (n / 10) (digit_glyph false (n % 10) ∷ behind)) (λ (ds : List ℕ). length behind ≤ length ds)
    (λ last. omega arith)
    (λ more. omega (arith, onto_more k (n / 10) (digit_glyph false (n % 10) ∷ behind)))

onto_one : (k n : ℕ) (behind : List ℕ) → length behind < length (digits_onto (suc k) 10 false n behind)
onto_one k n behind =
    cond_both (n / 10 == 0) (digit_glyph false (n % 10) ∷ behind) (digits_onto k 10 false (n / 10) (digit_glyph false (n % 10) ∷ behind)) (λ (ds : List ℕ). length behind < length ds)
    (λ last. omega arith)
    (λ more. omega (arith, onto_more k (n / 10) (digit_glyph false (n % 10) ∷ behind)))

low_by_digits : (k n : ℕ) → length (digits_onto (suc (suc k)) 10 false n []) ≤ 1 → n < 10
low_by_digits k n =
    cond_both (n / 10 == 0) (digit_glyph false (n % 10) ∷ []) (digits_onto (suc k) 10 false (n / 10) (digit_glyph false (n % 10) ∷ [])) (λ (ds : List ℕ). length ds ≤ 1 → n < 10)
    (λ last few. let none : n / 10 ≡ 0 = (Decides-eqb (n / 10) 0).0 last in omega (arith, none))
    (λ more few. absurd (let two = onto_one k (n / 10) (digit_glyph false (n % 10) ∷ []) in omega (arith, two, few)))

-- a number that is written in one digit is below ten
one_digit : (n : ℕ) → length (decimal n) ≤ 1 → n < 10
unfolding digits
one_digit n = low_by_digits 62 n

-- a number that is written as one below ten is that one
pub decimal_small : (a b : ℕ) → b < 10 → decimal a ≡ decimal b → a ≡ b
decimal_small a b low same =
    let short : length (decimal b) ≤ 1 = length-decimal-le 1 b (omega arith) (omega (arith, low)) (omega (arith, low)) in
    let also_low : a < 10 = one_digit a (subst (λ (ds : List ℕ). length ds ≤ 1) (sym same) short) in
    decimal_injective a b (omega (arith, also_low)) (omega (arith, low)) same

-- ---- a word and the number of a drive

abbrev head : List ℕ → ℕ → List ℕ
head word d = (word ++ 32 ∷ decimal d) ++ 32 ∷ []

fields_behind : (word rest : List ℕ) (more : List (List ℕ)) → (end : List ℕ) × (fields (word ++ rest) more ≡ word ++ end)
fields_behind word rest [] = (rest, refl)
fields_behind word rest (field ∷ more) = let b = fields_behind word (rest ++ 32 ∷ field) more in (b.0, ap (λ (l : List ℕ). fields l more) (append_assoc word rest (32 ∷ field)) ∙ b.1)

text_is : (word : List ℕ) (d : ℕ) (field : List ℕ) (more : List (List ℕ)) → (end : List ℕ) × (fields word (decimal d ∷ field ∷ more) ≡ head word d ++ end)
text_is word d field more =
    let b = fields_behind (head word d) field more in
    (b.0, ap (λ (l : List ℕ). fields l more) (sym (append_assoc (word ++ 32 ∷ decimal d) (32 ∷ []) field)) ∙ b.1)

begins : (word : List ℕ) (d : ℕ) (line end : List ℕ) → line ≡ head word d ++ end → begins_with word d line ≡ true
begins word d line end is = (starts_is Decides-eqb line (head word d) (begins_with word d line) refl).1 end is

begun_by : (word : List ℕ) (d : ℕ) (line : List ℕ) → begins_with word d line ≡ true → (end : List ℕ) × (line ≡ head word d ++ end)
begun_by word d line is = (drop (length (head word d)) line, (starts_is Decides-eqb line (head word d) (begins_with word d line) refl).0 is)

grouped : (word : List ℕ) (d : ℕ) (rest : List ℕ) → head word d ++ rest ≡ word ++ 32 ∷ (decimal d ++ 32 ∷ rest)
grouped word d rest = append_assoc (word ++ 32 ∷ decimal d) (32 ∷ []) rest ∙ append_assoc word (32 ∷ decimal d) (32 ∷ rest)

-- lines with the same word are of one drive, if it has a number of one digit
one_drive : (word : List ℕ) (d e : ℕ) (x y : List ℕ) → e < 10 → head word d ++ x ≡ head word e ++ y → d ≡ e
one_drive word d e x y low same =
    let rest : 32 ∷ (decimal d ++ 32 ∷ x) ≡ 32 ∷ (decimal e ++ 32 ∷ y) = append_cancel_left word _ _ (sym (grouped word d x) ∙ same ∙ grouped word e y) in
    decimal_small d e low (sym (field_before (decimal d) x (decimal_no_space d)) ∙ ap (λ (l : List ℕ). before_first is_space (drop 1 l)) rest ∙ field_before (decimal e) y (decimal_no_space e))

-- ---- the lines of drives

abbrev word_of : Mark → List ℕ
word_of (Begun k) = codes "begun"
word_of (Done j) = codes "done"
word_of Sealed = codes "sealed"
word_of (Lost loss) = codes "dropped"

lost_is : (d : ℕ) (loss : Loss) → (end : List ℕ) × (loss_text d loss ≡ head (codes "dropped") d ++ end)
lost_is d Fault = text_is (codes "dropped") d (codes "fault") []
lost_is d (Absent path) = text_is (codes "dropped") d (codes "absent") (path ∷ [])
lost_is d (Length written read path) = text_is (codes "dropped") d (codes "length") (decimal written ∷ decimal read ∷ path ∷ [])
lost_is d (Altered written read path) = text_is (codes "dropped") d (codes "altered") (triple_fields written ++ triple_fields read ++ path ∷ [])
lost_is d (Byte at written read path) = text_is (codes "dropped") d (codes "byte") (decimal at ∷ decimal written ∷ decimal read ∷ path ∷ [])

mark_is : (p : PlanValue) (d : ℕ) (m : Mark) → (end : List ℕ) × (mark_text p d m ≡ head (word_of m) d ++ end)
mark_is p d (Begun k) = text_is (codes "begun") d _ (_ ∷ [])
mark_is p d (Done j) = text_is (codes "done") d _ (_ ∷ _ ∷ [])
mark_is p d Sealed = text_is (codes "sealed") d _ (_ ∷ [])
mark_is p d (Lost loss) = lost_is d loss

sealed_is : (d k : ℕ) (list : List ℕ) → (end : List ℕ) × (sealed_text d k list ≡ head (codes "sealed") d ++ end)
sealed_is d k list = text_is (codes "sealed") d (decimal k) (list ∷ [])

-- the line of a mark begins with its word and its drive, and with its word no other drive's
of_it : (p : PlanValue) (d : ℕ) (m : Mark) → begins_with (word_of m) d (mark_text p d m) ≡ true
of_it p d m = let i = mark_is p d m in begins (word_of m) d (mark_text p d m) i.0 i.1

of_no_other : (p : PlanValue) (d e : ℕ) (m : Mark) → e < 10 → d ≢ e → begins_with (word_of m) d (mark_text p e m) ≡ false
of_no_other p d e m low ne = elim (cases_Bool (begins_with (word_of m) d (mark_text p e m))) [
  | inl is ↦
      let b = begun_by (word_of m) d (mark_text p e m) is in
      let i = mark_is p e m in
      absurd (ne (one_drive (word_of m) d e b.0 i.0 low (sym b.1 ∙ i.1)))
  | inr not ↦ not
]

-- ---- about a drive

left_or : (a b : Bool) → a ≡ true → (a || b) ≡ true
left_or true b is = refl
left_or false b is = absurd (false≢true is)

right_or : (a b : Bool) → b ≡ true → (a || b) ≡ true
right_or true b is = refl
right_or false b is = is

module _ (d : ℕ) (line : List ℕ) where
  abbrev is_begun : Bool
  is_begun = begins_with (codes "begun") d line

  abbrev is_done : Bool
  is_done = begins_with (codes "done") d line

  abbrev is_sealed : Bool
  is_sealed = begins_with (codes "sealed") d line

  abbrev is_dropped : Bool
  is_dropped = begins_with (codes "dropped") d line

  by_begun : is_begun ≡ true → is_about d line ≡ true
  by_begun is = left_or is_begun (is_done || (is_sealed || is_dropped)) is

  by_done : is_done ≡ true → is_about d line ≡ true
  by_done is = right_or is_begun (is_done || (is_sealed || is_dropped)) (left_or is_done (is_sealed || is_dropped) is)

  pub by_sealed : is_sealed ≡ true → is_about d line ≡ true
  by_sealed is = right_or is_begun (is_done || (is_sealed || is_dropped)) (right_or is_done (is_sealed || is_dropped) (left_or is_sealed is_dropped is))

  by_dropped : is_dropped ≡ true → is_about d line ≡ true
  by_dropped is = right_or is_begun (is_done || (is_sealed || is_dropped)) (right_or is_done (is_sealed || is_dropped) (right_or is_sealed is_dropped is))

  by_none : is_begun ≡ false → is_done ≡ false → is_sealed ≡ false → is_dropped ≡ false → is_about d line ≡ false
  by_none begun done sealed dropped =
      ap (λ (b : Bool). b || (is_done || (is_sealed || is_dropped))) begun ∙ ap (λ (b : Bool). b || (is_sealed || is_dropped)) done ∙ ap (λ (b : Bool). b || is_dropped) sealed ∙ dropped

-- the line of a mark is about its drive
pub about_it : (p : PlanValue) (d : ℕ) (m : Mark) → is_about d (mark_text p d m) ≡ true
about_it p d (Begun k) = by_begun d (mark_text p d (Begun k)) (of_it p d (Begun k))
about_it p d (Done j) = by_done d (mark_text p d (Done j)) (of_it p d (Done j))
about_it p d Sealed = by_sealed d (mark_text p d Sealed) (of_it p d Sealed)
about_it p d (Lost loss) = by_dropped d (loss_text d loss) (of_it p d (Lost loss))

-- and about no other
lost_off : (d e : ℕ) (loss : Loss) → begins_with (codes "dropped") d (loss_text e loss) ≡ false → is_about d (loss_text e loss) ≡ false
lost_off d e Fault off = by_none d (loss_text e Fault) refl refl refl off
lost_off d e (Absent path) off = by_none d (loss_text e (Absent path)) refl refl refl off
lost_off d e (Length written read path) off = by_none d (loss_text e (Length written read path)) refl refl refl off
lost_off d e (Altered written read path) off = by_none d (loss_text e (Altered written read path)) refl refl refl off
lost_off d e (Byte at written read path) off = by_none d (loss_text e (Byte at written read path)) refl refl refl off

pub about_no_other : (p : PlanValue) (d e : ℕ) (m : Mark) → e < 10 → d ≢ e → is_about d (mark_text p e m) ≡ false
about_no_other p d e (Begun k) low ne = by_none d (mark_text p e (Begun k)) (of_no_other p d e (Begun k) low ne) refl refl refl
about_no_other p d e (Done j) low ne = by_none d (mark_text p e (Done j)) refl (of_no_other p d e (Done j) low ne) refl refl
about_no_other p d e Sealed low ne = by_none d (mark_text p e Sealed) refl refl (of_no_other p d e Sealed low ne) refl
about_no_other p d e (Lost loss) low ne = lost_off d e loss (of_no_other p d e (Lost loss) low ne)

-- the line `clear` is about none
pub clear_about_none : (d sealed required : ℕ) → is_about d (clear_text sealed required) ≡ false
clear_about_none d sealed required = by_none d (clear_text sealed required) refl refl refl refl

pub sealed_about : (d k : ℕ) (list : List ℕ) → is_about d (sealed_text d k list) ≡ true
sealed_about d k list = let i = sealed_is d k list in by_sealed d (sealed_text d k list) (begins (codes "sealed") d (sealed_text d k list) i.0 i.1)

-- ---- which line it is

abbrev first : List ℕ → ℕ
first line = get_or line 0 0

-- a line `sealed` says that its drive is sealed
pub seals_it : (p : PlanValue) (e : ℕ) (m : Mark) (d k : ℕ) (list : List ℕ) → e < 10 → mark_text p e m ≡ sealed_text d k list → (is_seal m ≡ true) × (e ≡ d)
seals_it p e (Begun j) d k list low same = let bytes : 98 ≡ 115 = ap first same in absurd (omega (arith, bytes))
seals_it p e (Done j) d k list low same = let bytes : 100 ≡ 115 = ap first same in absurd (omega (arith, bytes))
seals_it p e Sealed d k list low same =
    let i = mark_is p e Sealed in
    let j = sealed_is d k list in
    (refl, sym (one_drive (codes "sealed") d e j.0 i.0 low (sym j.1 ∙ sym same ∙ i.1)))
seals_it p e (Lost loss) d k list low same = let bytes : 100 ≡ 115 = ap first (sym (lost_is e loss).1 ∙ same) in absurd (omega (arith, bytes))

pub clear_no_mark : (p : PlanValue) (e : ℕ) (m : Mark) (sealed required : ℕ) → mark_text p e m ≢ clear_text sealed required
clear_no_mark p e (Begun k) sealed required same = let bytes : 98 ≡ 99 = ap first same in omega (arith, bytes)
clear_no_mark p e (Done j) sealed required same = let bytes : 100 ≡ 99 = ap first same in omega (arith, bytes)
clear_no_mark p e Sealed sealed required same = let bytes : 115 ≡ 99 = ap first same in omega (arith, bytes)
clear_no_mark p e (Lost loss) sealed required same = let bytes : 100 ≡ 99 = ap first (sym (lost_is e loss).1 ∙ same) in omega (arith, bytes)

pub clear_not_sealed : (sealed required d k : ℕ) (list : List ℕ) → clear_text sealed required ≢ sealed_text d k list
clear_not_sealed sealed required d k list same = let bytes : 99 ≡ 115 = ap first same in omega (arith, bytes)

-- the numbers of a line `clear`, if they have one digit
clear_is : (a b : ℕ) → clear_text a b ≡ codes "clear" ++ 32 ∷ (decimal a ++ 32 ∷ decimal b)
clear_is a b = append_assoc (codes "clear") (32 ∷ decimal a) (32 ∷ decimal b)

pub one_clear : (a b c d : ℕ) → c < 10 → d < 10 → clear_text a b ≡ clear_text c d → (a ≡ c) × (b ≡ d)
one_clear a b c d low also_low same =
    let rest : 32 ∷ (decimal a ++ 32 ∷ decimal b) ≡ 32 ∷ (decimal c ++ 32 ∷ decimal d) = append_cancel_left (codes "clear") _ _ (sym (clear_is a b) ∙ same ∙ clear_is c d) in
    let both : decimal a ++ 32 ∷ decimal b ≡ decimal c ++ 32 ∷ decimal d = ap (λ (l : List ℕ). drop 1 l) rest in (
      decimal_small a c low (sym (field_before (decimal a) (decimal b) (decimal_no_space a)) ∙ ap (before_first is_space) both ∙ field_before (decimal c) (decimal d) (decimal_no_space c)),
      decimal_small b d also_low (sym (field_after (decimal a) (decimal b) (decimal_no_space a)) ∙ ap (after_first is_space) both ∙ field_after (decimal c) (decimal d) (decimal_no_space c)),
    )
