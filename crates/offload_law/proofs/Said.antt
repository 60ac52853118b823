-- What the lines of a run announce.
use Rattle.std.proofs.Common.{◌≡◌, ◌≢◌, ℕ, suc, ◌^◌, ◌<◌, Bool, true, false, cond, List, ◌∷◌, ◌++◌, get_or, take, drop, refl, sym, ap, ◌∙◌, arith, append_assoc}
use Rattle.std.specs.Prelude.{codes, decimal}
use Rattle.std.specs.Str.{bytes_eq}
use Rattle.std.specs.Str.Parse.{digits_value}
use Rattle.std.specs.List.{before_first, after_first}
use Rattle.std.proofs.lemmas.Bool.{cond-true, cond-false}
use Rattle.std.proofs.lemmas.Fmt.{decimal_injective}
use Rattle.std.proofs.lemmas.List.{append_cancel_left}
use Rattle.std.proofs.lemmas.Slice.Eq.{bytes_eq-Decides}
use Rattle.report_text.specs.Run.{begun_text, done_text, sealed_text, clear_text}
use Rattle.offload_law.specs.Lines.{IsShort, is_space, behind, number_behind, announces}
use Rattle.offload_law.proofs.Fields.{decimal_no_space, value_decimal, field_before, last_field, field_after}

-- a line of a drive, field by field
abbrev of_drive : List ℕ → ℕ → List ℕ → List ℕ
of_drive word d rest = word ++ 32 ∷ (decimal d ++ 32 ∷ rest)

regroup : (w a b c : List ℕ) → ((w ++ 32 ∷ a) ++ 32 ∷ b) ++ 32 ∷ c ≡ w ++ 32 ∷ (a ++ 32 ∷ (b ++ 32 ∷ c))
regroup w a b c = append_assoc (w ++ 32 ∷ a) (32 ∷ b) (32 ∷ c) ∙ append_assoc w (32 ∷ a) (32 ∷ (b ++ 32 ∷ c))

begun_is : (d k n : ℕ) → begun_text d k n ≡ of_drive (codes "begun") d (decimal k ++ 32 ∷ decimal n)
begun_is d k n = regroup (codes "begun") (decimal d) (decimal k) (decimal n)

sealed_is : (d n : ℕ) (list : List ℕ) → sealed_text d n list ≡ of_drive (codes "sealed") d (decimal n ++ 32 ∷ list)
sealed_is d n list = regroup (codes "sealed") (decimal d) (decimal n) list

done_is : (d k n : ℕ) (path : List ℕ) → done_text d k n path ≡ of_drive (codes "done") d (decimal k ++ 32 ∷ (decimal n ++ 32 ∷ path))
done_is d k n path = append_assoc ((codes "done" ++ 32 ∷ decimal d) ++ 32 ∷ decimal k) (32 ∷ decimal n) (32 ∷ path) ∙ regroup (codes "done") (decimal d) (decimal k) (decimal n ++ 32 ∷ path)

-- what stands behind the spaces of a line
module _ (line : List ℕ) (d : ℕ) where
  abbrev two : List ℕ → Type 0
  two rest = after_first is_space (after_first is_space line) ≡ rest

  behind_drive : (word rest : List ℕ) → after_first is_space (of_drive word d rest) ≡ decimal d ++ 32 ∷ rest → line ≡ of_drive word d rest → two rest
  behind_drive word rest first is = ap (after_first is_space) (ap (after_first is_space) is ∙ first) ∙ field_after (decimal d) rest (decimal_no_space d)

  pub behind_begun : (k m : ℕ) → line ≡ begun_text d k m → two (decimal k ++ 32 ∷ decimal m)
  behind_begun k m is = behind_drive (codes "begun") (decimal k ++ 32 ∷ decimal m) refl (is ∙ begun_is d k m)

  pub behind_done : (k m : ℕ) (path : List ℕ) → line ≡ done_text d k m path → two (decimal k ++ 32 ∷ (decimal m ++ 32 ∷ path))
  behind_done k m path is = behind_drive (codes "done") (decimal k ++ 32 ∷ (decimal m ++ 32 ∷ path)) refl (is ∙ done_is d k m path)

  pub behind_sealed : (m : ℕ) (list : List ℕ) → line ≡ sealed_text d m list → two (decimal m ++ 32 ∷ list)
  behind_sealed m list is = behind_drive (codes "sealed") (decimal m ++ 32 ∷ list) refl (is ∙ sealed_is d m list)

  -- the number there, and what stands behind it
  pub first_number : (k : ℕ) (rest : List ℕ) → two (decimal k ++ 32 ∷ rest) → number_behind 2 line ≡ digits_value 10 (decimal k)
  first_number k rest is = ap (λ (l : List ℕ). digits_value 10 (before_first is_space l)) is ∙ ap (digits_value 10) (field_before (decimal k) rest (decimal_no_space k))

  three : (k : ℕ) (rest : List ℕ) → two (decimal k ++ 32 ∷ rest) → behind 3 line ≡ rest
  three k rest is = ap (after_first is_space) is ∙ field_after (decimal k) rest (decimal_no_space k)

  -- the second one
  pub second_number : (k m : ℕ) (rest : List ℕ) → two (decimal k ++ 32 ∷ (decimal m ++ 32 ∷ rest)) → number_behind 3 line ≡ digits_value 10 (decimal m)
  second_number k m rest is = ap (λ (l : List ℕ). digits_value 10 (before_first is_space l)) (three k (decimal m ++ 32 ∷ rest) is) ∙ ap (digits_value 10) (field_before (decimal m) rest (decimal_no_space m))

  pub last_number : (k m : ℕ) → two (decimal k ++ 32 ∷ decimal m) → number_behind 3 line ≡ digits_value 10 (decimal m)
  last_number k m is = ap (λ (l : List ℕ). digits_value 10 (before_first is_space l)) (three k (decimal m) is) ∙ ap (digits_value 10) (last_field (decimal m) (decimal_no_space m))

  four : (k m : ℕ) (rest : List ℕ) → two (decimal k ++ 32 ∷ (decimal m ++ 32 ∷ rest)) → behind 4 line ≡ rest
  four k m rest is = ap (after_first is_space) (three k (decimal m ++ 32 ∷ rest) is) ∙ field_after (decimal m) rest (decimal_no_space m)

not_true : (b : Bool) → (b ≡ true → ⊥) → b ≡ false
not_true true h = absurd (h refl)
not_true false h = refl

equal : (a b : List ℕ) → a ≡ b → bytes_eq a b ≡ true
equal a b e = (bytes_eq-Decides a b).1 e

differ : (a b : List ℕ) → (a ≡ b → ⊥) → bytes_eq a b ≡ false
differ a b h = not_true (bytes_eq a b) (λ e. h ((bytes_eq-Decides a b).0 e))

-- the first byte of a line
abbrev first : List ℕ → ℕ
first line = get_or line 0 0

begun_not_sealed : (d k n e m : ℕ) (list : List ℕ) → begun_text d k n ≢ sealed_text e m list
begun_not_sealed d k n e m list is = let bytes : 98 ≡ 115 = ap first is in omega (arith, bytes)

begun_not_done : (d k n e j m : ℕ) (path : List ℕ) → begun_text d k n ≢ done_text e j m path
begun_not_done d k n e j m path is = let bytes : 98 ≡ 100 = ap first is in omega (arith, bytes)

done_not_sealed : (d k n : ℕ) (path : List ℕ) (e m : ℕ) (list : List ℕ) → done_text d k n path ≢ sealed_text e m list
done_not_sealed d k n path e m list is = let bytes : 100 ≡ 115 = ap first is in omega (arith, bytes)

-- the forms with which a line is compared
abbrev pub as_begun : ℕ → List ℕ → List ℕ
as_begun d line = begun_text d (number_behind 2 line) (number_behind 3 line)

abbrev pub as_done : ℕ → List ℕ → List ℕ
as_done d line = done_text d (number_behind 2 line) (number_behind 3 line) (behind 4 line)

abbrev pub as_sealed : ℕ → List ℕ → List ℕ
as_sealed d line = sealed_text d (number_behind 2 line) (behind 3 line)

-- one more than the records that it names, or all
abbrev pub from_sealed : ℕ → ℕ → List ℕ → ℕ
from_sealed d n line = cond (bytes_eq line (as_sealed d line)) (suc (suc n)) 0

abbrev pub from_done : ℕ → ℕ → List ℕ → ℕ
from_done d n line = cond (bytes_eq line (as_done d line)) (suc (number_behind 2 line)) (from_sealed d n line)

module _ (d n : ℕ) (line : List ℕ) where
  pub begun_announces : (k m : ℕ) → IsShort k → IsShort m → line ≡ begun_text d k m → announces d n line ≡ suc k
  unfolding announces
  begun_announces k m low also_low is =
      let at = behind_begun line d k m is in
      let k_is : number_behind 2 line ≡ k = first_number line d k (decimal m) at ∙ value_decimal k low in
      let m_is : number_behind 3 line ≡ m = last_number line d k m at ∙ value_decimal m also_low in
      let same : line ≡ as_begun d line = is ∙ (λ i. begun_text d (sym k_is i) (sym m_is i)) in
      cond-true (bytes_eq line (as_begun d line)) (suc (number_behind 2 line)) (from_done d n line) (equal line (as_begun d line) same) ∙ ap suc k_is

  pub done_announces : (k m : ℕ) (path : List ℕ) → IsShort k → IsShort m → line ≡ done_text d k m path → announces d n line ≡ suc k
  unfolding announces
  done_announces k m path low also_low is =
      let at = behind_done line d k m path is in
      let k_is : number_behind 2 line ≡ k = first_number line d k (decimal m ++ 32 ∷ path) at ∙ value_decimal k low in
      let m_is : number_behind 3 line ≡ m = second_number line d k m path at ∙ value_decimal m also_low in
      let path_is : behind 4 line ≡ path = four line d k m path at in
      let same : line ≡ as_done d line = is ∙ (λ i. done_text d (sym k_is i) (sym m_is i) (sym path_is i)) in
      let other = differ line (as_begun d line) (λ e. begun_not_done d (number_behind 2 line) (number_behind 3 line) d k m path (sym e ∙ is)) in
      cond-false (bytes_eq line (as_begun d line)) (suc (number_behind 2 line)) (from_done d n line) other
      ∙ cond-true (bytes_eq line (as_done d line)) (suc (number_behind 2 line)) (from_sealed d n line) (equal line (as_done d line) same)
      ∙ ap suc k_is

  pub sealed_announces : (m : ℕ) (list : List ℕ) → IsShort m → line ≡ sealed_text d m list → announces d n line ≡ suc (suc n)
  unfolding announces
  sealed_announces m list low is =
      let at = behind_sealed line d m list is in
      let m_is : number_behind 2 line ≡ m = first_number line d m list at ∙ value_decimal m low in
      let list_is : behind 3 line ≡ list = three line d m list at in
      let same : line ≡ as_sealed d line = is ∙ (λ i. sealed_text d (sym m_is i) (sym list_is i)) in
      let no_begun = differ line (as_begun d line) (λ e. begun_not_sealed d (number_behind 2 line) (number_behind 3 line) d m list (sym e ∙ is)) in
      let no_done = differ line (as_done d line) (λ e. done_not_sealed d (number_behind 2 line) (number_behind 3 line) (behind 4 line) d m list (sym e ∙ is)) in
      cond-false (bytes_eq line (as_begun d line)) (suc (number_behind 2 line)) (from_done d n line) no_begun
      ∙ cond-false (bytes_eq line (as_done d line)) (suc (number_behind 2 line)) (from_sealed d n line) no_done
      ∙ cond-true (bytes_eq line (as_sealed d line)) (suc (suc n)) 0 (equal line (as_sealed d line) same)

  -- a line that is none of a drive's announces nothing for it
  pub announces_none : ((k m : ℕ) → line ≢ begun_text d k m) → ((k m : ℕ) (path : List ℕ) → line ≢ done_text d k m path) → ((m : ℕ) (list : List ℕ) → line ≢ sealed_text d m list) → announces d n line ≡ 0
  unfolding announces
  announces_none no_begun no_done no_sealed =
      let b = differ line (as_begun d line) (no_begun (number_behind 2 line) (number_behind 3 line)) in
      let e = differ line (as_done d line) (no_done (number_behind 2 line) (number_behind 3 line) (behind 4 line)) in
      let s = differ line (as_sealed d line) (no_sealed (number_behind 2 line) (behind 3 line)) in
      cond-false (bytes_eq line (as_begun d line)) (suc (number_behind 2 line)) (from_done d n line) b
      ∙ cond-false (bytes_eq line (as_done d line)) (suc (number_behind 2 line)) (from_sealed d n line) e
      ∙ cond-false (bytes_eq line (as_sealed d line)) (suc (suc n)) 0 s

  -- nor does a line with another first word
  pub other_word : take 6 line ≢ codes "begun " → take 5 line ≢ codes "done " → take 7 line ≢ codes "sealed " → announces d n line ≡ 0
  other_word no_begun no_done no_sealed =
      announces_none (λ k m is. no_begun (ap (take 6) (is ∙ begun_is d k m))) (λ k m path is. no_done (ap (take 5) (is ∙ done_is d k m path))) (λ m list is. no_sealed (ap (take 7) (is ∙ sealed_is d m list)))

-- lines with the same word are of one drive
one_drive : (word : List ℕ) (d e : ℕ) (r s : List ℕ) → d < 2 ^ 64 → e < 2 ^ 64 → of_drive word d r ≡ of_drive word e s → d ≡ e
one_drive word d e r s x y same =
    let fields : 32 ∷ (decimal d ++ 32 ∷ r) ≡ 32 ∷ (decimal e ++ 32 ∷ s) = append_cancel_left word _ _ same in
    let ds = field_before (decimal d) r (decimal_no_space d) in
    let es = field_before (decimal e) s (decimal_no_space e) in
    decimal_injective d e x y (sym ds ∙ ap (λ (l : List ℕ). before_first is_space (drop 1 l)) fields ∙ es)

-- what is said of another drive announces nothing for this one
module _ (d e n : ℕ) (low : d < 2 ^ 64) (also_low : e < 2 ^ 64) (others : d ≢ e) where
  pub begun_elsewhere : (k m : ℕ) → announces d n (begun_text e k m) ≡ 0
  begun_elsewhere k m =
      announces_none d n (begun_text e k m)
      (λ j l is. others (one_drive (codes "begun") d e (decimal j ++ 32 ∷ decimal l) (decimal k ++ 32 ∷ decimal m) low also_low (sym (begun_is d j l) ∙ sym is ∙ begun_is e k m)))
      (λ j l path. begun_not_done e k m d j l path)
      (λ l list. begun_not_sealed e k m d l list)

  pub done_elsewhere : (k m : ℕ) (path : List ℕ) → announces d n (done_text e k m path) ≡ 0
  done_elsewhere k m path =
      announces_none d n (done_text e k m path)
      (λ j l is. begun_not_done d j l e k m path (sym is))
      (λ j l other is. others (one_drive (codes "done") d e (decimal j ++ 32 ∷ (decimal l ++ 32 ∷ other)) (decimal k ++ 32 ∷ (decimal m ++ 32 ∷ path)) low also_low (sym (done_is d j l other) ∙ sym is ∙ done_is e k m path)))
      (λ l list. done_not_sealed e k m path d l list)

  pub sealed_elsewhere : (m : ℕ) (list : List ℕ) → announces d n (sealed_text e m list) ≡ 0
  sealed_elsewhere m list =
      announces_none d n (sealed_text e m list)
      (λ j l is. begun_not_sealed d j l e m list (sym is))
      (λ j l other is. done_not_sealed d j l other e m list (sym is))
      (λ l other is. others (one_drive (codes "sealed") d e (decimal l ++ 32 ∷ other) (decimal m ++ 32 ∷ list) low also_low (sym (sealed_is d l other) ∙ sym is ∙ sealed_is e m list)))

-- nor does the line `clear`
pub clear_none : (d n drives required : ℕ) → announces d n (clear_text drives required) ≡ 0
clear_none d n drives required =
    let line = clear_text drives required in
    other_word d n line
    (λ is. let byte : 99 ≡ 98 = ap first is in omega (arith, byte))
    (λ is. let byte : 99 ≡ 100 = ap first is in omega (arith, byte))
    (λ is. let byte : 99 ≡ 115 = ap first is in omega (arith, byte))
