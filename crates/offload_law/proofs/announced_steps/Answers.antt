use Rattle.std.proofs.Common.{◌≡◌, ◌≢◌, ℕ, suc, ◌++◌, List, ◌∷◌, refl}
use Rattle.std.specs.Prelude.{decimal}
use Rattle.std.specs.Str.{bytes_eq}
use Rattle.std.proofs.lemmas.Bool.{cond_both}
use Rattle.std.proofs.lemmas.Slice.Eq.{bytes_eq-Decides}
use Rattle.report_text.specs.Run.{begun_text, done_text, sealed_text}
use Rattle.offload_law.specs.Lines.{Announces, begun, done, sealed, behind, number_behind, announces}
use Rattle.offload_law.proofs.Fields.{short_by_digits}
use Rattle.offload_law.proofs.Plans.{files_short}
use Rattle.offload_law.proofs.Said.{behind_begun, behind_done, behind_sealed, first_number, second_number, last_number, as_begun, as_done, as_sealed, from_sealed, from_done, begun_announces, done_announces, sealed_announces, other_word, clear_none, begun_elsewhere, done_elsewhere, sealed_elsewhere}
use Rattle.offload_law.proofs.announced_steps.Goals as goal

module _ (d n : ℕ) (line : List ℕ) where
  -- the number of steps is the one that the line announces
  announces_that : (steps : ℕ) → Announces d n line steps → announces d n line ≡ steps
  announces_that steps (begun k m low also_low is) = begun_announces d n line k m low also_low is
  announces_that steps (done k m path low also_low is) = done_announces d n line k m path low also_low is
  announces_that steps (sealed m list low is) = sealed_announces d n line m list low is

  -- a line with a number of steps is one that announces it
  announces_only : announces d n line ≢ 0 → Announces d n line (announces d n line)
  unfolding announces
  announces_only =
      let k = number_behind 2 line in
      let m = number_behind 3 line in
      cond_both (bytes_eq line (as_begun d line)) (suc k) (from_done d n line) (λ (steps : ℕ). steps ≢ 0 → Announces d n line steps)
      (λ same none.
      let is : line ≡ begun_text d k m = (bytes_eq-Decides line (as_begun d line)).0 same in
      let at = behind_begun line d k m is in
      begun k m (short_by_digits k (first_number line d k (decimal m) at)) (short_by_digits m (last_number line d k m at)) is)
      (λ no_begun. cond_both (bytes_eq line (as_done d line)) (suc k) (from_sealed d n line) (λ (steps : ℕ). steps ≢ 0 → Announces d n line steps)
      (λ same none.
      let is : line ≡ done_text d k m (behind 4 line) = (bytes_eq-Decides line (as_done d line)).0 same in
      let at = behind_done line d k m (behind 4 line) is in
      done k m (behind 4 line) (short_by_digits k (first_number line d k (decimal m ++ 32 ∷ behind 4 line) at)) (short_by_digits m (second_number line d k m (behind 4 line) at)) is)
      (λ no_done. cond_both (bytes_eq line (as_sealed d line)) (suc (suc n)) 0 (λ (steps : ℕ). steps ≢ 0 → Announces d n line steps)
      (λ same none.
      let is : line ≡ sealed_text d k (behind 3 line) = (bytes_eq-Decides line (as_sealed d line)).0 same in
      let at = behind_sealed line d k (behind 3 line) is in
      sealed k (behind 3 line) (short_by_digits k (first_number line d k (behind 3 line) at)) is)
      (λ no_sealed none. absurd (none refl))))

pub returns-clause-begun : goal.returns-clause-begun
returns-clause-begun c = λ d n k m low also_low. begun_announces d n (begun_text d k m) k m low also_low refl

pub returns-clause-done : goal.returns-clause-done
returns-clause-done c = λ d n k m path low also_low. done_announces d n (done_text d k m path) k m path low also_low refl

pub returns-clause-sealed : goal.returns-clause-sealed
returns-clause-sealed c = λ d n m list low. sealed_announces d n (sealed_text d m list) m list low refl

pub returns-clause-each : goal.returns-clause-each
returns-clause-each c = λ d n line. announces_that d n line

pub returns-clause-only : goal.returns-clause-only
returns-clause-only c = λ d n line. announces_only d n line

pub returns-clause-begun_elsewhere : goal.returns-clause-begun_elsewhere
returns-clause-begun_elsewhere c = λ d e n low also_low differ k m. begun_elsewhere d e n low also_low differ k m

pub returns-clause-done_elsewhere : goal.returns-clause-done_elsewhere
returns-clause-done_elsewhere c = λ d e n low also_low differ k m path. done_elsewhere d e n low also_low differ k m path

pub returns-clause-sealed_elsewhere : goal.returns-clause-sealed_elsewhere
returns-clause-sealed_elsewhere c = λ d e n low also_low differ m list. sealed_elsewhere d e n low also_low differ m list

pub returns-clause-other_word : goal.returns-clause-other_word
returns-clause-other_word c = λ d n line. other_word d n line

pub returns-clause-short : goal.returns-clause-short
returns-clause-short c = λ p plan k few. files_short p plan k few

pub returns-clause-clear : goal.returns-clause-clear
returns-clause-clear c = λ d n sealed required. clear_none d n sealed required
