-- Lines that announce no step of any drive, and call no card clear: those of an opening, and those with which a run ends.
use Rattle.std.proofs.Common.{◌≡◌, ◌≢◌, ℕ, List, [], ◌∷◌, ◌++◌, get_or, take, refl, sym, ap, ◌∙◌, arith}
use Rattle.std.specs.Prelude.{codes, decimal}
use Rattle.offload_law.specs.Lines.{announces}
use Rattle.report_text.specs.Fields.{fields}
use Rattle.report_text.specs.Losses.{dropped_fault_text}
use Rattle.report_text.specs.Run.{clear_text}

pub record IsPlain (line : List ℕ) : Type 0 where
  pub silent : (d n : ℕ) → announces d n line ≡ 0
  pub unclear : (count required : ℕ) → line ≢ clear_text count required

-- a line with another first word announces nothing
abbrev pub OtherWord : Type 0
OtherWord = (d n : ℕ) (line : List ℕ) → take 6 line ≢ codes "begun " → take 5 line ≢ codes "done " → take 7 line ≢ codes "sealed " → announces d n line ≡ 0

abbrev first : List ℕ → ℕ
first line = get_or line 0 0

abbrev second : List ℕ → ℕ
second line = get_or line 1 0

-- the first letter of a word is none of those of `begun`, `clear`, `done` and `sealed`
abbrev pub IsApart : ℕ → Type 0
IsApart b = (b ≢ 98) × (b ≢ 99) × (b ≢ 100) × (b ≢ 115)

abbrev pub BeginsApart : List ℕ → Type 0
BeginsApart [] = ⊥
BeginsApart (b ∷ word) = IsApart b

-- the fields of a line stand behind its first word
fields_behind : (b : ℕ) (word : List ℕ) (more : List (List ℕ)) → (rest : List ℕ) × (fields (b ∷ word) more ≡ b ∷ rest)
fields_behind b word [] = (word, refl)
fields_behind b word (field ∷ more) = fields_behind b (word ++ 32 ∷ field) more

module _ (other : OtherWord) where
  by_letter : (b : ℕ) (rest line : List ℕ) → IsApart b → line ≡ b ∷ rest → IsPlain line
  by_letter b rest line apart is = record {
    silent = λ d n. other d n line (λ e. apart.0 (ap first (sym (ap (take 6) is) ∙ e))) (λ e. apart.2 (ap first (sym (ap (take 5) is) ∙ e))) (λ e. apart.3 (ap first (sym (ap (take 7) is) ∙ e)));
    unclear = λ count required e. apart.1 (ap first (sym is ∙ e));
  }

  -- a line with such a first word
  pub plain_word : (word : List ℕ) (more : List (List ℕ)) → BeginsApart word → IsPlain (fields word more)
  plain_word [] more apart = absurd apart
  plain_word (b ∷ word) more apart = let f = fields_behind b word more in by_letter b f.0 (fields (b ∷ word) more) apart f.1

  -- the line of a drive on which a call failed
  pub plain_dropped : (d : ℕ) → IsPlain (dropped_fault_text d)
  plain_dropped d =
      let line = dropped_fault_text d in
      record {
        silent = λ e n. other e n line (λ is. let byte : 100 ≡ 98 = ap first is in omega (arith, byte)) (λ is. let byte : 114 ≡ 111 = ap second is in omega (arith, byte)) (λ is. let byte : 100 ≡ 115 = ap first is in omega (arith, byte));
        unclear = λ count required is. let byte : 100 ≡ 99 = ap first is in omega (arith, byte);
      }

pub f_apart : IsApart 102
f_apart = (λ e. omega (arith, e), λ e. omega (arith, e), λ e. omega (arith, e), λ e. omega (arith, e))

pub m_apart : IsApart 109
m_apart = (λ e. omega (arith, e), λ e. omega (arith, e), λ e. omega (arith, e), λ e. omega (arith, e))

pub r_apart : IsApart 114
r_apart = (λ e. omega (arith, e), λ e. omega (arith, e), λ e. omega (arith, e), λ e. omega (arith, e))

pub w_apart : IsApart 119
w_apart = (λ e. omega (arith, e), λ e. omega (arith, e), λ e. omega (arith, e), λ e. omega (arith, e))
