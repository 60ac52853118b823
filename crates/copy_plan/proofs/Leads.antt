-- From a field that stands to the fields behind it.
use Rattle.std.proofs.Common.{◌≡◌, inl, inr, ℕ, ◌+◌, ◌-◌, List, length, refl, sym, ◌∙◌, ap, subst, arith, length-append}
use Rattle.copy_plan.specs.Fields.{Begins, BeginsNone, FaultFrom}
use Rattle.copy_plan.proofs.Exact.{Exact}

-- a fault of what is left is one of the whole, so many bytes further on
pub record Leads (whole next : List ℕ → ℕ → Type 0) (bytes rest : List ℕ) : Type 0 where
  pub gap : ℕ
  pub is : length bytes ≡ gap + length rest
  pub on : (later : ℕ) → next rest later → whole bytes (gap + later)

pub leads_start : (whole : List ℕ → ℕ → Type 0) (bytes : List ℕ) → Leads whole whole bytes bytes
leads_start whole bytes = record {
  gap = 0;
  is = omega arith;
  on = λ later fault. let e : later ≡ 0 + later = omega arith in subst (whole bytes) e fault;
}

-- behind a field that stands
pub leads_on : {A : Type 0} {rule : A → Type 0} {code : A → List ℕ} {next : A → List ℕ → ℕ → Type 0} {whole : List ℕ → ℕ → Type 0} {bytes rest : List ℕ} {a : A} {more : List ℕ}
    → Leads whole (FaultFrom rule code next) bytes rest → Begins rule code rest a more → Leads whole (next a) bytes more
leads_on {A} {rule} {code} {next} {whole} {bytes} {rest} {a} {more} way begins = record {
  gap = way.gap + length (code a);
  is = omega (arith, way.is, ap length begins.is, length-append (code a) more);
  on = λ later fault.
      let e : way.gap + (length (code a) + later) ≡ way.gap + length (code a) + later = omega arith in
      subst (whole bytes) e (way.on (length (code a) + later) (inr (a, more, later, begins, refl, fault)));
}

-- at a field that does not stand
pub leads_here : {A : Type 0} {rule : A → Type 0} {code : A → List ℕ} {next : A → List ℕ → ℕ → Type 0} {whole : List ℕ → ℕ → Type 0} {bytes rest : List ℕ}
    → Leads whole (FaultFrom rule code next) bytes rest → BeginsNone rule code rest → (at : ℕ) → at ≡ length bytes - length rest → whole bytes at
leads_here {A} {rule} {code} {next} {whole} {bytes} {rest} way none at here =
    let e : way.gap + 0 ≡ at = omega (arith, way.is) in
    subst (whole bytes) e (way.on 0 (inl (refl, none)))

-- a fault lies no further than the bytes
-- where a field stands, the fault is behind it
pub fault_behind : {A : Type 0} {rule : A → Type 0} {code : A → List ℕ} {next : A → List ℕ → ℕ → Type 0} → Exact rule code → (bytes : List ℕ) (at : ℕ) (a : A) (rest : List ℕ)
    → Begins rule code bytes a rest → FaultFrom rule code next bytes at → (later : ℕ) × (at ≡ length (code a) + later) × next a rest later
fault_behind {A} {rule} {code} {next} exact bytes at a rest begins (inl (here, none)) = absurd (none a rest begins)
fault_behind {A} {rule} {code} {next} exact bytes at a rest begins (inr (b, more, later, other, is, fault)) =
    let same = exact.one b a more rest other.kept begins.kept (sym other.is ∙ begins.is) in
    (later, is ∙ ap (λ (x : A). length (code x) + later) same.0, subst (λ (r : List ℕ). next a r later) same.1 (subst (λ (x : A). next x more later) same.0 fault))
