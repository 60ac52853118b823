-- What is said of the first place of which something is said.
use Rattle.std.proofs.Common.{◌≡◌, ◌≢◌, ℕ, zero, suc, ◌+◌, ◌-◌, ◌≤◌, ◌<◌, true, false, refl, ◌∙◌, ap, add-one, arith, eqb-true}
use Rattle.std.specs.Prelude.{Option, Some, None, cond, List, nat_eq}
use Rattle.std.specs.Option.{option_or}
use Rattle.std.proofs.lemmas.Bool.Decides.{nat_tests}
use Rattle.path_text.specs.Places.{first_below, is_refused, refused_at}

-- below one place more
pub first_below-next : {A : Type 0} (f : ℕ → Option A) (n : ℕ) → first_below f n ≡ None → first_below f (n + 1) ≡ f n
unfolding first_below
first_below-next f n none = ap (first_below f) (add-one n) ∙ ap (λ o. option_or o (f n)) none

kept : {A : Type 0} (f : ℕ → Option A) (n k : ℕ) (x : A) → first_below f n ≡ Some x → first_below f (k + n) ≡ Some x
unfolding first_below
kept f n zero x some = ap (first_below f) (let e : 0 + n ≡ n = omega arith in e) ∙ some
kept f n (suc k) x some = ap (first_below f) (let e : suc k + n ≡ suc (k + n) = omega arith in e) ∙ ap (λ o. option_or o (f (k + n))) (kept f n k x some)

-- below more places
pub first_below-more : {A : Type 0} (f : ℕ → Option A) (n m : ℕ) (x : A) → n ≤ m → first_below f n ≡ Some x → first_below f m ≡ Some x
first_below-more f n m x within some = ap (first_below f) (let k : m ≡ (m - n) + n = omega arith in k) ∙ kept f n (m - n) x some

-- the first place, with nothing said below it
pub first_below-at : {A : Type 0} (f : ℕ → Option A) (n m : ℕ) (x : A) → n < m → first_below f n ≡ None → f n ≡ Some x → first_below f m ≡ Some x
first_below-at f n m x within none some = first_below-more f (n + 1) m x (omega arith) (first_below-next f n none ∙ some)

pub refused_at-true : (text : List ℕ) (k : ℕ) → is_refused text k ≡ true → refused_at text k ≡ Some k
refused_at-true text k is = ap (λ b. cond b (Some k) None) is

pub refused_at-false : (text : List ℕ) (k : ℕ) → is_refused text k ≡ false → refused_at text k ≡ None
refused_at-false text k is = ap (λ b. cond b (Some k) None) is

none_of : {A : Type 0} (o p : Option A) → option_or o p ≡ None → (o ≡ None) × (p ≡ None)
none_of None p e = (refl, e)
none_of (Some x) p e = absurd (cc e)

-- nothing is said of a place below n, where nothing is said of the first
pub first_below-none : {A : Type 0} (f : ℕ → Option A) (n k : ℕ) → first_below f n ≡ None → k < n → f k ≡ None
unfolding first_below
first_below-none f zero k none within = absurd (omega arith)
first_below-none f (suc n) k none within =
    let both = none_of (first_below f n) (f n) none in
    elim (nat_eq k n) as (λ b. nat_eq k n ≡ b → f k ≡ None) [
      | true ↦ λ e. ap f (eqb-true k n e) ∙ both.1
      | false ↦ λ e. let apart : k ≢ n = grind (arith, nat_tests) in first_below-none f n k both.0 (omega arith)
    ] refl

-- and back
pub first_below-all : {A : Type 0} (f : ℕ → Option A) (n : ℕ) → ((k : ℕ) → f k ≡ None) → first_below f n ≡ None
unfolding first_below
first_below-all f zero all = refl
first_below-all f (suc n) all = rw (first_below-all f n all, all n) refl
