-- The read of one byte at the size.
use Rattle.std.proofs.Common.{◌≡◌, inl, inr, ℕ, zero, suc, ◌<◌, true, false, List, [], ◌∷◌, length, take, slice_index, refl, sym, ap, subst, arith, ◌∙◌}
use Rattle.std.proofs.lemmas.Result.{err_from_is_err_and}
use Rattle.std.specs.Prelude.{Option, Some, None, Result, Ok, Err, is_ok, IsErrAnd}
use Rattle.bay_core.specs.declared.event.Event.TheVariants.{SourceRead}
use Rattle.bay_core.specs.declared.failed.Failed.{Failed}
use Rattle.bay_core.specs.Replay.{Source}
use Rattle.bay_core.specs.World.{World}
use Rattle.bay_core.specs.Went.{Called, CardReadCall}
use Rattle.bay_core.proofs.Runs.{went_such}
use Rattle.fan_copier.specs.Turning.{PastCalls}

pub past_cut : (s : ℕ) (path : List ℕ) (size : ℕ) (into : List ℕ) (e : Failed) (r : Result (Option ℕ) Failed) (Q : Failed → Type 0) {w0 w1 : World} → length into ≡ 1 → IsErrAnd r Q
    → Called (Source s) (CardReadCall s path size into (Err e)) false w0 w1 → Called (Source s) (PastCalls s path size r) (is_ok r) w0 w1
past_cut s path size into e r Q {w0} {w1} one_long is one =
    let p = err_from_is_err_and r is in
    subst (λ q. Called (Source s) (PastCalls s path size q) (is_ok q) w0 w1) (sym p.1)
    (record { went = went_such (λ L seen. elim seen [ inl none ↦ inl none | inr is ↦ inr (is ∙ ap (λ n. SourceRead s path size n None ∷ []) one_long) ]) one.went; cause = λ _. one.cause refl })

pub past_none : (s : ℕ) (path : List ℕ) (size n : ℕ) (into : List ℕ) {w0 w1 : World} → n ≡ 0 → length into ≡ 1 → Called (Source s) (CardReadCall s path size into (Ok n)) true w0 w1
    → Called (Source s) (PastCalls s path size (Ok None)) true w0 w1
past_none s path size n into none one_long one = record {
  went = went_such (λ L is. is ∙ (λ i. SourceRead s path size (one_long i) (Some (take (none i) into)) ∷ [])) one.went;
  cause = one.cause;
}

-- the one byte of a buffer of one byte
one_byte : (into : List ℕ) (n : ℕ) → length into ≡ 1 → 0 < n → take n into ≡ slice_index into 0 ∷ []
one_byte [] n size some = absurd (omega (arith, size))
one_byte (x ∷ []) zero size some = absurd (omega (arith, some))
one_byte (x ∷ []) (suc n) size some = ap (λ (l : List ℕ). x ∷ l) (none n) where
  none : (n : ℕ) → take {A = ℕ} n [] ≡ []
  none zero = refl
  none (suc n) = refl
one_byte (x ∷ y ∷ into) n size some = absurd (omega (arith, size))

pub past_byte : (s : ℕ) (path : List ℕ) (size n : ℕ) (into : List ℕ) {w0 w1 : World} → 0 < n → length into ≡ 1 → Called (Source s) (CardReadCall s path size into (Ok n)) true w0 w1
    → Called (Source s) (PastCalls s path size (Ok (Some (slice_index into 0)))) true w0 w1
past_byte s path size n into some one_long one = record {
  went = went_such (λ L is. is ∙ (λ i. SourceRead s path size (one_long i) (Some (one_byte into n one_long some i)) ∷ [])) one.went;
  cause = one.cause;
}
