-- The reads of a block of the card.
use Rattle.std.proofs.Common.{◌≡◌, inl, inr, ℕ, ◌+◌, ◌<◌, true, false, List, length, take, refl, sym, ◌∙◌, subst, arith}
use Rattle.std.proofs.lemmas.List.{length-take-le, take_all}
use Rattle.std.proofs.lemmas.Result.{err_from_is_err_and}
use Rattle.std.specs.Prelude.{Option, Some, None, Result, Ok, Err, is_ok, IsErrAnd}
use Rattle.bay_core.specs.declared.failed.Failed.{Failed}
use Rattle.bay_core.specs.Replay.{Source}
use Rattle.bay_core.specs.World.{World}
use Rattle.bay_core.specs.Went.{Called}
use Rattle.bay_core.proofs.Runs.{went_such}
use Rattle.fan_copier.specs.Reads.{OnCard, Tiles, EndsAt, CutAt, GatherCalls}
use Rattle.fan_copier.specs.Turning.{ReadCalls}

pub block_cut : (s : ℕ) (path : List ℕ) (at now : ℕ) (into block : List ℕ) (e : Failed) (r : Result (Option ℕ) Failed) (Q : Failed → Type 0) {w0 w1 : World} → IsErrAnd r Q → at ≡ now → into ≡ block
    → Called (Source s) (GatherCalls (OnCard s path) at into (Err e)) false w0 w1 → Called (Source s) (ReadCalls s path now block r) (is_ok r) w0 w1
block_cut s path at now into block e r Q {w0} {w1} is here same one =
    let p = err_from_is_err_and r is in
    subst (λ q. Called (Source s) (ReadCalls s path now block q) (is_ok q) w0 w1) (sym p.1)
    (record { went = went_such (λ L t. subst (λ a. CutAt (OnCard s path) a (length block) L) here (subst (λ (l : List ℕ). CutAt (OnCard s path) at (length l) L) same t)) one.went; cause = λ _. one.cause refl })

pub block_ended : (s : ℕ) (path : List ℕ) (at now n : ℕ) (into block : List ℕ) {w0 w1 : World} → n < length into → at ≡ now → into ≡ block → Called (Source s) (GatherCalls (OnCard s path) at into (Ok n)) true w0 w1
    → Called (Source s) (ReadCalls s path now block (Ok (Some (at + n)))) true w0 w1
block_ended s path at now n into block fewer here same one = record {
  went = went_such (λ L t. elim t [
    | inl all ↦ absurd (let a = length-take-le n into (omega (arith, fewer)) in let b = all.0 in omega (arith, a, b, fewer))
    | inr ended ↦ subst (λ k. EndsAt (OnCard s path) now (length block) (take k block) L) (omega (arith, here))
        (subst (λ a. EndsAt (OnCard s path) a (length block) (take n block) L) here (subst (λ (l : List ℕ). EndsAt (OnCard s path) at (length l) (take n l) L) same ended))
  ]) one.went;
  cause = one.cause;
}

pub block_whole : (s : ℕ) (path : List ℕ) (at now n : ℕ) (into block : List ℕ) {w0 w1 : World} → n ≡ length into → at ≡ now → into ≡ block → Called (Source s) (GatherCalls (OnCard s path) at into (Ok n)) true w0 w1
    → Called (Source s) (ReadCalls s path now block (Ok None)) true w0 w1
block_whole s path at now n into block whole here same one = record {
  went = went_such (λ L t. elim t [
    | inl all ↦ subst (λ a. Tiles (OnCard s path) a L block) here (subst (λ (l : List ℕ). Tiles (OnCard s path) at L l) (take_all n into (omega (arith, whole)) ∙ same) all.1)
    | inr ended ↦ absurd (let a = length-take-le n into (omega (arith, whole)) in let b = ended.0 in omega (arith, a, b, whole))
  ]) one.went;
  cause = one.cause;
}
