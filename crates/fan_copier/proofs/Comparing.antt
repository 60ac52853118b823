-- How a block is compared with a part, and brought to it.
use Rattle.std.proofs.Common.{◌≡◌, ◌≢◌, inl, inr, ℕ, ◌<◌, Bool, true, false, nat_eq, List, [], ◌∷◌, length, take, refl, sym, ◌∙◌, ap, subst, arith}
use Rattle.std.proofs.lemmas.List.{length-take-le, take_all}
use Rattle.std.proofs.lemmas.Result.{err_from_is_err_and}
use Rattle.std.proofs.Common.{get_or-set_same, get_or-set_other}
use Rattle.std.proofs.lemmas.Bool.Decides.{nat_tests}
use Rattle.std.specs.Prelude.{Result, Ok, Err, is_ok, IsErrAnd, IfOk}
use Rattle.block_pool.specs.Lent.{PoolState, block_at}
use Rattle.block_pool.specs.Lending.{with_block}
use Rattle.bay_core.specs.declared.failed.Failed.{Failed}
use Rattle.bay_core.specs.Paths.{part_path}
use Rattle.bay_core.specs.Replay.{Drive}
use Rattle.bay_core.specs.World.{World}
use Rattle.bay_core.specs.Went.{Called, Tried, write_call}
use Rattle.bay_core.proofs.Runs.{went_then, went_such, rose_since}
use Rattle.fan_copier.specs.Reads.{OnDrive, Tiles, CutAt, Gathered, GatherCalls}
use Rattle.fan_copier.specs.Turning.{CompareCalls, PutCalls, WriteCalls}

-- the reads were cut short
pub compare_cut : (d at : ℕ) (into bytes : List ℕ) (e : Failed) (r : Result Bool Failed) (Q : Failed → Type 0) {w0 w1 : World} → IsErrAnd r Q → length bytes ≡ length into
    → Called (Drive d) (GatherCalls (OnDrive d part_path) at into (Err e)) false w0 w1 → Called (Drive d) (CompareCalls d at bytes r) (is_ok r) w0 w1
compare_cut d at into bytes e r Q {w0} {w1} is size one =
    let p = err_from_is_err_and r is in
    subst (λ q. Called (Drive d) (CompareCalls d at bytes q) (is_ok q) w0 w1) (sym p.1)
    (record { went = went_such (λ L t. subst (λ n. CutAt (OnDrive d part_path) at n L) (sym size) t) one.went; cause = λ _. one.cause refl })

-- all bytes came, and they are compared
pub compare_all : (d at n : ℕ) (into bytes : List ℕ) (same : Bool) {w0 w1 : World} → n ≡ length into → length bytes ≡ length into → (same ≡ true → into ≡ bytes) → (same ≡ false → into ≢ bytes)
    → Called (Drive d) (GatherCalls (OnDrive d part_path) at into (Ok n)) true w0 w1 → Called (Drive d) (CompareCalls d at bytes (Ok same)) true w0 w1
compare_all d at n into bytes true all size agree differs one = record {
  went = went_such (λ L t. elim t [
    | inl came ↦ subst (λ (ys : List ℕ). Tiles (OnDrive d part_path) at L ys) (take_all n into (omega (arith, all)) ∙ agree refl) came.1
    | inr ended ↦ absurd (let a = length-take-le n into (omega (arith, all)) in let b = ended.0 in omega (arith, a, b, all))
  ]) one.went;
  cause = one.cause;
}
compare_all d at n into bytes false all size agree differs one = record {
  went = went_such (λ L t. (take n into, λ is. differs refl (sym (take_all n into (omega (arith, all))) ∙ is), subst (λ k. Gathered (OnDrive d part_path) at k (take n into) L) (sym size) t)) one.went;
  cause = one.cause;
}

-- fewer bytes came
pub compare_fewer : (d at n : ℕ) (into bytes : List ℕ) (same : Bool) {w0 w1 : World} → n < length into → length bytes ≡ length into → same ≡ false
    → Called (Drive d) (GatherCalls (OnDrive d part_path) at into (Ok n)) true w0 w1 → Called (Drive d) (CompareCalls d at bytes (Ok same)) true w0 w1
compare_fewer d at n into bytes same {w0} {w1} fewer size differs one = subst (λ b. Called (Drive d) (CompareCalls d at bytes (Ok b)) true w0 w1) (sym differs) (record {
  went = went_such (λ L t. (
    take n into,
    λ is. (let a = length-take-le n into (omega (arith, fewer)) in let b = ap (length {A = ℕ}) is in omega (arith, a, b, fewer, size)),
    subst (λ k. Gathered (OnDrive d part_path) at k (take n into) L) (sym size) t,
  )) one.went;
  cause = one.cause;
})

-- a drive that keeps no part gets the block
pub put_plain : (keeps : Bool) (d at : ℕ) (bytes : List ℕ) (r : Result Bool Failed) {w0 w1 : World} → keeps ≡ false → Tried d (write_call d part_path at bytes ∷ []) (is_ok r) w0 w1
    → Called (Drive d) (PutCalls keeps d at bytes r) (is_ok r) w0 w1
put_plain keeps d at bytes r {w0} {w1} differs one = subst (λ k. Called (Drive d) (PutCalls k d at bytes r) (is_ok r) w0 w1) (sym differs) (plain r one) where
  plain : (r : Result Bool Failed) {w0 w1 : World} → Tried d (write_call d part_path at bytes ∷ []) (is_ok r) w0 w1 → Called (Drive d) (PutCalls false d at bytes r) (is_ok r) w0 w1
  plain (Ok b) one = one
  plain (Err e) one = one

-- the bytes there are the block's
pub put_agreed : (keeps : Bool) (d at : ℕ) (bytes : List ℕ) {w0 w1 : World} → keeps ≡ true → Called (Drive d) (CompareCalls d at bytes (Ok true)) true w0 w1 → Called (Drive d) (PutCalls keeps d at bytes (Ok true)) true w0 w1
put_agreed keeps d at bytes {w0} {w1} agree one = subst (λ k. Called (Drive d) (PutCalls k d at bytes (Ok true)) true w0 w1) (sym agree) one

-- they are not, so the block is written
pub put_mended : (keeps : Bool) (d at : ℕ) (bytes : List ℕ) (r : Result Bool Failed) {w0 w1 w2 : World} → keeps ≡ true → Called (Drive d) (CompareCalls d at bytes (Ok false)) true w0 w1
    → (is_ok r ≡ true → r ≡ Ok false) → Tried d (write_call d part_path at bytes ∷ []) (is_ok r) w1 w2 → Called (Drive d) (PutCalls keeps d at bytes r) (is_ok r) w0 w2
put_mended keeps d at bytes r {w0} {w1} {w2} agree one not_same two = subst (λ k. Called (Drive d) (PutCalls k d at bytes r) (is_ok r) w0 w2) (sym agree) (mended r not_same two) where
  mended : (r : Result Bool Failed) → (is_ok r ≡ true → r ≡ Ok false) → Tried d (write_call d part_path at bytes ∷ []) (is_ok r) w1 w2 → Called (Drive d) (PutCalls true d at bytes r) (is_ok r) w0 w2
  mended (Ok true) not_same two = absurd (cc (not_same refl))
  mended (Ok false) not_same two = record {
    went = went_such (λ L t. (t.here.0, t.here.1, record { first = t.first; second = t.second; is = t.is; here = t.here.2; there = t.there })) (went_then one.went two.went);
    cause = λ failed. absurd (cc failed);
  }
  mended (Err e) not_same two = record {
    went = went_such (λ L t. inr (t.here.0, t.here.1, record { first = t.first; second = t.second; is = t.is; here = t.here.2; there = t.there })) (went_then one.went two.went);
    cause = λ failed. rose_since _ _ one.went (two.cause refl);
  }

-- the reads were cut short
pub put_cut : (keeps : Bool) (d at : ℕ) (bytes : List ℕ) (e : Failed) {w0 w1 : World} → keeps ≡ true → Called (Drive d) (CompareCalls d at bytes (Err e)) false w0 w1 → Called (Drive d) (PutCalls keeps d at bytes (Err e)) false w0 w1
put_cut keeps d at bytes e {w0} {w1} agree one = subst (λ k. Called (Drive d) (PutCalls k d at bytes (Err e)) false w0 w1) (sym agree) (record { went = went_such (λ L t. inl t) one.went; cause = one.cause })

-- the block of one slot was written, and that of another was not
pub two_blocks : (pool : PoolState) (slot compare : ℕ) (bytes : List ℕ) → compare < length pool.blocks → slot ≢ compare
    → (block_at (with_block pool compare bytes) compare ≡ bytes) × (block_at (with_block pool compare bytes) slot ≡ block_at pool slot)
two_blocks pool slot compare bytes there apart = (get_or-set_same pool.blocks compare bytes [] there, get_or-set_other pool.blocks compare slot bytes [] apart)

pub other_kept : (old new : PoolState) (n k : ℕ) → new ≡ with_block old n (block_at new n) → k ≢ n → block_at new k ≡ block_at old k
other_kept old new n k is apart = ap (λ (p : PoolState). block_at p k) is ∙ get_or-set_other old.blocks n k (block_at new n) [] apart

pub not_equal : (n m : ℕ) → n ≢ m → nat_eq n m ≡ false
not_equal n m differ = grind (arith, nat_tests)

-- what is false where it went well
pub only_false : (r : Result Bool Failed) → IfOk r (λ same. same ≡ false) → is_ok r ≡ true → r ≡ Ok false
only_false (Ok b) false_one agree = ap Ok false_one
only_false (Err e) false_one agree = absurd (cc agree)

-- the calls of a put, with the block's bytes and what the drive keeps in other words
pub put_as : (keeps kept still : Bool) (d at : ℕ) (bytes block : List ℕ) (r : Result Bool Failed) {w0 w1 : World} → keeps ≡ kept → bytes ≡ block → (r ≡ Ok true → still ≡ true) → ((r ≡ Ok true → ⊥) → still ≡ false)
    → Called (Drive d) (PutCalls keeps d at bytes r) (is_ok r) w0 w1 → Called (Drive d) (WriteCalls kept still (is_ok r) d at block) (is_ok r) w0 w1
put_as keeps kept still d at bytes block r {w0} {w1} same_kept same_bytes agree differs one =
    subst (λ k. Called (Drive d) (WriteCalls k still (is_ok r) d at block) (is_ok r) w0 w1) same_kept
    (subst (λ (l : List ℕ). Called (Drive d) (WriteCalls keeps still (is_ok r) d at l) (is_ok r) w0 w1) same_bytes (by_answer r agree differs one)) where
      by_answer : (r : Result Bool Failed) → (r ≡ Ok true → still ≡ true) → ((r ≡ Ok true → ⊥) → still ≡ false) → Called (Drive d) (PutCalls keeps d at bytes r) (is_ok r) w0 w1 → Called (Drive d) (WriteCalls keeps still (is_ok r) d at bytes) (is_ok r) w0 w1
      by_answer (Ok true) agree differs one = subst (λ b. Called (Drive d) (WriteCalls keeps b true d at bytes) true w0 w1) (sym (agree refl)) one
      by_answer (Ok false) agree differs one = subst (λ b. Called (Drive d) (WriteCalls keeps b true d at bytes) true w0 w1) (sym (differs (λ is. cc is))) one
      by_answer (Err e) agree differs one = subst (λ b. Called (Drive d) (WriteCalls keeps b false d at bytes) false w0 w1) (sym (differs (λ is. cc is))) one

abbrev answered : Bool → Result Bool Failed
answered b = Ok b

-- an answer that is false is not true
pub not_true : (b : Bool) → b ≡ false → answered b ≡ answered true → ⊥
not_true true is same = cc is
not_true false is same = cc same
