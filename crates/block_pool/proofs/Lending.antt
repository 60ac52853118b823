-- Blocks that are lent and given back.
use Rattle.std.proofs.Common.{◌≡◌, ℕ, zero, suc, ◌+◌, ◌<◌, Bool, true, false, cond, List, [], ◌∷◌, length, take, slice_index_or, slice_set, refl, ◌∙◌, ap, arith, get_or-set_same, get_or-set_other}
use Rattle.block_pool.specs.Lent.{PoolState, is_lent, free_in, lent_in, OthersStay, LendsOut, TakesBack}

-- free and lent together are all that were made
pub free_and_lent : (lent : List Bool) → free_in lent + lent_in lent ≡ length lent
free_and_lent [] = omega arith
free_and_lent (true ∷ lent) = let rest = free_and_lent lent in omega (arith, rest)
free_and_lent (false ∷ lent) = let rest = free_and_lent lent in omega (arith, rest)

-- the free blocks among the first, with one block more
pub free_in-take : (lent : List Bool) (i : ℕ) → i < length lent → free_in (take (suc i) lent) ≡ cond (slice_index_or lent i false) (free_in (take i lent)) (free_in (take i lent) + 1)
free_in-take [] i in_range = absurd (omega arith)
free_in-take (true ∷ lent) zero in_range = refl
free_in-take (false ∷ lent) zero in_range = refl
free_in-take (true ∷ lent) (suc i) in_range = free_in-take lent i (omega arith)
free_in-take (false ∷ lent) (suc i) in_range = ap (λ n. n + 1) (free_in-take lent i (omega arith)) ∙ cases (slice_index_or lent i false) (free_in (take i lent)) where
  cases : (b : Bool) (n : ℕ) → cond b n (n + 1) + 1 ≡ cond b (n + 1) ((n + 1) + 1)
  cases true n = refl
  cases false n = refl

-- where no block is seen to be free, none is
pub free_in-none : (lent : List Bool) → ((k : ℕ) → k < length lent → slice_index_or lent k false ≡ false → ⊥) → free_in lent ≡ 0
free_in-none [] none = refl
free_in-none (true ∷ lent) none = free_in-none lent (λ k below is. none (suc k) (omega (arith, below)) is)
free_in-none (false ∷ lent) none = absurd (none 0 (omega arith) refl)

one_less : (lent : List Bool) (n : ℕ) → n < length lent → slice_index_or lent n false ≡ false → free_in (slice_set lent n true) + 1 ≡ free_in lent
one_less [] n in_range free = absurd (omega arith)
one_less (true ∷ lent) zero in_range free = absurd (cc free)
one_less (false ∷ lent) zero in_range free = refl
one_less (true ∷ lent) (suc n) in_range free = one_less lent n (omega arith) free
one_less (false ∷ lent) (suc n) in_range free = ap (λ k. k + 1) (one_less lent n (omega arith) free)

one_more : (lent : List Bool) (n : ℕ) → slice_index_or lent n false ≡ true → free_in (slice_set lent n false) ≡ free_in lent + 1
one_more [] n is = absurd (cc is)
one_more (true ∷ lent) zero is = refl
one_more (false ∷ lent) zero is = absurd (cc is)
one_more (true ∷ lent) (suc n) is = one_more lent n is
one_more (false ∷ lent) (suc n) is = ap (λ k. k + 1) (one_more lent n is)

-- a block that is lent is one of the blocks
pub lent_in_range : (lent : List Bool) (n : ℕ) → slice_index_or lent n false ≡ true → n < length lent
lent_in_range [] n is = absurd (cc is)
lent_in_range (flag ∷ lent) zero is = omega arith
lent_in_range (flag ∷ lent) (suc n) is = let rest = lent_in_range lent n is in omega (arith, rest)

-- a flag that is set leaves the other blocks
others_stay : (pool : PoolState) (number : ℕ) (flag : Bool) → OthersStay number pool (record pool { lent = slice_set pool.lent number flag })
others_stay pool number flag = λ n apart. (get_or-set_other pool.lent number n flag false apart, refl)

-- a free block whose flag is set is lent
pub lends_out : (pool : PoolState) (number : ℕ) → number < length pool.lent → is_lent pool number ≡ false → LendsOut number pool (record pool { lent = slice_set pool.lent number true })
lends_out pool number in_range free =
    let less = one_less pool.lent number in_range free in
    record {
      some_free = omega (arith, less);
      was_free = free;
      is = refl;
      lent = get_or-set_same pool.lent number true false in_range;
      one_less = less;
      others = others_stay pool number true;
    }

-- a lent block whose flag is taken away is free again
pub takes_back : (pool : PoolState) (number : ℕ) → is_lent pool number ≡ true → TakesBack number pool (record pool { lent = slice_set pool.lent number false })
takes_back pool number lent = record {
  is = refl;
  free = get_or-set_same pool.lent number false false (lent_in_range pool.lent number lent);
  one_more = one_more pool.lent number lent;
  others = others_stay pool number false;
}
