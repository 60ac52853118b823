use Rattle.std.proofs.Common.{◌≡◌, ℕ, zero, suc, ◌<◌, Bool, true, false, not, cond, nat_eq, List, [], ◌∷◌, ◌++◌, refl, ◌∙◌, ap, arith}
use Rattle.std.proofs.lemmas.Bool.Decides.{nat_tests}
use Rattle.bay_mem.specs.declared.lies.Flip.{Flip}
use Rattle.bay_mem.specs.Failing.{BayState}
use Rattle.bay_mem.specs.State.{is_flipped}
use Rattle.whole_copy.proofs.tests.bay_with.Goals as goal

same_number : (a b : ℕ) → a ≡ b → nat_eq a b ≡ true
same_number a b is = grind (arith, nat_tests, is)

or_true : (b x : Bool) → x ≡ true → cond b true x ≡ true
or_true true x is = refl
or_true false x is = is

or_more : (b x y : Bool) → (x ≡ true → y ≡ true) → cond b true x ≡ true → cond b true y ≡ true
or_more true x y more is = refl
or_more false x y more is = more is

-- a drive of which a byte is shown flipped from now on
flipped_now : (flips : List Flip) (f : Flip) (d : ℕ) → f.d ≡ d → is_flipped (flips ++ f ∷ []) d ≡ true
flipped_now [] f d is = ap (λ b. cond b true false) (same_number f.d d is)
flipped_now (g ∷ flips) f d is = or_true (nat_eq g.d d) (is_flipped (flips ++ f ∷ []) d) (flipped_now flips f d is)

-- one of which a byte was
flipped_still : (flips : List Flip) (f : Flip) (d : ℕ) → is_flipped flips d ≡ true → is_flipped (flips ++ f ∷ []) d ≡ true
flipped_still [] f d is = absurd (cc is)
flipped_still (g ∷ flips) f d is = or_more (nat_eq g.d d) (is_flipped flips d) (is_flipped (flips ++ f ∷ []) d) (flipped_still flips f d) is

-- after the flips on drives 0, 1 and 2
all_flipped : (a : List Flip) (f g h : Flip) → f.d ≡ 0 → g.d ≡ 1 → h.d ≡ 2 → (d : ℕ) → d < 3 → is_flipped (((a ++ f ∷ []) ++ g ∷ []) ++ h ∷ []) d ≡ true
all_flipped a f g h zero_is one_is two_is zero below = flipped_still ((a ++ f ∷ []) ++ g ∷ []) h 0 (flipped_still (a ++ f ∷ []) g 0 (flipped_now a f 0 zero_is))
all_flipped a f g h zero_is one_is two_is (suc zero) below = flipped_still ((a ++ f ∷ []) ++ g ∷ []) h 1 (flipped_now (a ++ f ∷ []) g 1 one_is)
all_flipped a f g h zero_is one_is two_is (suc (suc zero)) below = flipped_now ((a ++ f ∷ []) ++ g ∷ []) h 2 two_is
all_flipped a f g h zero_is one_is two_is (suc (suc (suc d))) below = absurd (omega (arith, below))

pub returns-clause-doubted : goal.returns-clause-doubted
returns-clause-doubted c =
    let first = ap (λ (b : BayState). b.seen.fixed.flips) c.in_ok-flip.ensures.ok in
    let second = ap (λ (b : BayState). b.seen.fixed.flips) c.in_ok-flip-2.ensures.ok in
    let third = ap (λ (b : BayState). b.seen.fixed.flips) c.in_ok-flip-3.ensures.ok in
    λ d below. ap not (ap (λ l. is_flipped l d) (third ∙ ap (λ (l : List Flip). l ++ _ ∷ []) (second ∙ ap (λ (l : List Flip). l ++ _ ∷ []) first)) ∙ all_flipped _ _ _ _ refl refl refl d below)
