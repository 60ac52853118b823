-- A copy at its begin.
use Rattle.std.proofs.Common.{◌≡◌, ◌⊎◌, inl, inr, ℕ, zero, suc, ◌+◌, ◌*◌, ◌≤◌, ◌<◌, Bool, true, false, not, ◌&&◌, List, [], ◌∷◌, length, take, slice_index, refl, sym, ap, subst, arith, ◌∙◌}
use Rattle.bay_core.specs.World.{World}
use Rattle.fan_core.specs.Flags.{has, count}
use Rattle.fan_copier.specs.Standing.{Standing}
use Rattle.fan_copier.specs.Copying.{PartBegins, NoPart, Parts}

-- a number of a set stands in its list
pub has_below : (set : List Bool) (d : ℕ) → has set d ≡ true → d < length set
has_below [] d there = absurd (cc there)
has_below (x ∷ set) zero there = omega arith
has_below (x ∷ set) (suc d) there = let rest = has_below set d there in omega (arith, rest)

-- a set within another has no more numbers
pub count_le : (less more : List Bool) → ((d : ℕ) → has less d ≡ true → has more d ≡ true) → count less ≤ count more
count_le [] more within = omega arith
count_le (false ∷ less) [] within = count_le less [] (λ d there. absurd (cc (within (suc d) there)))
count_le (true ∷ less) [] within = absurd (cc (within 0 refl))
count_le (false ∷ less) (true ∷ more) within = let rest = count_le less more (λ d there. within (suc d) there) in omega (arith, rest)
count_le (false ∷ less) (false ∷ more) within = count_le less more (λ d there. within (suc d) there)
count_le (true ∷ less) (true ∷ more) within = let rest = count_le less more (λ d there. within (suc d) there) in omega (arith, rest)
count_le (true ∷ less) (false ∷ more) within = absurd (cc (within 0 refl))

-- the turns that are left at the begin
pub turns_at_begin : (b n p a : ℕ) → a ≡ b + n * b → p ≤ n → p + a + 1 ≤ (b + 1) * (n + 1)
turns_at_begin b n p a is most = let whole = all b n in omega (arith, is, most, whole) where
  all : (b n : ℕ) → (b + 1) * (n + 1) ≡ n * b + b + n + 1
  all b n = grind arith

take_none : (n : ℕ) → take {A = ℕ} n [] ≡ []
take_none zero = refl
take_none (suc n) = refl

either : (b : Bool) → (b ≡ true) ⊎ (b ≡ false)
either true = inl refl
either false = inr refl

-- the drives of a set that are not among others, where none is above 7
pub pieces_at_begin : (pieces drives kept : List Bool) → length drives ≡ 8 → ((d : ℕ) → has pieces d ≡ true → (has drives d ≡ true) × (has kept d ≡ false))
    → ((d : ℕ) → d < 8 → has drives d ≡ true → has kept d ≡ false → has pieces d ≡ true) → (d : ℕ) → has pieces d ≡ (has drives d && not (has kept d))
pieces_at_begin pieces drives kept eight within all d = by (has pieces d) (has drives d) (has kept d) refl refl refl where
  by : (p l k : Bool) → has pieces d ≡ p → has drives d ≡ l → has kept d ≡ k → p ≡ (l && not k)
  by true l k there live keeps = let w = within d there in sym (λ i. (sym live ∙ w.0) i && not ((sym keeps ∙ w.1) i))
  by false false k there live keeps = refl
  by false true true there live keeps = refl
  by false true false there live keeps = let below = has_below drives d live in absurd (cc (sym there ∙ all d (omega (arith, below, eight)) live keeps))

-- each drive keeps its part or has none
pub parts_at_begin : (size : ℕ) (at : Standing) (w : World) (drives : List Bool) → at.counts.live ≡ drives → length at.counts.live ≡ 8 → ((d : ℕ) → has at.pieces d ≡ true → (has drives d ≡ true) × (has at.kept d ≡ false))
    → ((d : ℕ) → d < 8 → has drives d ≡ true → has at.kept d ≡ false → has at.pieces d ≡ true) → ((d : ℕ) → has drives d ≡ true → has at.kept d ≡ false → NoPart d w) → ((d : ℕ) → has at.kept d ≡ true → PartBegins d size w []) → Parts size at w []
parts_at_begin size at w drives live eight within all none kept = record {
  part = λ d there ready.
      let below = has_below at.counts.live d there in
      let here : has drives d ≡ true = ap (λ (set : List Bool). has set d) (sym live) ∙ there in
      subst (λ (bytes : List ℕ). PartBegins d size w bytes) (sym (take_none (slice_index at.counts.written d * 65536))) (elim (either (has at.kept d)) [
        | inl keeps ↦ kept d keeps
        | inr out ↦ absurd (cc (sym ready ∙ all d (omega (arith, below, eight)) here out))
      ]);
  no_part = λ d there. none d (within d there).0 (within d there).1;
}
