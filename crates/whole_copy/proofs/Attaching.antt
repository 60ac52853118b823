-- A bay that tells nothing.
use Rattle.std.proofs.Common.{◌≡◌, ℕ, zero, suc, ◌<◌, ◌⊎◌, inl, inr, Bool, true, false, List, [], ◌∷◌, length, replicate, slice_set, refl, sym, ◌∙◌, arith}
use Rattle.std.specs.Prelude.{Option, Some, None}
use Rattle.bay_core.specs.declared.event.Event.{Event}
use Rattle.bay_core.specs.Replay.{Device}
use Rattle.bay_core.specs.World.{World}
use Rattle.bay_core.specs.Went.{Made}
use Rattle.fan_core.specs.Flags.{has}
use Rattle.fan_copier.specs.Copying.{NoPart}
use Rattle.fan_copier.specs.Ring.{taken, IsOut}

-- it tells nothing after a call either
pub untold_still : {On : Device → Type 0} {P : List Event → Type 0} (old new : Option (List Event)) → ((all : List Event) → new ≡ Some all → Made On P old all) → old ≡ None → new ≡ None
untold_still old None told none = refl
untold_still old (Some all) told none = absurd (cc (sym (told all refl).was ∙ none))

-- so none of its drives is known to be honest
pub untold_no_part : (w : World) (d : ℕ) → w.events ≡ None → NoPart d w
untold_no_part w d none = λ m L h. absurd (cc (sym h.events ∙ none))

-- a number of a set with one more is that one or was there
pub with_that : (set : List Bool) (n d : ℕ) → has (slice_set set n true) d ≡ true → (d ≡ n) ⊎ (has set d ≡ true)
with_that [] n d there = absurd (cc there)
with_that (x ∷ set) zero zero there = inl refl
with_that (x ∷ set) zero (suc d) there = inr there
with_that (x ∷ set) (suc n) zero there = inr there
with_that (x ∷ set) (suc n) (suc d) there = elim (with_that set n d there) [ inl here ↦ inl (cong here) | inr was ↦ inr was ] where
  cong : {a b : ℕ} → a ≡ b → suc a ≡ suc b
  cong is = cc is

-- the first number is there where it was, or was set
pub first_there : (set : List Bool) (n : ℕ) → 0 < length set → (n ≡ 0) ⊎ (has set 0 ≡ true) → has (slice_set set n true) 0 ≡ true
first_there [] n some is = absurd (omega (arith, some))
first_there (x ∷ set) zero some is = refl
first_there (x ∷ set) (suc n) some (inl never) = absurd (cc never)
first_there (x ∷ set) (suc n) some (inr was) = was

-- there are no numbers in a set of none
pub none_there : (n d : ℕ) → has (replicate n false) d ≡ true → ⊥
none_there zero d there = cc there
none_there (suc n) zero there = cc there
none_there (suc n) (suc d) there = none_there n d there

-- a copy without slots has no slot
pub none_taken : (ring : List (Option ℕ)) → taken ring ≡ 0 → (n : ℕ) → IsOut ring n
none_taken [] none n i at = cc at
none_taken (None ∷ ring) none n zero at = cc at
none_taken (None ∷ ring) none n (suc i) at = none_taken ring none n i at
none_taken (Some m ∷ ring) none n i at = absurd (omega (arith, none))

-- a drive's number is the first, or the first is there
pub first_or : (i n : ℕ) (set : List Bool) → n ≡ i → (0 < i → has set 0 ≡ true) → (n ≡ 0) ⊎ (has set 0 ≡ true)
first_or zero n set same first = inl same
first_or (suc i) n set same first = inr (first (omega arith))
