-- A copy to one drive, and its pool.
use Rattle.std.proofs.Common.{◌≡◌, inl, inr, ℕ, zero, suc, ◌<◌, Bool, true, false, List, [], ◌∷◌, replicate, sym, ap, ◌∙◌, subst, arith, get_or-set_same, get_or-set_other}
use Rattle.std.specs.Prelude.{Option, Some, None}
use Rattle.std.proofs.lemmas.Bool.{cases_eq}
use Rattle.bay_core.specs.World.{World}
use Rattle.block_pool.specs.Lent.{PoolState}
use Rattle.fan_core.specs.Flags.{has, no_drives}
use Rattle.fan_copier.specs.Copying.{NoPart}
use Rattle.fan_copier.specs.Ring.{taken, IsOut, KeepsPool, GivesAll}
use Rattle.first_file.specs.Copied.{SparesPool, just}

-- there are no numbers in a set of none
none_there : (n d : ℕ) → has (replicate n false) d ≡ true → ⊥
none_there zero d there = cc there
none_there (suc n) zero there = cc there
none_there (suc n) (suc d) there = none_there n d there

pub in_none : (set : List Bool) (d : ℕ) → set ≡ no_drives → has set d ≡ true → ⊥
in_none set d is there = none_there 8 d (ap (λ (l : List Bool). has l d) (sym is) ∙ there)

-- the one number of a set
pub just_there : (d : ℕ) → d < 8 → has (just d) d ≡ true
just_there d low = get_or-set_same no_drives d true false low

pub just_one : (d e : ℕ) → has (just d) e ≡ true → e ≡ d
just_one d e there = elim (cases_eq e d) [
  | inl same ↦ same
  | inr differ ↦ absurd (none_there 8 e (sym (get_or-set_other no_drives d e true false differ) ∙ there))
]

-- no drive of it has a part, and none keeps one
pub fresh_parts : (d : ℕ) (w : World) → NoPart d w → (e : ℕ) → has (just d) e ≡ true → NoPart e w
fresh_parts d w none e there = subst (λ k. NoPart k w) (sym (just_one d e there)) none

-- a copy without slots has no slot
pub none_taken : (ring : List (Option ℕ)) → taken ring ≡ 0 → (n : ℕ) → IsOut ring n
none_taken [] none n i at = cc at
none_taken (None ∷ ring) none n zero at = cc at
none_taken (None ∷ ring) none n (suc i) at = none_taken ring none n i at
none_taken (Some m ∷ ring) none n i at = absurd (omega (arith, none))

-- a whole copy gives its slots back
pub spares : (slot : ℕ) (first last : List (Option ℕ)) (before mid after : PoolState) → taken first ≡ 0 → KeepsPool slot first last before mid → GivesAll last mid after → SparesPool slot before after
spares slot first last before mid after none kept given = record {
  free = let a = kept.sum in let b = given.sum in omega (arith, a, b, none);
  lent = λ n there. let out = none_taken first none n in (given.spares n (kept.spares n there out).0 (kept.out n there out)).0;
  bytes = λ n there other.
      let out = none_taken first none n in
      let still = given.spares n (kept.spares n there out).0 (kept.out n there out) in
      still.1 tt ∙ (kept.spares n there out).1 other;
}
