-- How many drives are sealed, where each is.
use Rattle.std.proofs.Common.{◌≡◌, ℕ, zero, suc, ◌<◌, ◌≤◌, Bool, true, false, List, [], ◌∷◌, length, refl, sym, ap, ◌∙◌, arith}
use Rattle.std.specs.Prelude.{if◌then◌else◌}
use Rattle.std.specs.List.{Contains, filter}
use Rattle.std.proofs.lemmas.Bool.{false≢true}
use Rattle.std.proofs.lemmas.List.Elements.{All-contains, All-filter, All-contains_itself}
use Rattle.fan_core.specs.Flags.{has, count}
use Rattle.run_state.specs.State.{DriveAt, drive_at, is_gone}
use Rattle.run_ends.specs.Whole.{count_there}

-- a set of just the first n numbers has n
pub count_first : (set : List Bool) (n : ℕ) → n ≤ length set → ((d : ℕ) → d < n → has set d ≡ true) → ((d : ℕ) → n ≤ d → has set d ≡ false) → count set ≡ n
count_first [] n few here behind = omega (arith, few)
count_first (true ∷ set) zero few here behind = absurd (false≢true (sym (behind 0 (omega arith))))
count_first (false ∷ set) zero few here behind = count_first set zero (omega arith) (λ d low. absurd (omega (arith, low))) (λ d high. behind (suc d) (omega arith))
count_first (true ∷ set) (suc n) few here behind =
    let rest = count_first set n (omega (arith, few)) (λ d low. here (suc d) (omega (arith, low))) (λ d high. behind (suc d) (omega (arith, high))) in
    omega (arith, rest)
count_first (false ∷ set) (suc n) few here behind = absurd (false≢true (here 0 (omega arith)))

-- each drive is there
pub all_there : (each : List DriveAt) → ((d : ℕ) → d < length each → is_gone (drive_at each d) ≡ false) → count_there each ≡ length each
all_there [] there = refl
all_there (x ∷ each) there =
    let rest = all_there each (λ d low. there (suc d) (omega (arith, low))) in
    ap (λ (b : Bool). if b then count_there each else suc (count_there each)) (there 0 (omega arith)) ∙ ap suc rest

-- what a filter keeps was there
pub was_there : {X : Type 0} (p : X → Bool) (xs : List X) (x : X) → Contains (filter p xs) x → Contains xs x
was_there p xs x has_it = All-contains (Contains xs) (filter p xs) x (All-filter p (Contains xs) xs (All-contains_itself xs)) has_it
