-- What the definitions of the window do at one more, at a write and at a drop.
use Rattle.std.proofs.Common.{◌≡◌, ℕ, zero, suc, ◌+◌, ◌-◌, ◌*◌, ◌<◌, ◌≤◌, min, Bool, true, false, cond, ◌&&◌, nat_lt, List, [], ◌∷◌, length, take, replicate, slice_index, slice_set, refl, sym, ◌∙◌, ap, arith, add-one}
use Rattle.std.specs.Prelude.{Option, Some, None, option_map, IsNone, ◌↔◌}
use Rattle.fan_core.specs.Flags.{has, no_drives, lowest, count}
use Rattle.fan_core.specs.Next.{fewest, behind, to_write}

-- a drive waits where it is live and wrote less than was read
pub has-behind : (live : List Bool) (written : List ℕ) (read d : ℕ) → length written ≡ length live → has (behind live written read) d ≡ has live d && nat_lt (slice_index written d) read
has-behind [] [] read d same = refl
has-behind [] (blocks ∷ written) read d same = refl
has-behind (is_live ∷ live) [] read d same = absurd (omega arith)
has-behind (true ∷ live) (blocks ∷ written) read zero same = refl
has-behind (false ∷ live) (blocks ∷ written) read zero same = refl
has-behind (true ∷ live) (blocks ∷ written) read (suc d) same = has-behind live written read d (omega arith)
has-behind (false ∷ live) (blocks ∷ written) read (suc d) same = has-behind live written read d (omega arith)

pub length-behind : (live : List Bool) (written : List ℕ) (read : ℕ) → length written ≡ length live → length (behind live written read) ≡ length live
length-behind [] [] read same = refl
length-behind [] (blocks ∷ written) read same = refl
length-behind (is_live ∷ live) [] read same = absurd (omega arith)
length-behind (is_live ∷ live) (blocks ∷ written) read same = ap suc (length-behind live written read (omega arith))

-- a number of the set that no lower number is before
pub lowest_at : (set : List Bool) (d : ℕ) → has set d ≡ true → ((k : ℕ) → k < d → has set k ≡ true → ⊥) → lowest set ≡ Some d
lowest_at [] d at before = absurd (cc at)
lowest_at (true ∷ set) zero at before = refl
lowest_at (true ∷ set) (suc d) at before = absurd (before 0 (omega arith) refl)
lowest_at (false ∷ set) zero at before = absurd (cc at)
lowest_at (false ∷ set) (suc d) at before = ap (option_map (λ n. n + 1)) (lowest_at set d at (λ k below is. before (suc k) (omega (arith, below)) is)) ∙ ap Some (add-one d)

pub lowest_none : (set : List Bool) → ((k : ℕ) → k < length set → has set k ≡ true → ⊥) → lowest set ≡ None
lowest_none [] none = refl
lowest_none (true ∷ set) none = absurd (none 0 (omega arith) refl)
lowest_none (false ∷ set) none = ap (option_map (λ n. n + 1)) (lowest_none set (λ k below is. none (suc k) (omega (arith, below)) is))

some_more : (found : Option ℕ) (d : ℕ) → option_map (λ n. n + 1) found ≡ Some d → (before : ℕ) × (found ≡ Some before) × (d ≡ suc before)
some_more None d is = absurd (cc is)
some_more (Some before) d is = let next : before + 1 ≡ d = cc is in (before, refl, omega (arith, next))

pub lowest_has : (set : List Bool) (d : ℕ) → lowest set ≡ Some d → has set d ≡ true
lowest_has [] d is = absurd (cc is)
lowest_has (true ∷ set) d is = let first : 0 ≡ d = cc is in ap (has (true ∷ set)) (sym first)
lowest_has (false ∷ set) d is =
    let more = some_more (lowest set) d is in
    ap (has (false ∷ set)) more.2 ∙ lowest_has set more.0 more.1

none_more : (found : Option ℕ) → option_map (λ n. n + 1) found ≡ None → found ≡ None
none_more None is = refl
none_more (Some d) is = absurd (cc is)

pub none_lowest : (set : List Bool) → lowest set ≡ None → (k : ℕ) → has set k ≡ false
none_lowest [] is k = refl
none_lowest (true ∷ set) is k = absurd (cc is)
none_lowest (false ∷ set) is zero = refl
none_lowest (false ∷ set) is (suc k) = none_lowest set (none_more (lowest set) is) k

-- a set with no lowest number is empty
pub empty_of_none : (set : List Bool) → lowest set ≡ None → set ≡ replicate (length set) false
empty_of_none [] is = refl
empty_of_none (true ∷ set) is = absurd (cc is)
empty_of_none (false ∷ set) is = ap (λ (rest : List Bool). false ∷ rest) (empty_of_none set (none_more (lowest set) is))

-- a lowest number is none exactly where the set is the empty one
pub lowest_none_exactly : (set : List Bool) (found : Option ℕ) → length set ≡ 8 → found ≡ lowest set → IsNone found ↔ (set ≡ no_drives)
lowest_none_exactly set None eight is = (λ _. empty_of_none set (sym is) ∙ ap (λ n. replicate n false) eight, λ _. refl)
lowest_none_exactly set (Some d) eight is = (λ none. absurd (cc none), λ empty. let never : Some d ≡ None = is ∙ ap lowest empty in absurd (cc never))

pub count-take : (set : List Bool) (i : ℕ) → i < length set → count (take (suc i) set) ≡ cond (has set i) (count (take i set) + 1) (count (take i set))
count-take [] i in_range = absurd (omega arith)
count-take (true ∷ set) zero in_range = refl
count-take (false ∷ set) zero in_range = refl
count-take (true ∷ set) (suc i) in_range = ap (λ n. n + 1) (count-take set i (omega arith)) ∙ cases (has set i) (count (take i set)) where
  cases : (b : Bool) (n : ℕ) → cond b (n + 1) n + 1 ≡ cond b ((n + 1) + 1) (n + 1)
  cases true n = refl
  cases false n = refl
count-take (false ∷ set) (suc i) in_range = count-take set i (omega arith)

pub fewest-take : (live : List Bool) (written : List ℕ) (read i : ℕ) → i < length live → length written ≡ length live
    → fewest (take (suc i) live) (take (suc i) written) read ≡ cond (has live i) (min (fewest (take i live) (take i written) read) (slice_index written i)) (fewest (take i live) (take i written) read)
fewest-take [] written read i in_range same = absurd (omega arith)
fewest-take (is_live ∷ live) [] read i in_range same = absurd (omega arith)
fewest-take (true ∷ live) (blocks ∷ written) read zero in_range same = omega arith
fewest-take (false ∷ live) (blocks ∷ written) read zero in_range same = refl
fewest-take (true ∷ live) (blocks ∷ written) read (suc i) in_range same =
    ap (min blocks) (fewest-take live written read i (omega arith) (omega arith))
    ∙ push (has live i) blocks (fewest (take i live) (take i written) read) (slice_index written i)
  where
    push : (b : Bool) (first least next : ℕ) → min first (cond b (min least next) least) ≡ cond b (min (min first least) next) (min first least)
    push true first least next = omega arith
    push false first least next = refl
fewest-take (false ∷ live) (blocks ∷ written) read (suc i) in_range same = fewest-take live written read i (omega arith) (omega arith)

-- no live drive wrote fewer than the fewest
pub fewest_le : (live : List Bool) (written : List ℕ) (read d : ℕ) → length written ≡ length live → has live d ≡ true → fewest live written read ≤ slice_index written d
fewest_le [] written read d same is = absurd (cc is)
fewest_le (is_live ∷ live) [] read d same is = absurd (omega arith)
fewest_le (true ∷ live) (blocks ∷ written) read zero same is = omega arith
fewest_le (false ∷ live) (blocks ∷ written) read zero same is = absurd (cc is)
fewest_le (true ∷ live) (blocks ∷ written) read (suc d) same is = let below = fewest_le live written read d (omega arith) is in omega (arith, below)
fewest_le (false ∷ live) (blocks ∷ written) read (suc d) same is = fewest_le live written read d (omega arith) is

pub fewest_read : (live : List Bool) (written : List ℕ) (read : ℕ) → fewest live written read ≤ read
fewest_read [] written read = omega arith
fewest_read (true ∷ live) [] read = omega arith
fewest_read (false ∷ live) [] read = omega arith
fewest_read (true ∷ live) (blocks ∷ written) read = let below = fewest_read live written read in omega (arith, below)
fewest_read (false ∷ live) (blocks ∷ written) read = fewest_read live written read

-- the fewest is at least what each live drive wrote at least
pub fewest_least : (live : List Bool) (written : List ℕ) (read least : ℕ) → least ≤ read → ((d : ℕ) → has live d ≡ true → least ≤ slice_index written d) → least ≤ fewest live written read
fewest_least [] written read least most each = most
fewest_least (true ∷ live) [] read least most each = most
fewest_least (false ∷ live) [] read least most each = most
fewest_least (true ∷ live) (blocks ∷ written) read least most each =
    let first : least ≤ blocks = each 0 refl in
    let rest = fewest_least live written read least most (λ d is. each (suc d) is) in
    omega (arith, first, rest)
fewest_least (false ∷ live) (blocks ∷ written) read least most each = fewest_least live written read least most (λ d is. each (suc d) is)

pub to_write-written : (live : List Bool) (written : List ℕ) (all d : ℕ) → length written ≡ length live → has live d ≡ true → slice_index written d < all
    → to_write live (slice_set written d (slice_index written d + 1)) all + 1 ≡ to_write live written all
to_write-written [] written all d same is some = absurd (cc is)
to_write-written (is_live ∷ live) [] all d same is some = absurd (omega arith)
to_write-written (true ∷ live) (blocks ∷ written) all zero same is some = omega (arith, some)
to_write-written (false ∷ live) (blocks ∷ written) all zero same is some = absurd (cc is)
to_write-written (true ∷ live) (blocks ∷ written) all (suc d) same is some = let rest = to_write-written live written all d (omega arith) is some in omega (arith, rest)
to_write-written (false ∷ live) (blocks ∷ written) all (suc d) same is some = to_write-written live written all d (omega arith) is some

pub to_write-dropped : (live : List Bool) (written : List ℕ) (all d : ℕ) → length written ≡ length live → has live d ≡ true
    → to_write (slice_set live d false) written all + (all - slice_index written d) ≡ to_write live written all
to_write-dropped [] written all d same is = absurd (cc is)
to_write-dropped (is_live ∷ live) [] all d same is = absurd (omega arith)
to_write-dropped (true ∷ live) (blocks ∷ written) all zero same is = omega arith
to_write-dropped (false ∷ live) (blocks ∷ written) all zero same is = absurd (cc is)
to_write-dropped (true ∷ live) (blocks ∷ written) all (suc d) same is = let rest = to_write-dropped live written all d (omega arith) is in omega (arith, rest)
to_write-dropped (false ∷ live) (blocks ∷ written) all (suc d) same is = to_write-dropped live written all d (omega arith) is

pub to_write-new : (live : List Bool) (n all : ℕ) → length live ≡ n → to_write live (replicate n 0) all ≡ count live * all
to_write-new [] n all same = grind arith
to_write-new (is_live ∷ live) zero all same = absurd (omega arith)
to_write-new (true ∷ live) (suc n) all same = let rest = to_write-new live n all (omega arith) in grind (arith, rest)
to_write-new (false ∷ live) (suc n) all same = to_write-new live n all (omega arith)
