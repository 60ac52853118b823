-- The groups of a list: one group by its place, and the groups of two lists one after the other.
use Rattle.std.proofs.Common.{◌≡◌, ℕ, zero, suc, ◌+◌, ◌-◌, ◌*◌, ◌/◌, ◌%◌, ◌<◌, ◌≤◌, List, [], ◌∷◌, ◌++◌, length, take, drop, get_or, refl, ◌∙◌, arith, length-append, length-drop}
use Rattle.std.proofs.lemmas.List.{take-append-le, drop-append-le, drop-drop, take_all, drop_all}
use Rattle.std.specs.Simd.{first_chunks}
use Rattle.xxh64_stream.specs.Xxh64.{groups, after_groups}

-- one group by its place
pub get_or-first_chunks : (n k : ℕ) (xs : List ℕ) (i : ℕ) → i < k → get_or (first_chunks n k xs) i [] ≡ take n (drop (n * i) xs)
get_or-first_chunks n zero xs i h = absurd (omega arith)
get_or-first_chunks n (suc k) xs zero h =
    let first : n * zero ≡ 0 = omega arith in
    rw first
get_or-first_chunks n (suc k) xs (suc i) h =
    let place : n + n * i ≡ n * suc i = omega arith in
    get_or-first_chunks n k (drop n xs) i (omega arith) ∙ rw (drop-drop (n * i) n xs, place)

-- the groups that one list is long enough for are its own
first_chunks-front : (n k : ℕ) (xs ys : List ℕ) → k * n ≤ length xs → first_chunks n k (xs ++ ys) ≡ first_chunks n k xs
first_chunks-front n zero xs ys h = refl
first_chunks-front n (suc k) xs ys h =
    let fits : n ≤ length xs = omega arith in
    let more : k * n ≤ length (drop n xs) = omega (arith, length-drop n xs) in
    rw (take-append-le n xs ys fits, drop-append-le n xs ys fits, first_chunks-front n k (drop n xs) ys more)

-- some groups and then some more
first_chunks-more : (n a b : ℕ) (xs : List ℕ) → first_chunks n (a + b) xs ≡ first_chunks n a xs ++ first_chunks n b (drop (a * n) xs)
first_chunks-more n zero b xs =
    let none : zero + b ≡ b = omega arith in
    let start : zero * n ≡ 0 = omega arith in
    rw (none, start)
first_chunks-more n (suc a) b xs =
    let one : suc a + b ≡ suc (a + b) = omega arith in
    let place : n + a * n ≡ suc a * n = omega arith in
    let rest : drop (a * n) (drop n xs) ≡ drop (suc a * n) xs = rw (drop-drop (a * n) n xs, place) in
    rw (one, first_chunks-more n a b (drop n xs), rest)

-- the number of groups of 32 of two lists one after the other
count : (xs ys : List ℕ) → length (xs ++ ys) / 32 ≡ length xs / 32 + length (after_groups 32 xs ++ ys) / 32
count xs ys =
    let rest : length (after_groups 32 xs) ≡ length xs - length xs / 32 * 32 = length-drop (length xs / 32 * 32) xs in
    omega (arith, length-append xs ys, length-append (after_groups 32 xs) ys)

-- what of the second list belongs to what the groups of the first leave
dropped : (xs ys : List ℕ) → drop (length xs / 32 * 32) (xs ++ ys) ≡ after_groups 32 xs ++ ys
dropped xs ys = drop-append-le (length xs / 32 * 32) xs ys (omega arith)

pub groups-append : (xs ys : List ℕ) → groups 32 (xs ++ ys) ≡ groups 32 xs ++ groups 32 (after_groups 32 xs ++ ys)
groups-append xs ys =
    let q : ℕ = length xs / 32 in
    let p : ℕ = length (after_groups 32 xs ++ ys) / 32 in
    rw (count xs ys, first_chunks-more 32 q p (xs ++ ys), first_chunks-front 32 q xs ys (omega arith), dropped xs ys)

pub after_groups-append : (xs ys : List ℕ) → after_groups 32 (xs ++ ys) ≡ after_groups 32 (after_groups 32 xs ++ ys)
after_groups-append xs ys =
    let q : ℕ = length xs / 32 in
    let p : ℕ = length (after_groups 32 xs ++ ys) / 32 in
    let place : (q + p) * 32 ≡ q * 32 + p * 32 = omega arith in
    rw (count xs ys, place, ← drop-drop (p * 32) (q * 32) (xs ++ ys), dropped xs ys)

-- a list of 32 is one group
pub groups-one : (xs : List ℕ) → length xs ≡ 32 → groups 32 xs ≡ xs ∷ []
groups-one xs h = rw (h, take_all 32 xs (omega arith))

pub after_groups-one : (xs : List ℕ) → length xs ≡ 32 → after_groups 32 xs ≡ []
after_groups-one xs h = drop_all (length xs / 32 * 32) xs (omega arith)

-- a list of whole groups leaves nothing
pub after_groups-empty : (xs : List ℕ) → length xs % 32 ≡ 0 → after_groups 32 xs ≡ []
after_groups-empty xs h = drop_all (length xs / 32 * 32) xs (omega arith)

-- a list of fewer has none
pub groups-none : (xs : List ℕ) → length xs < 32 → groups 32 xs ≡ []
groups-none xs h = let none : length xs / 32 ≡ 0 = omega arith in rw none

pub after_groups-none : (xs : List ℕ) → length xs < 32 → after_groups 32 xs ≡ xs
after_groups-none xs h = let none : length xs / 32 * 32 ≡ 0 = omega arith in rw none

-- how many bytes are left after the groups
pub length-after_groups : (xs : List ℕ) → length (after_groups 32 xs) ≡ length xs % 32
length-after_groups xs = omega (arith, length-drop (length xs / 32 * 32) xs)
