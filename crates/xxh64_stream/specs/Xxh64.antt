-- XXH64 as a function on a whole list of bytes, after the description of the algorithm in the
-- sources of xxHash (doc/xxhash_spec.md, "XXH64 algorithm description"), whose steps are named
-- here. A word is a number below 2 ^ 64.
use Rattle.std.specs.Prelude.{ℕ, ◌+◌, ◌-◌, ◌*◌, ◌/◌, ◌%◌, ◌^◌, nat_le, if◌then◌else◌, List, [], ◌∷◌, length, take, drop, bit_xor, slice_index}
use Rattle.std.specs.Int.{w64, rotate_left, to_be_bytes}
use Rattle.std.specs.List.{fold}
use Rattle.std.specs.Simd.{first_chunks}

-- ---- words

-- sum, difference and product of words, without what does not fit a word
abbrev pub add64 : ℕ → ℕ → ℕ
add64 x y = (x + y) % 2 ^ 64

abbrev pub sub64 : ℕ → ℕ → ℕ
sub64 x y = (x + (2 ^ 64 - y)) % 2 ^ 64

abbrev pub mul64 : ℕ → ℕ → ℕ
mul64 x y = (x * y) % 2 ^ 64

-- a word turned left by k bits: what leaves at the top comes in at the bottom
abbrev pub rotl : ℕ → ℕ → ℕ
rotl x k = rotate_left w64 x k

-- a word xor what is left of it k bits further down
abbrev pub xor_shifted : ℕ → ℕ → ℕ
xor_shifted x k = bit_xor x (x / 2 ^ k)

-- the number whose bytes these are, the least significant first
unfoldable pub little_endian : List ℕ → ℕ
little_endian [] = 0
little_endian (b ∷ bs) = b + 256 * little_endian bs

-- the whole groups of n bytes that a list begins with
abbrev pub groups : ℕ → List ℕ → List (List ℕ)
groups n bytes = first_chunks n (length bytes / n) bytes

-- the bytes after them
abbrev pub after_groups : ℕ → List ℕ → List ℕ
after_groups n bytes = drop (length bytes / n * n) bytes

-- ---- the five primes

abbrev pub prime1 : ℕ
prime1 = 0x9E3779B185EBCA87

abbrev pub prime2 : ℕ
prime2 = 0xC2B2AE3D27D4EB4F

abbrev pub prime3 : ℕ
prime3 = 0x165667B19E3779F9

abbrev pub prime4 : ℕ
prime4 = 0x85EBCA77C2B2AE63

abbrev pub prime5 : ℕ
prime5 = 0x27D4EB2F165667C5

-- ---- step 1: the accumulators

-- the four accumulators at the start
unfoldable pub start : ℕ → List ℕ
start seed = add64 (add64 seed prime1) prime2 ∷ add64 seed prime2 ∷ seed ∷ sub64 seed prime1 ∷ []

-- ---- step 2: the stripes of 32 bytes

-- an accumulator after a lane
unfoldable pub round : ℕ → ℕ → ℕ
round acc lane = mul64 (rotl (add64 acc (mul64 lane prime2)) 31) prime1

-- lane i of a stripe: the word at its byte 8 * i
unfoldable pub lane : List ℕ → ℕ → ℕ
lane stripe i = little_endian (take 8 (drop (8 * i) stripe))

-- the accumulators after a stripe: each has taken its own lane
unfoldable pub absorb : List ℕ → List ℕ → List ℕ
absorb accs stripe =
    round (slice_index accs 0) (lane stripe 0)
    ∷ round (slice_index accs 1) (lane stripe 1)
    ∷ round (slice_index accs 2) (lane stripe 2)
    ∷ round (slice_index accs 3) (lane stripe 3) ∷ []

-- the accumulators after all stripes of a list
unfoldable pub accumulators : ℕ → List ℕ → List ℕ
accumulators seed bytes = fold absorb (start seed) (groups 32 bytes)

-- ---- step 3: the accumulators become one word

-- an accumulator merged into the word
unfoldable pub merge : ℕ → ℕ → ℕ
merge acc accn = add64 (mul64 (bit_xor acc (round 0 accn)) prime1) prime4

-- the accumulators turned and added
unfoldable pub turned_sum : List ℕ → ℕ
turned_sum accs =
    add64 (add64 (add64 (rotl (slice_index accs 0) 1) (rotl (slice_index accs 1) 7))
    (rotl (slice_index accs 2) 12)) (rotl (slice_index accs 3) 18)

-- their turned sum, with each of them merged into it
unfoldable pub converged : List ℕ → ℕ
converged accs = fold merge (turned_sum accs) accs

-- steps 1 to 3, or where there is no whole stripe, what the seed alone gives
unfoldable pub before_length : ℕ → List ℕ → ℕ
before_length seed bytes =
    if nat_le 32 (length bytes) then converged (accumulators seed bytes) else add64 seed prime5

-- ---- step 5: the bytes after the stripes

-- 8 bytes more
unfoldable pub add_word : ℕ → List ℕ → ℕ
add_word acc bytes =
    add64 (mul64 (rotl (bit_xor acc (round 0 (little_endian bytes))) 27) prime1) prime4

-- 4 bytes more
unfoldable pub add_half : ℕ → List ℕ → ℕ
add_half acc bytes =
    add64 (mul64 (rotl (bit_xor acc (mul64 (little_endian bytes) prime1)) 23) prime2) prime3

-- one byte more
unfoldable pub add_byte : ℕ → ℕ → ℕ
add_byte acc byte = mul64 (rotl (bit_xor acc (mul64 byte prime5)) 11) prime1

-- the whole groups of 8 bytes, then of what is left the group of 4, if there is one, then each byte
unfoldable pub add_rest : ℕ → List ℕ → ℕ
add_rest acc rest =
    let words = fold add_word acc (groups 8 rest) in
    let few = after_groups 8 rest in
    fold add_byte (fold add_half words (groups 4 few)) (after_groups 4 few)

-- ---- step 6: the final mix

-- the word, three times xored with its upper bits, with a prime as a factor in between
unfoldable pub avalanche : ℕ → ℕ
avalanche acc = xor_shifted (mul64 (xor_shifted (mul64 (xor_shifted acc 33) prime2) 29) prime3) 32

-- ---- the value

-- the value of a list with a seed; step 4 adds the length
unfoldable pub xxh64 : ℕ → List ℕ → ℕ
xxh64 seed bytes =
    avalanche (add_rest (add64 (before_length seed bytes) (length bytes)) (after_groups 32 bytes))

-- step 7: the value as eight bytes, the most significant first
unfoldable pub xxh64_bytes : ℕ → List ℕ → List ℕ
xxh64_bytes seed bytes = to_be_bytes w64 (xxh64 seed bytes)
