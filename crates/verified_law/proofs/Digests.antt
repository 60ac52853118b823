-- The digests of any bytes are bytes.
use Rattle.std.proofs.Common.{ℕ, zero, suc, ◌<◌, List, [], ◌∷◌, ◌++◌, arith}
use Rattle.std.proofs.Math.Nat.{mod-lt}
use Rattle.std.specs.Prelude.{slice_index}
use Rattle.std.specs.Int.{byte_at, to_be_bytes, to_le_bytes, w32, w64}
use Rattle.std.specs.List.{AllByRecursion}
use Rattle.hex.specs.Hex.{IsBytes}
use Rattle.md5.specs.Md5 as of_md5
use Rattle.sha1.specs.Sha1 as of_sha1
use Rattle.xxh64_stream.specs.Xxh64.{xxh64, xxh64_bytes}
use Rattle.digest_set.specs.Xxh.{xxh}

-- a byte is below 256
abbrev IsLow : ℕ → Type 0
IsLow b = b < 256

byte_low : (i n : ℕ) → IsLow (byte_at i n)
byte_low zero n = mod-lt n (omega arith)
byte_low (suc i) n = mod-lt _ (omega arith)

bytes_of_low : (xs : List ℕ) → AllByRecursion IsLow xs → IsBytes xs
bytes_of_low [] low i = omega arith
bytes_of_low (x ∷ xs) low zero = low.0
bytes_of_low (x ∷ xs) low (suc i) = bytes_of_low xs low.1 i

low_both : (xs ys : List ℕ) → AllByRecursion IsLow xs → AllByRecursion IsLow ys → AllByRecursion IsLow (xs ++ ys)
low_both [] ys a b = b
low_both (x ∷ xs) ys a b = (a.0, low_both xs ys a.1 b)

md5_low : (h : List ℕ) (n : ℕ) → AllByRecursion IsLow (of_md5.digest_bytes h n)
unfolding of_md5.digest_bytes
md5_low h zero = tt
md5_low h (suc n) =
    let w = slice_index h n in
    low_both (of_md5.digest_bytes h n) (to_le_bytes w32 w) (md5_low h n) (byte_low 0 w, (byte_low 1 w, (byte_low 2 w, (byte_low 3 w, tt))))

sha1_low : (h : List ℕ) (n : ℕ) → AllByRecursion IsLow (of_sha1.digest_bytes h n)
unfolding of_sha1.digest_bytes
sha1_low h zero = tt
sha1_low h (suc n) =
    let w = slice_index h n in
    low_both (of_sha1.digest_bytes h n) (to_be_bytes w32 w) (sha1_low h n) (byte_low 3 w, (byte_low 2 w, (byte_low 1 w, (byte_low 0 w, tt))))

pub md5_bytes : (bytes : List ℕ) → IsBytes (of_md5.md5 bytes)
unfolding of_md5.md5
md5_bytes bytes = bytes_of_low _ (md5_low _ 4)

pub sha1_bytes : (bytes : List ℕ) → IsBytes (of_sha1.sha1 bytes)
unfolding of_sha1.sha1
sha1_bytes bytes = bytes_of_low _ (sha1_low _ 5)

pub xxh_bytes : (bytes : List ℕ) → IsBytes (xxh bytes)
unfolding xxh64_bytes
xxh_bytes bytes =
    let w = xxh64 0 bytes in
    let low : AllByRecursion IsLow (to_be_bytes w64 w) = (byte_low 7 w, (byte_low 6 w, (byte_low 5 w, (byte_low 4 w, (byte_low 3 w, (byte_low 2 w, (byte_low 1 w, (byte_low 0 w, tt)))))))) in
    bytes_of_low (to_be_bytes w64 w) low
