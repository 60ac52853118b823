-- Words as std reads them.
use Rattle.std.proofs.Common.{◌≡◌, ℕ, ◌*◌, ◌/◌, ◌<◌, List, [], ◌∷◌, length, take, drop, get_or, ◌∙◌, arith, length-drop}
use Rattle.std.proofs.lemmas.List.{length-take-le}
use Rattle.std.specs.Int.{w32, w64, from_le_bytes}
use Rattle.std.specs.Simd.{first_chunks}
use Rattle.xxh64_stream.specs.Xxh64.{little_endian, lane}
use Rattle.xxh64_stream.proofs.Groups.{get_or-first_chunks}

-- a word of four bytes
pub from_le_bytes-4 : (bs : List ℕ) → length bs ≡ 4 → from_le_bytes w32 bs ≡ little_endian bs
unfolding little_endian
from_le_bytes-4 (a ∷ b ∷ c ∷ d ∷ []) l = omega arith
from_le_bytes-4 [] l = absurd (omega arith)
from_le_bytes-4 (_ ∷ []) l = absurd (omega arith)
from_le_bytes-4 (_ ∷ _ ∷ []) l = absurd (omega arith)
from_le_bytes-4 (_ ∷ _ ∷ _ ∷ []) l = absurd (omega arith)
from_le_bytes-4 (_ ∷ _ ∷ _ ∷ _ ∷ _ ∷ bs) l = absurd (omega arith)

-- a word of eight bytes
pub from_le_bytes-8 : (bs : List ℕ) → length bs ≡ 8 → from_le_bytes w64 bs ≡ little_endian bs
unfolding little_endian
from_le_bytes-8 (a ∷ b ∷ c ∷ d ∷ e ∷ f ∷ g ∷ h ∷ []) l = omega arith
from_le_bytes-8 [] l = absurd (omega arith)
from_le_bytes-8 (_ ∷ []) l = absurd (omega arith)
from_le_bytes-8 (_ ∷ _ ∷ []) l = absurd (omega arith)
from_le_bytes-8 (_ ∷ _ ∷ _ ∷ []) l = absurd (omega arith)
from_le_bytes-8 (_ ∷ _ ∷ _ ∷ _ ∷ []) l = absurd (omega arith)
from_le_bytes-8 (_ ∷ _ ∷ _ ∷ _ ∷ _ ∷ []) l = absurd (omega arith)
from_le_bytes-8 (_ ∷ _ ∷ _ ∷ _ ∷ _ ∷ _ ∷ []) l = absurd (omega arith)
from_le_bytes-8 (_ ∷ _ ∷ _ ∷ _ ∷ _ ∷ _ ∷ _ ∷ []) l = absurd (omega arith)
from_le_bytes-8 (_ ∷ _ ∷ _ ∷ _ ∷ _ ∷ _ ∷ _ ∷ _ ∷ _ ∷ bs) l = absurd (omega arith)

-- a lane of a stripe that is cut into its four groups of eight
pub read_lane : (stripe : List ℕ) (lanes : List (List ℕ)) (r i : ℕ) → i < 4 → length stripe ≡ 32 → lanes ≡ first_chunks 8 (length stripe / 8) stripe
    → r ≡ from_le_bytes w64 (get_or lanes i []) → r ≡ lane stripe i
unfolding lane
read_lane stripe lanes r i h full cut read =
    let place : get_or lanes i [] ≡ take 8 (drop (8 * i) stripe) =
    rw (cut, full) (get_or-first_chunks 8 4 stripe i h) in
    let long : length (take 8 (drop (8 * i) stripe)) ≡ 8 = length-take-le 8 (drop (8 * i) stripe) (omega (arith, length-drop (8 * i) stripe)) in
    read ∙ rw place (from_le_bytes-8 (take 8 (drop (8 * i) stripe)) long)
