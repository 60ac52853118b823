-- Hexadecimal digits for bytes (RFC 4648, section 8), in either case.
use Rattle.std.specs.Prelude.{◌≡◌, ℕ, ◌+◌, ◌*◌, ◌/◌, ◌%◌, ◌<◌, List, length, slice_index, Some}
use Rattle.hex.specs.Hex.{hex_digit_value}

-- two digits stand for a byte: the first for its high four bits, the second for its low four
pub record IsByteOf (high low byte : ℕ) : Type 0 where
  pub high_half : hex_digit_value high ≡ Some (byte / 16)
  pub low_half : hex_digit_value low ≡ Some (byte % 16)

-- a text is the digits of these bytes: two for each
pub record IsHexOf (text bytes : List ℕ) : Type 0 where
  pub two_each : length text ≡ 2 * length bytes
  pub pairs : (k : ℕ) → k < length bytes → IsByteOf (slice_index text (2 * k)) (slice_index text (2 * k + 1)) (slice_index bytes k)
