-- The lines that announce steps: docs/FORMATS.md, "Lines".
use Rattle.std.specs.Prelude.{◌≡◌, ℕ, zero, suc, ◌^◌, ◌<◌, Bool, if◌then◌else◌, nat_eq, List}
use Rattle.std.specs.List.{before_first, after_first}
use Rattle.std.specs.Str.{bytes_eq}
use Rattle.std.specs.Str.Parse.{digits_value}
use Rattle.report_text.specs.Run.{begun_text, done_text, sealed_text}

-- a number of at most 64 digits, all of which `decimal` writes
abbrev pub IsShort : ℕ → Type 0
IsShort k = k < 10 ^ 64

-- A line of drive d announces so many steps, where an offload has n files: `begun` and `done` one more than the number of records that they
-- name, `sealed` all. No other line announces any.
pub data Announces (d n : ℕ) (line : List ℕ) : ℕ → Type 0 where
  begun : (k m : ℕ) → IsShort k → IsShort m → line ≡ begun_text d k m → Announces d n line (suc k)
  done : (k m : ℕ) (path : List ℕ) → IsShort k → IsShort m → line ≡ done_text d k m path → Announces d n line (suc k)
  sealed : (m : ℕ) (list : List ℕ) → IsShort m → line ≡ sealed_text d m list → Announces d n line (suc (suc n))

-- the byte between two fields
abbrev pub is_space : ℕ → Bool
is_space b = nat_eq b 32

-- what stands behind the first so many spaces of a line
abbrev pub behind : ℕ → List ℕ → List ℕ
behind zero line = line
behind (suc i) line = behind i (after_first is_space line)

-- the number that the field there writes
abbrev pub number_behind : ℕ → List ℕ → ℕ
number_behind i line = digits_value 10 (before_first is_space (behind i line))

-- The number of steps that a line announces, 0 where it announces none. The line is compared with each form, written with the numbers and
-- the text that stand in its own fields.
unfoldable pub announces : ℕ → ℕ → List ℕ → ℕ
announces d n line =
    let k = number_behind 2 line in
    let m = number_behind 3 line in
    if bytes_eq line (begun_text d k m)
    then suc k
    else (if bytes_eq line (done_text d k m (behind 4 line)) then suc k else (if bytes_eq line (sealed_text d k (behind 3 line)) then suc (suc n) else 0))
