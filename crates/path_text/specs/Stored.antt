-- How the bytes of a label are kept.
use Rattle.std.specs.Prelude.{◌≡◌, ℕ, List, length, ◌++◌, drop, take, replicate, None}
use Rattle.path_text.specs.Label.{label_refusal_of}

-- the bytes, and NUL from there to 64 bytes
unfoldable pub stored : List ℕ → List ℕ
stored label = label ++ drop (length label) (replicate 64 0)

-- the first `len` of the bytes are a label, and the others are NUL
pub record Keeps (bytes : List ℕ) (len : ℕ) : Type 0 where
  pub label : label_refusal_of (take len bytes) ≡ None
  pub long : length (take len bytes) ≡ len
  pub rest : stored (take len bytes) ≡ bytes
