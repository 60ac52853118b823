-- What a hasher keeps of a list that is fed to it in pieces.
use Rattle.std.specs.Prelude.{ℕ, ◌%◌, ◌^◌, Bool, nat_le, List, length}
use Rattle.xxh64_stream.specs.Xxh64.{accumulators, after_groups}

-- the seed, the accumulators after all whole stripes, the bytes after these, whether there was a
-- stripe, and how many bytes there were, modulo 2 ^ 64
pub record State : Type 0 where
  pub seed : ℕ
  pub accs : List ℕ
  pub rest : List ℕ
  pub striped : Bool
  pub total : ℕ

-- the state of a hasher with this seed that was fed this list
unfoldable pub state_of : ℕ → List ℕ → State
state_of seed fed = record {
  seed = seed;
  accs = accumulators seed fed;
  rest = after_groups 32 fed;
  striped = nat_le 32 (length fed);
  total = length fed % 2 ^ 64;
}
