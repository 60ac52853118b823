-- The third kind of digest, XXH64.
use Rattle.std.specs.Prelude.{ℕ, List}
use Rattle.xxh64_stream.specs.Xxh64.{xxh64_bytes}

-- XXH64 of a whole list with seed 0, as eight bytes, the most significant first
abbrev pub xxh : List ℕ → List ℕ
xxh bytes = xxh64_bytes 0 bytes
