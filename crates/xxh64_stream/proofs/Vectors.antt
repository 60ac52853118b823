-- Values that xxhsum and libxxhash 0.8.1 give, so that a wrong constant or step of the definition does not check.
use Rattle.std.proofs.Common.{◌≡◌, [], codes, refl}
use Rattle.xxh64_stream.specs.Xxh64.{xxh64, little_endian, start, round, lane, absorb, accumulators, merge, turned_sum, converged, before_length, add_word, add_half, add_byte, add_rest, avalanche}

value_of_nothing : xxh64 0 [] ≡ 0xef46db3751d8e999
unfolding xxh64 little_endian start round lane absorb accumulators merge turned_sum converged before_length add_word add_half add_byte add_rest avalanche
value_of_nothing = refl

-- a stripe, three words, four bytes and two bytes
value_of_letters : xxh64 0 (codes "ABCDEFGHIJKLMNOPQRSTUVWXYZabcdefghijklmnopqrstuvwxyz0123456789") ≡ 0xaaa46907d3047814
unfolding xxh64 little_endian start round lane absorb accumulators merge turned_sum converged before_length add_word add_half add_byte add_rest avalanche
value_of_letters = refl

value_with_a_seed : xxh64 0x9e3779b1 (codes "ABCDEFGHIJKLMNOPQRSTUVWXYZabcdefghijklmnopqrstuvwxyz0123456789") ≡ 0xef6fb0cb519f21aa
unfolding xxh64 little_endian start round lane absorb accumulators merge turned_sum converged before_length add_word add_half add_byte add_rest avalanche
value_with_a_seed = refl
