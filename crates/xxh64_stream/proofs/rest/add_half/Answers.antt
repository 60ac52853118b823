use Rattle.std.proofs.Common.{rules, ◌≡◌, ◌∙◌}
use Rattle.xxh64_stream.specs.Xxh64.{add_half, little_endian}
use Rattle.xxh64_stream.proofs.Words.{from_le_bytes-4}
use Rattle.xxh64_stream.proofs.rest.add_half.Goals as goal

pub returns : goal.returns
unfolding add_half
returns c =
    let half : c.from-half.result ≡ little_endian c.args.half.now =
    c.from-half.ensures ∙ c.from_le_bytes.ensures ∙ from_le_bytes-4 c.args.half.now (search rules) in
    rw (c.rotate_left.ensures, half)
