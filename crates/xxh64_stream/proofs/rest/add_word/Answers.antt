use Rattle.std.proofs.Common.{rules, ◌≡◌, ◌∙◌}
use Rattle.xxh64_stream.specs.Xxh64.{add_word, little_endian}
use Rattle.xxh64_stream.proofs.Words.{from_le_bytes-8}
use Rattle.xxh64_stream.proofs.rest.add_word.Goals as goal

pub returns : goal.returns
unfolding add_word
returns c =
    let word : c.from_le_bytes.result ≡ little_endian c.args.word.now =
    c.from_le_bytes.ensures ∙ from_le_bytes-8 c.args.word.now (search rules) in
    rw (c.rotate_left.ensures, c.round.ensures, word)
