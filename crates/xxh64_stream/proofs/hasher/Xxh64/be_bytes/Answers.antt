use Rattle.xxh64_stream.specs.Xxh64.{xxh64_bytes}
use Rattle.xxh64_stream.proofs.hasher.Xxh64.be_bytes.Goals as goal

pub returns : goal.returns
unfolding xxh64_bytes
returns c = λ seed fed held. rw (c.to_be_bytes.ensures, c.value.ensures seed fed held)
