use Rattle.std.proofs.Common.{arith}
use Rattle.xxh64_stream.specs.Xxh64.{absorb, lane}
use Rattle.xxh64_stream.proofs.Words.{read_lane}
use Rattle.xxh64_stream.proofs.stripe.absorb.Goals as goal

pub returns : goal.returns
unfolding absorb lane
returns c =
    let lanes = c.as_chunks.ensures.front in
    rw (
      c.round.ensures,
      c.round-2.ensures,
      c.round-3.ensures,
      c.round-4.ensures,
      read_lane c.args.stripe.now _ _ 0 (omega arith) c.told-stripe lanes c.from_le_bytes.ensures,
      read_lane c.args.stripe.now _ _ 1 (omega arith) c.told-stripe lanes c.from_le_bytes-2.ensures,
      read_lane c.args.stripe.now _ _ 2 (omega arith) c.told-stripe lanes c.from_le_bytes-3.ensures,
      read_lane c.args.stripe.now _ _ 3 (omega arith) c.told-stripe lanes c.from_le_bytes-4.ensures,
    )
