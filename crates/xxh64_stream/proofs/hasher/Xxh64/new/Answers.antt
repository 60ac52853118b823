use Rattle.std.proofs.Common.{refl}
use Rattle.xxh64_stream.specs.Xxh64.{accumulators}
use Rattle.xxh64_stream.proofs.States.{from_parts}
use Rattle.xxh64_stream.proofs.hasher.Xxh64.new.Goals as goal

pub returns : goal.returns
unfolding accumulators
returns c = from_parts record {
  seed_is = refl;
  accs_are = c.start.ensures;
  rest_is = refl;
  striped_is = refl;
  total_is = refl;
}
