use Rattle.std.proofs.Common.{rules}
use Rattle.xxh64_stream.specs.Xxh64.{converged, turned_sum}
use Rattle.xxh64_stream.proofs.stripe.converged.Goals as goal

pub returns : goal.returns
unfolding converged turned_sum
returns c = search rules
