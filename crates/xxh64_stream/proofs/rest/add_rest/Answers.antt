use Rattle.std.proofs.Common.{rules}
use Rattle.xxh64_stream.specs.Xxh64.{add_rest}
use Rattle.xxh64_stream.proofs.rest.add_rest.Goals as goal

pub returns : goal.returns
unfolding add_rest
returns c = search rules
