use Rattle.std.proofs.Common.{◌≡◌, length, None}
use Rattle.std.specs.Prelude.{option_map}
use Rattle.markup.proofs.Attributes.{closed_of}
use Rattle.markup.proofs.Values.{value_then}
use Rattle.markup.proofs.token.value_of.Given as goal

abbrev pub invariant-loop-rest : goal.invariant-loop-rest
invariant-loop-rest l = value_then l.name (option_map (λ x. x.now) l.found) (closed_of l.rest) ≡ value_then l.name None (closed_of l.attributes)

abbrev pub decreases-loop-rest : goal.decreases-loop-rest
decreases-loop-rest l = length l.rest
