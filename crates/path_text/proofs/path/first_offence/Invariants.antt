use Rattle.std.proofs.Common.{◌≡◌}
use Rattle.std.specs.Prelude.{None}
use Rattle.path_text.specs.Places.{first_below}
use Rattle.path_text.specs.Path.{offence_at}
use Rattle.path_text.proofs.path.first_offence.Given as goal

abbrev pub invariant-loop-at : goal.invariant-loop-at
invariant-loop-at l = first_below (offence_at l.text) l.at ≡ None
