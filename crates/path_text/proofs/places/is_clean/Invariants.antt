use Rattle.std.proofs.Common.{◌≡◌}
use Rattle.std.specs.Prelude.{None}
use Rattle.path_text.specs.Places.{first_below, refused_at}
use Rattle.path_text.proofs.places.is_clean.Given as goal

abbrev pub invariant-loop-at : goal.invariant-loop-at
invariant-loop-at l = first_below (refused_at l.text) l.at ≡ None
