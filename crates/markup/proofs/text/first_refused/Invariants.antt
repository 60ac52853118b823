use Rattle.std.proofs.Common.{◌≡◌}
use Rattle.std.specs.Prelude.{None}
use Rattle.path_text.specs.Places.{first_below}
use Rattle.markup.specs.Characters.{refused_at}
use Rattle.markup.proofs.text.first_refused.Given as goal

abbrev pub invariant-loop-at : goal.invariant-loop-at
invariant-loop-at l = first_below (refused_at l.text) l.at ≡ None
