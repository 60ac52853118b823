use Rattle.std.proofs.Common.{◌≡◌}
use Rattle.std.specs.Prelude.{None}
use Rattle.path_text.specs.Places.{first_below}
use Rattle.path_text.specs.Label.{label_fault_at}
use Rattle.path_text.proofs.label.first_fault.Given as goal

abbrev pub invariant-loop-at : goal.invariant-loop-at
invariant-loop-at l = first_below (label_fault_at l.text) l.at ≡ None
