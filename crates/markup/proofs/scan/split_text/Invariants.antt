use Rattle.markup.specs.Taking.{in_text}
use Rattle.markup.proofs.Runs.{Passed}
use Rattle.markup.proofs.scan.split_text.Given as goal

abbrev pub invariant-loop-at : goal.invariant-loop-at
invariant-loop-at l = Passed in_text l.bytes l.at
