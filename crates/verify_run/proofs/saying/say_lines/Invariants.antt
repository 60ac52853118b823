use Rattle.std.proofs.Common.{ℕ}
use Rattle.verify_run.proofs.Lines.{SaidSome}
use Rattle.verify_run.proofs.saying.say_lines.Given as goal

abbrev pub invariant-loop-line : goal.invariant-loop-line
invariant-loop-line g l = (d : ℕ) → SaidSome d l.lines l.line-index l.any (g.B.Bay.world l.initial.bay) (g.B.Bay.world l.bay)
