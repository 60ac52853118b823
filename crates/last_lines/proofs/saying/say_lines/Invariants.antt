use Rattle.std.proofs.Common.{map, take}
use Rattle.report_text.specs.Line.{line_text}
use Rattle.last_lines.specs.Said.{Told}
use Rattle.last_lines.proofs.saying.say_lines.Given as goal

abbrev pub invariant-loop-line : goal.invariant-loop-line
invariant-loop-line g l = Told (map line_text (take l.line-index l.lines)) (g.B.Bay.world l.initial.bay) (g.B.Bay.world l.bay)
