use Rattle.std.proofs.Common.{arith, refl}
use Rattle.report_text.specs.Line.{line_text}
use Rattle.last_lines.proofs.Said.{told_none, told_more, untold_more, told_all}
use Rattle.last_lines.proofs.saying.say_lines.Goals as goal

pub loop-line-init : goal.loop-line-init
loop-line-init g c = told_none _

pub loop-line-preserved : goal.loop-line-preserved
loop-line-preserved g c = told_more line_text c.args.lines.now c.loop-line.line-index c.line-item.result c.loop-line-test.true c.line-item.is _ refl c.loop-line.invariant c.in-Ok.ensures

pub returns-in-Err : goal.returns-in-Err
returns-in-Err g c = untold_more line_text c.args.lines.now c.loop-line.line-index c.line-item.result c.loop-line-test.true c.line-item.is _ refl c.loop-line.invariant c.in-Err.ensures

pub returns : goal.returns
returns g c = told_all line_text c.args.lines.now c.loop-line.line-index (omega arith) c.loop-line.invariant
