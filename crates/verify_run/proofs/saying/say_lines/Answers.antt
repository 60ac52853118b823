use Rattle.std.proofs.Common.{arith, ap, true}
use Rattle.verify_run.proofs.Lines.{said_at, none_yet, some_said, none_said, some_stopped, all_said}
use Rattle.verify_run.proofs.saying.say_lines.Goals as goal
use Rattle.verify_run.proofs.saying.say_lines.Goals.{in-Some+in-Ok, in_default}

pub loop-line-init : goal.loop-line-init
loop-line-init g c = λ d. none_yet d _ _

pub loop-line-preserved : goal.loop-line-preserved
loop-line-preserved g c = λ d.
    elim c.match-line.branch [
      | in-Some+in-Ok w ↦ said_at d c.args.lines.now _ true _ _ _ _ w.any-is (ap (g.B.Bay.world) w.bay-is)
          (some_said d c.args.lines.now c.loop-line.line-index c.line-item.result w.in-Some.line _ _ _ _ c.loop-line-test.true c.line-item.is w.in-Some.is (c.loop-line.invariant d) (w.in-Ok.ensures d))
      | in_default w ↦ said_at d c.args.lines.now _ _ _ _ _ _ w.any-is (ap (g.B.Bay.world) w.bay-is) (none_said d c.args.lines.now c.loop-line.line-index c.line-item.result _ _ _ c.loop-line-test.true c.line-item.is w.in_default.is (c.loop-line.invariant d))
    ]

pub returns-in-Err : goal.returns-in-Err
returns-in-Err g c = λ d. some_stopped d c.args.lines.now c.loop-line.line-index _ _ _ _ _ (c.loop-line.invariant d) (c.in-Err.ensures d)

pub returns : goal.returns
returns g c = λ d. all_said d c.args.lines.now c.loop-line.line-index _ _ _ (omega arith) (c.loop-line.invariant d)
