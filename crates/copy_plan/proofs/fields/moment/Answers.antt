use Rattle.copy_plan.proofs.Taking.{takes_none, moment_begins, moment_none, moment_other}
use Rattle.copy_plan.proofs.fields.moment.Goals as goal

pub returns-in_err-seconds : goal.returns-in_err-seconds
returns-in_err-seconds c = takes_none _ _ _ _ _ c.from_residual.ensures (moment_none c.args.bytes.now c.in_err-seconds.ensures)

pub returns-in_err-moment : goal.returns-in_err-moment
returns-in_err-moment c = takes_none _ _ _ _ _ c.from_residual-in_err-moment.ensures (moment_other c.args.bytes.now c.in_ok-seconds.seconds c.in_ok-seconds.rest.now c.in_ok-seconds.ensures c.in_err-moment.ensures)

pub returns : goal.returns
returns c =
    let made = c.in_ok-moment.ensures in
    moment_begins c.args.bytes.now c.in_ok-seconds.seconds c.in_ok-moment.moment c.in_ok-seconds.rest.now c.in_ok-seconds.ensures made.0 made.1
