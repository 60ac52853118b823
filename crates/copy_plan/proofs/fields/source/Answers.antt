use Rattle.std.proofs.Common.{sym, ◌∙◌}
use Rattle.copy_plan.proofs.Taking.{zero_long, source_short, source_plain, source_none, source_some, source_failed}
use Rattle.copy_plan.proofs.fields.source.Goals as goal

pub returns-in_default : goal.returns-in_default
returns-in_default c = source_short c.args.kinds c.args.bytes.now c.in_default.ensures

pub returns-then-shows_all : goal.returns-then-shows_all
returns-then-shows_all c = source_plain c.args.kinds c.args.bytes.now c.in-Some.rest.now (zero_long c.if-long-eq0.true c.in-Some.ensures) (sym c.shows_all.ensures ∙ c.if-shows_all.true)

pub returns-then-long-eq0 : goal.returns-then-long-eq0
returns-then-long-eq0 c = source_none c.args.kinds c.args.bytes.now c.in-Some.rest.now (zero_long c.if-long-eq0.true c.in-Some.ensures) (sym c.shows_all.ensures ∙ c.if-shows_all.false)

pub returns-in-Ok : goal.returns-in-Ok
returns-in-Ok c = source_some c.args.kinds c.args.bytes.now c.in-Ok.path c.in-Ok.rest.now c.in-Ok.ensures

pub returns-in-Err : goal.returns-in-Err
returns-in-Err c = source_failed c.args.kinds c.args.bytes.now c.in-Some.rest.now c.in-Some.long c.in-Some.ensures c.if-long-eq0.false c.in-Err.error c.in-Err.ensures
