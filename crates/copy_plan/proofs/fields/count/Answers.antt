use Rattle.std.proofs.Common.{arith}
use Rattle.copy_plan.proofs.Taking.{takes_none, count_begins, count_none, count_other}
use Rattle.copy_plan.proofs.fields.count.Goals as goal

pub returns-in_err-count : goal.returns-in_err-count
returns-in_err-count c = takes_none _ _ _ _ _ c.from_residual.ensures (count_none c.args.bytes.now c.in_err-count.ensures)

pub returns-then-count-eq0 : goal.returns-then-count-eq0
returns-then-count-eq0 c = count_other c.args.bytes.now c.in_ok-count.count c.in_ok-count.rest.now c.in_ok-count.ensures (λ k. absurd (omega arith))

pub returns-then-count-gt-MOST_FILES : goal.returns-then-count-gt-MOST_FILES
returns-then-count-gt-MOST_FILES c = count_other c.args.bytes.now c.in_ok-count.count c.in_ok-count.rest.now c.in_ok-count.ensures (λ k. absurd (omega arith))

pub returns : goal.returns
returns c = count_begins c.args.bytes.now c.in_ok-count.count c.in_ok-count.rest.now c.in_ok-count.ensures (omega arith) c.if-count-gt-MOST_FILES.false
