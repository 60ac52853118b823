use Rattle.std.proofs.Common.{arith}
use Rattle.copy_plan.proofs.Taking.{takes_none, kinds_begins, kinds_empty, kinds_other}
use Rattle.copy_plan.proofs.fields.kinds.Goals as goal

pub returns-in_err-byte : goal.returns-in_err-byte
returns-in_err-byte c = takes_none _ _ _ _ _ c.from_residual.ensures (kinds_empty c.args.bytes.now c.in_err-byte.ensures.cases)

pub returns-then-byte-eq0 : goal.returns-then-byte-eq0
returns-then-byte-eq0 c = kinds_other c.args.bytes.now c.in_ok-byte.rest.now c.in_ok-byte.byte.now c.in_ok-byte.ensures.cases.0 (λ k. absurd (omega arith))

pub returns-then-byte-gt7 : goal.returns-then-byte-gt7
returns-then-byte-gt7 c = kinds_other c.args.bytes.now c.in_ok-byte.rest.now c.in_ok-byte.byte.now c.in_ok-byte.ensures.cases.0 (λ k. absurd (omega arith))

pub returns : goal.returns
returns c = kinds_begins c.args.bytes.now c.in_ok-byte.rest.now c.in_ok-byte.byte.now c.in_ok-byte.ensures.cases.0 c.if-byte-eq0.false c.if-byte-gt7.false
