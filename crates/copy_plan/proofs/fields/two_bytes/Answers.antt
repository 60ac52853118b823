use Rattle.std.proofs.Common.{arith}
use Rattle.copy_plan.proofs.Taking.{parts_at, two_begins}
use Rattle.copy_plan.proofs.fields.two_bytes.Goals as goal

pub returns : goal.returns
returns c =
    let cut = c.in_ok-front.ensures.cases in
    two_begins c.args.bytes.now c.in_ok-front.front.now c.in_ok-front.rest.now c.from_be_bytes.result
    (parts_at 2 c.args.bytes.now c.in_ok-front.front.now c.in_ok-front.rest.now cut.0 cut.1 cut.2) (λ i. let fits = c.type_inv.bytes i in omega (arith, fits)) c.from_be_bytes.ensures c.from_be_bytes.type_inv
