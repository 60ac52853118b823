use Rattle.std.proofs.Common.{◌∙◌, sym, ◌∷◌}
use Rattle.copy_plan.proofs.Taking.{takes_none, label_begins, label_none, label_other, label_empty, label_refused}
use Rattle.copy_plan.proofs.fields.label.Goals as goal

pub returns-in_err-long : goal.returns-in_err-long
returns-in_err-long c = takes_none _ _ _ _ _ c.from_residual.ensures (label_empty c.args.bytes.now c.in_err-long.ensures.cases)

pub returns-in_err-text : goal.returns-in_err-text
returns-in_err-text c =
    takes_none _ _ _ _ _ c.from_residual-in_err-text.ensures
    (label_none c.args.bytes.now c.in_ok-long.rest.now c.from.result (c.in_ok-long.ensures.cases.0 ∙ (λ i. sym c.from.ensures i ∷ c.in_ok-long.rest.now)) c.in_err-text.ensures)

pub returns-in-Ok : goal.returns-in-Ok
returns-in-Ok c =
    label_begins c.args.bytes.now c.in_ok-long.rest.now c.in_ok-text.text.now c.in_ok-text.rest.now c.in-Ok.label c.from.result (c.in_ok-long.ensures.cases.0 ∙ (λ i. sym c.from.ensures i ∷ c.in_ok-long.rest.now)) c.in_ok-text.ensures c.in-Ok.ensures

pub returns-in-Err : goal.returns-in-Err
returns-in-Err c =
    label_other c.args.bytes.now c.in_ok-long.rest.now c.in_ok-text.text.now c.in_ok-text.rest.now c.from.result (c.in_ok-long.ensures.cases.0 ∙ (λ i. sym c.from.ensures i ∷ c.in_ok-long.rest.now)) c.in_ok-text.ensures
    (label_refused c.in_ok-text.text.now c.in-Err.field-0 c.in-Err.ensures)
