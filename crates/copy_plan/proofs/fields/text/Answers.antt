use Rattle.copy_plan.proofs.Taking.{parts_at, text_begins, text_none}
use Rattle.copy_plan.proofs.fields.text.Goals as goal

pub returns-in-Ok : goal.returns-in-Ok
returns-in-Ok c =
    text_begins c.args.bytes.now c.split_at.result.0.now c.split_at.result.1.now c.in-Ok.text.now c.args.long (parts_at c.args.long c.args.bytes.now c.split_at.result.0.now c.split_at.result.1.now c.split_at.ensures.front c.split_at.ensures.back c.split_at.ensures.back_len)
    c.in-Ok.ensures.cases.0 c.in-Ok.ensures.cases.1

pub returns-in-Err : goal.returns-in-Err
returns-in-Err c =
    text_none c.args.bytes.now c.split_at.result.0.now c.split_at.result.1.now c.args.long (parts_at c.args.long c.args.bytes.now c.split_at.result.0.now c.split_at.result.1.now c.split_at.ensures.front c.split_at.ensures.back c.split_at.ensures.back_len)
    c.in-Err.ensures.cases.0
