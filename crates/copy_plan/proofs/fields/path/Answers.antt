use Rattle.std.proofs.Common.{subst}
use Rattle.copy_plan.specs.Fields.{IsText, itself, BeginsNone, Begins}
use Rattle.copy_plan.proofs.Taking.{path_begins, path_shorter, path_none, path_failed}
use Rattle.copy_plan.proofs.fields.path.Goals as goal

pub returns-in_default : goal.returns-in_default
returns-in_default c = path_shorter c.args.bytes.now c.in_default.ensures

pub returns-in_default-text : goal.returns-in_default-text
returns-in_default-text c = path_none c.args.bytes.now c.in-Some.rest.now c.in-Some.long c.in-Some.ensures (subst (λ n. BeginsNone (IsText n) itself c.in-Some.rest.now) c.from.ensures c.in_default-text.ensures)

pub returns-in-Ok : goal.returns-in-Ok
returns-in-Ok c =
    path_begins c.args.bytes.now c.in-Some.rest.now c.in-Some-text.text.now c.in-Some-text.rest.now c.in-Ok.path c.in-Some.long c.in-Some.ensures
    (subst (λ n. Begins (IsText n) itself c.in-Some.rest.now c.in-Some-text.text.now c.in-Some-text.rest.now) c.from.ensures c.in-Some-text.ensures) c.in-Ok.ensures

pub returns-in-Err : goal.returns-in-Err
returns-in-Err c =
    path_failed c.args.bytes.now c.in-Some.rest.now c.in-Some-text.text.now c.in-Some-text.rest.now c.in-Some.long c.in-Some.ensures
    (subst (λ n. Begins (IsText n) itself c.in-Some.rest.now c.in-Some-text.text.now c.in-Some-text.rest.now) c.from.ensures c.in-Some-text.ensures) c.in-Err.error c.in-Err.ensures c.unread.result c.unread.ensures
