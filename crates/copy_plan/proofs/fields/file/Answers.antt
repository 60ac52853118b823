use Rattle.copy_plan.proofs.Taking.{file_begins, file_failed, file_unsized, file_undated}
use Rattle.copy_plan.proofs.fields.file.Goals as goal

pub returns-in-Err : goal.returns-in-Err
returns-in-Err c = file_failed c.args.bytes.now c.in-Err.error c.in-Err.ensures

pub returns-in_default : goal.returns-in_default
returns-in_default c = file_unsized c.args.bytes.now c.in-Ok.taken.1.now c.in-Ok.taken.0 c.in-Ok.ensures c.in_default.ensures

pub returns-in-None : goal.returns-in-None
returns-in-None c = file_undated c.args.bytes.now c.in-Ok.taken.1.now c.in-Some.rest.now c.in-Ok.taken.0 c.in-Some.size c.in-Ok.ensures c.in-Some.ensures c.in-None.ensures

pub returns : goal.returns
returns c = file_begins c.args.bytes.now c.in-Ok.taken.1.now c.in-Some.rest.now c.in-Some-moment.taken.1.now c.in-Ok.taken.0 c.in-Some.size c.in-Some-moment.taken.0 c.in-Ok.ensures c.in-Some.ensures c.in-Some-moment.ensures
