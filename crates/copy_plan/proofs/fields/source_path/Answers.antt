use Rattle.copy_plan.proofs.Taking.{list_failed, list_other}
use Rattle.copy_plan.proofs.fields.source_path.Goals as goal

pub returns-then-not-has_one_part : goal.returns-then-not-has_one_part
returns-then-not-has_one_part c = list_other c.args.bytes.now c.in-Ok.path c.in-Ok.rest.now c.in-Ok.ensures (λ is. let part = is.part in absurd (cc))

pub returns-then-is_control : goal.returns-then-is_control
returns-then-is_control c = list_other c.args.bytes.now c.in-Ok.path c.in-Ok.rest.now c.in-Ok.ensures (λ is. let own = is.own in absurd (cc))

pub returns-in-Err : goal.returns-in-Err
returns-in-Err c = list_failed c.args.bytes.now c.in-Err.error c.in-Err.ensures
