use Rattle.copy_plan.proofs.Heads.{choice_none, choice_failed}
use Rattle.copy_plan.proofs.decoding.take_choice.Goals as goal

pub returns-in-None : goal.returns-in-None
returns-in-None c = choice_none c.args.plain c.args.bytes.now c.args.rest.now c.wrong_at.result c.if-plain.false c.in-None.ensures c.wrong_at.ensures

pub returns-in-Err : goal.returns-in-Err
returns-in-Err c =
    choice_failed c.args.plain c.args.bytes.now c.args.rest.now c.in-Some.taken.1.now c.in-Some.taken.0 c.in-Err.error c.refusal.result c.requires c.if-plain.false c.in-Some.ensures c.in-Err.ensures c.refusal.ensures
