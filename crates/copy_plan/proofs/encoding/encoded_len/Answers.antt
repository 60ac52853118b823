use Rattle.std.proofs.Common.{arith}
use Rattle.copy_plan.proofs.Bounds.{code_most}
use Rattle.copy_plan.proofs.Lengths.{total_length}
use Rattle.copy_plan.proofs.encoding.encoded_len.Goals as goal

pub returns-clause-value : goal.returns-clause-value
returns-clause-value c =
    total_length c.args.plan.now c.name.result.now c.user.result.now c.host.result.now c.kinds.result _ c.files.result.now c.label_len.result c.label_len-2.result c.label_len-3.result c.choice_len-choice.result c.files_len.result
    c.name.ensures c.user.ensures c.host.ensures c.kinds.ensures c.source_list.ensures c.files.ensures.same c.label_len.ensures.value c.label_len-2.ensures.value c.label_len-3.ensures.value c.choice_len-choice.ensures.value c.files_len.ensures.value

pub returns-clause-bound : goal.returns-clause-bound
returns-clause-bound c = omega (arith, returns-clause-value c, code_most c.args.plan.now c.files.ensures.plan)
