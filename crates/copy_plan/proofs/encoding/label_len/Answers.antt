use Rattle.copy_plan.proofs.Lengths.{label_length}
use Rattle.copy_plan.proofs.encoding.label_len.Goals as goal

pub returns-clause-value : goal.returns-clause-value
returns-clause-value c = label_length c.args.label.now c.as_str.result.now c.as_str.ensures.same
