use Rattle.std.proofs.Common.{sym, ◌∙◌}
use Rattle.copy_plan.proofs.Lengths.{choice_plain, choice_named}
use Rattle.copy_plan.proofs.encoding.choice_len.Goals as goal

pub returns-then-is_plain-clause-value : goal.returns-then-is_plain-clause-value
returns-then-is_plain-clause-value c = choice_plain c.args.kinds _ (sym c.is_plain.ensures ∙ c.if-is_plain.true)

pub returns-clause-value : goal.returns-clause-value
returns-clause-value c = choice_named c.args.kinds _ c.source_len.result (sym c.is_plain.ensures ∙ c.if-is_plain.false) c.source_len.ensures.value
