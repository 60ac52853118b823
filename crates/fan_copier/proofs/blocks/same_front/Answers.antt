use Rattle.std.proofs.Common.{sym, ap, ◌∙◌, take}
use Rattle.std.specs.Cmp.Lexicographic.{same_text, other_text}
use Rattle.fan_copier.proofs.blocks.same_front.Goals as goal

pub returns-clause-same : goal.returns-clause-same
returns-clause-same c = λ yes. ap (take c.args.len) (sym c.bytes.ensures.bytes) ∙ same_text _ _ (sym yes ∙ c.eq.ensures) ∙ ap (take c.args.len) c.bytes-2.ensures.bytes

pub returns-clause-other : goal.returns-clause-other
returns-clause-other c = λ no is. other_text _ _ (sym no ∙ c.eq.ensures) (ap (take c.args.len) c.bytes.ensures.bytes ∙ is ∙ ap (take c.args.len) (sym c.bytes-2.ensures.bytes))
