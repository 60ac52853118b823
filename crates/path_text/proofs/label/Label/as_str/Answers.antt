use Rattle.path_text.proofs.Labels.{unrefused, name_utf8}
use Rattle.path_text.proofs.label.Label.as_str.Goals as goal

pub unreachable-requires : goal.unreachable-requires
unreachable-requires c = c.in-Err.ensures.cases.0 (name_utf8 _ (unrefused _ c.self.invariant.label).0)

pub returns-clause-some : goal.returns-clause-some
returns-clause-some c =
    rw c.in-Ok.ensures.cases.0 (unrefused _ c.self.invariant.label).0.some
