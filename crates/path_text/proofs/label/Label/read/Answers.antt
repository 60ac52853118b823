use Rattle.std.proofs.Common.{sym, ◌∙◌}
use Rattle.path_text.proofs.Labels.{unrefused}
use Rattle.path_text.proofs.Storage.{keeps, stored_back}
use Rattle.path_text.proofs.label.Label.read.Goals as goal

pub stored-requires : goal.stored-requires
stored-requires c = (unrefused _ (sym c.in_default.ensures)).1

pub invariant_of-result : goal.invariant_of-result
invariant_of-result c = keeps c.as_bytes-text.result.now _ c.stored.ensures (sym c.in_default.ensures)

pub returns : goal.returns
returns c = (stored_back c.as_bytes-text.result.now _ c.stored.ensures ∙ c.as_bytes-text.ensures.value, rw (← c.as_bytes-text.ensures.value) (sym c.in_default.ensures))
