use Rattle.std.proofs.Common.{sym, ◌∙◌}
use Rattle.path_text.proofs.Ancestors.{is_ancestor-begun, is_ancestor-apart}
use Rattle.path_text.proofs.parts.ancestor_of.Goals as goal

pub returns-then-starts_with : goal.returns-then-starts_with
returns-then-starts_with c =
    is_ancestor-begun _ _ c.as_bytes-above.result.now c.as_bytes-below.result.now _ (c.as_bytes-above.ensures.value ∙ c.as_str.ensures.same) (c.as_bytes-below.ensures.value ∙ c.as_str-2.ensures.same) (sym c.if-starts_with.true ∙ c.starts_with.ensures.value) c.byte_at.ensures

pub returns-else-starts_with : goal.returns-else-starts_with
returns-else-starts_with c =
    c.if-starts_with.false ∙ is_ancestor-apart _ _ c.as_bytes-above.result.now c.as_bytes-below.result.now (c.as_bytes-above.ensures.value ∙ c.as_str.ensures.same) (c.as_bytes-below.ensures.value ∙ c.as_str-2.ensures.same) (sym c.if-starts_with.false ∙ c.starts_with.ensures.value)
