use Rattle.path_text.proofs.ListNames.{list_name-unrefused, list_name-utf8}
use Rattle.path_text.proofs.naming.list_name.Goals as goal

pub of-requires : goal.of-requires
of-requires c = rw (c.in-Ok.ensures.ok, c.in_ok-bytes.ensures.text) (list_name-unrefused _ _ c.in_ok-bytes.ensures.label)

pub unreachable-requires : goal.unreachable-requires
unreachable-requires c = absurd (cc (c.in-Err.ensures.succeeds (rw c.in_ok-bytes.ensures.text (list_name-utf8 _ _ c.in_ok-bytes.ensures.label))))
