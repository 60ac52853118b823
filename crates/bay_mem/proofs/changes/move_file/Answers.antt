use Rattle.bay_core.proofs.Maps.{texts_differ, texts_same}
use Rattle.bay_mem.proofs.Becoming.{moved_becomes, moved_itself_becomes}
use Rattle.bay_mem.proofs.changes.move_file.Goals as goal

pub returns-then-ne-clause-ok : goal.returns-then-ne-clause-ok
returns-then-ne-clause-ok c = λ d. moved_becomes d c.args.modified c.args.from.now c.args.to.now c.args.bytes.items c.args.now.now _ _ c.requires (texts_differ c.args.from.now c.args.to.now c.if-ne.ensures) c.in_ok-put.ensures.ok c.remove.ensures

pub returns-else-ne-clause-ok : goal.returns-else-ne-clause-ok
returns-else-ne-clause-ok c = λ d. moved_itself_becomes d c.args.modified c.args.from.now c.args.to.now c.args.bytes.items c.args.now.now _ c.requires (texts_same c.args.from.now c.args.to.now c.if-ne.ensures) c.in_ok-put.ensures.ok
