use Rattle.bay_mem.proofs.Becoming.{removed_becomes}
use Rattle.bay_mem.proofs.changes.try_remove.Goals as goal

pub returns-clause-made : goal.returns-clause-made
returns-clause-made c = removed_becomes c.args.d c.args.path.now c.args.now.now _ c.remove.ensures
