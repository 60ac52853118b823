use Rattle.bay_mem.proofs.changes.try_rename.Goals as goal

pub returns-clause-made : goal.returns-clause-made
returns-clause-made c = c.in_ok-move_file.ensures.ok c.args.d
