use Rattle.bay_mem.proofs.Becoming.{written_ok}
use Rattle.bay_mem.proofs.changes.write_file.Goals as goal

pub returns-clause-ok : goal.returns-clause-ok
returns-clause-ok c = written_ok c.put.result c.args.at c.args.modified c.args.path.now c.args.bytes.now _ c.args.now.now _ c.put.ensures.ok c.in_ok-next.ensures
