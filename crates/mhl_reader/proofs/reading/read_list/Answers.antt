use Rattle.mhl_reader.proofs.Distinct.{read_distinct}
use Rattle.mhl_reader.proofs.reading.read_list.Goals as goal

pub returns-in-Ok-clause-distinct : goal.returns-in-Ok-clause-distinct
returns-in-Ok-clause-distinct c = read_distinct c.args.bytes.now c.read_text.result c.read_text.ensures.found
