use Rattle.std.proofs.Common.{◌∙◌}
use Rattle.bay_mem.specs.Files.{with_file}
use Rattle.bay_mem.proofs.Trees.{files_added}
use Rattle.bay_mem.proofs.mem_map.MemMap.put.Goals as goal

pub returns-clause-ok : goal.returns-clause-ok
returns-clause-ok c =
    files_added c.self.inside.files c.insert.new.self _ _ c.in_ok-insert.ensures.updates
    ∙ (λ i. with_file (c.self.view_is i) (c.in_ok-key.ensures.ok i) c.args.bytes.items c.args.modified)
