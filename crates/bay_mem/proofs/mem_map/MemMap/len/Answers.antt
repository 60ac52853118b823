use Rattle.std.proofs.Common.{sym, ◌∙◌, ap}
use Rattle.std.specs.FinMap.{len}
use Rattle.bay_mem.specs.Files.{Files}
use Rattle.bay_mem.proofs.Trees.{len-kept, bytes_of}
use Rattle.bay_mem.proofs.mem_map.MemMap.len.Goals as goal

pub returns : goal.returns
returns c = c.len.ensures.len ∙ sym (len-kept bytes_of c.self.inside.files c.len.ensures.ordered) ∙ ap (λ (m : Files). len m.map) c.self.view_is
