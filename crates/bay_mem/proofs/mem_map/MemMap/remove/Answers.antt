use Rattle.std.proofs.Common.{◌∙◌, ap}
use Rattle.bay_mem.specs.Files.{Files, without_file}
use Rattle.bay_mem.proofs.Trees.{files_removed}
use Rattle.bay_mem.proofs.mem_map.MemMap.remove.Goals as goal

pub returns : goal.returns
returns c = files_removed c.self.inside.files c.remove.new.self _ c.remove.ensures.updates ∙ ap (λ (f : Files). without_file f c.args.path.now) c.self.view_is
