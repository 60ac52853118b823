use Rattle.std.proofs.Common.{◌∙◌}
use Rattle.std.specs.List.{each_same}
use Rattle.bay_mem.proofs.Trees.{files_cloned, tree_dated}
use Rattle.bay_mem.proofs.mem_map.MemMap.copy.Goals as goal

pub returns-clause-same : goal.returns-clause-same
returns-clause-same c =
    files_cloned _ _ (λ s t e. e) (λ v w d. record { bytes = each_same v.bytes.items w.bytes.items d.0.0; modified = d.1 })
    c.self.inside.files c.in_ok-clone.field-0 c.in_ok-clone.ensures.cases ∙ c.self.view_is

pub returns-clause-dated : goal.returns-clause-dated
returns-clause-dated c = tree_dated c.in_ok-clone.field-0
