use Rattle.std.proofs.Common.{◌≡◌, rules, map, ap, ◌∙◌, subst}
use Rattle.std.specs.Prelude.{string_cmp}
use Rattle.std.specs.BTreeMap.{IsOrdered}
use Rattle.std.specs.Map.Iter.{deref_pair}
use Rattle.std.proofs.lemmas.Map.Iter.{iter_end}
use Rattle.bay_core.specs.Map.{Lists}
use Rattle.bay_mem.specs.Files.{Files}
use Rattle.bay_mem.proofs.Trees.{info_of, lists_files}
use Rattle.bay_mem.proofs.mem_map.MemMap.list.Goals as goal

pub returns : goal.returns
returns c =
    let all : map deref_pair c.loop-path.yielded ≡ c.self.inside.files.entries = search (rules, iter_end) in
    let ordered : IsOrdered string_cmp c.self.inside.files = search rules in
    subst (λ (m : Files). Lists m.map m.dates c.loop-path.files.items) c.self.view_is (lists_files c.self.inside.files c.loop-path.files.items (c.loop-path.invariant ∙ ap (map info_of) all) ordered)
