use Rattle.std.proofs.Common.{◌≡◌, rules, map, ap, ◌∙◌, not}
use Rattle.std.specs.Prelude.{string_cmp}
use Rattle.std.specs.List.{filter}
use Rattle.std.specs.FinMap.{keys}
use Rattle.std.specs.BTreeMap.{IsOrdered}
use Rattle.std.specs.Map.Iter.{deref_pair}
use Rattle.std.proofs.lemmas.Map.Iter.{iter_end}
use Rattle.folder_listing.specs.Listing.{Contents, sizes_in, is_marked}
use Rattle.folder_listing.proofs.Trees.{name_of, left_out, unmarked_tree}
use Rattle.folder_listing.proofs.folder.Folder.unmarked.Goals as goal

pub returns : goal.returns
returns c =
    let all : map deref_pair c.loop-path.yielded ≡ c.self.inside.files.entries = search (rules, iter_end) in
    let ordered : IsOrdered string_cmp c.self.inside.files = search rules in
    c.loop-path.invariant ∙ ap (λ es. map name_of (filter left_out es)) all ∙ unmarked_tree c.self.inside.files ordered
    ∙ ap (λ (m : Contents). filter (λ q. not (is_marked m q)) (keys (sizes_in m))) c.self.view_is
