use Rattle.std.proofs.Common.{◌≡◌, arith, sym, ◌∙◌, ap}
use Rattle.std.specs.Prelude.{option_map, option_copied}
use Rattle.std.specs.FinMap.{get}
use Rattle.std.proofs.lemmas.Grind.{common_steps}
use Rattle.folder_listing.specs.Listing.{Contents, sizes_in}
use Rattle.folder_listing.proofs.Trees.{size_of, get-kept}
use Rattle.folder_listing.proofs.folder.Folder.size.Goals as goal

pub returns : goal.returns
returns c =
    let mapped : c.map.result ≡ option_map size_of (option_copied c.get.result) = grind (arith, common_steps) in
    mapped ∙ ap (option_map size_of) c.get.ensures.value ∙ sym (get-kept size_of c.self.inside.files c.args.path.now) ∙ ap (λ (m : Contents). get (sizes_in m) c.args.path.now) c.self.view_is
