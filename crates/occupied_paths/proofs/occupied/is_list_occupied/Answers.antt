use Rattle.std.proofs.Common.{◌∙◌}
use Rattle.std.specs.FinMap.{get}
use Rattle.folder_listing.specs.Listing.{sizes_in}
use Rattle.occupied_paths.proofs.Occupying.{list_decided}
use Rattle.occupied_paths.proofs.occupied.is_list_occupied.Goals as goal

pub returns : goal.returns
returns c = list_decided (get (sizes_in c.args.folder.now)) c.args.plan.now c.as_str-list.result.now c.is_taken.result c.requires (c.as_str-list.ensures.same ∙ c.list.ensures) c.is_taken.ensures
