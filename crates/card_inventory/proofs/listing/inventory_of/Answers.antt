-- The files are good and in the listing's order; what building them gives is what the listing gives.
use Rattle.card_inventory.proofs.Listings.{is_built, built_not}
use Rattle.card_inventory.proofs.listing.inventory_of.Goals as goal

pub returns-in_err-build : goal.returns-in_err-build
returns-in_err-build c =
    built_not c.args.files.items c.in_err-build.field-0.0 c.from_residual-in_err-build.result
    (is_built c.args.files.items c.in_ok-files.files.items _ c.in_ok-files.ensures.files c.in_ok-files.ensures.good c.in_err-build.ensures) c.from_residual-in_err-build.ensures.1
