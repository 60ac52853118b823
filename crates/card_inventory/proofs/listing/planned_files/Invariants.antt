use Rattle.card_inventory.proofs.Listings.{AreRead}
use Rattle.card_inventory.proofs.listing.planned_files.Given as goal

abbrev pub invariant-loop-file : goal.invariant-loop-file
invariant-loop-file l = AreRead l.yielded l.plan.items
