-- The listing is the one call; what it got is what the bay says of it.
use Rattle.card_inventory.proofs.Cards.{listing_gives, unlisted, none_listed, one_untouched, none_untouched, failed_untouched}
use Rattle.card_inventory.proofs.OneInventory.{steady_gives}
use Rattle.card_inventory.proofs.card.inventory.Goals as goal

pub returns-in-Ok-clause-answer : goal.returns-in-Ok-clause-answer
returns-in-Ok-clause-answer g c =
    listing_gives c.args.s c.in-Ok.files.items c.inventory_of.result (record { called = c.in-Ok.ensures.called; steady = c.in-Ok.ensures.steady }) c.inventory_of.ensures

pub returns-in-Ok-clause-untouched : goal.returns-in-Ok-clause-untouched
returns-in-Ok-clause-untouched g c = one_untouched c.args.s c.in-Ok.files.items c.in-Ok.ensures.called

pub returns-in-Ok-clause-steady : goal.returns-in-Ok-clause-steady
returns-in-Ok-clause-steady g c = λ m steady known. steady_gives m _ c.in-Ok.files.items c.inventory_of.result (c.in-Ok.ensures.steady m steady) known c.inventory_of.ensures

pub returns-in-Err-Failed-clause-untouched : goal.returns-in-Err-Failed-clause-untouched
returns-in-Err-Failed-clause-untouched g c = failed_untouched c.args.s c.in-Err-Failed.field-0 c.in-Err-Failed.field-0-is c.in-Err-Failed.ensures.called

pub returns-in-Err-Memory-clause-answer : goal.returns-in-Err-Memory-clause-answer
returns-in-Err-Memory-clause-answer g c = none_listed c.args.s (unlisted c.args.s c.in-Err-Memory.field-0 c.in-Err-Memory.field-0-is c.in-Err-Memory.ensures.called)

pub returns-in-Err-Memory-clause-untouched : goal.returns-in-Err-Memory-clause-untouched
returns-in-Err-Memory-clause-untouched g c = none_untouched c.args.s (unlisted c.args.s c.in-Err-Memory.field-0 c.in-Err-Memory.field-0-is c.in-Err-Memory.ensures.called)
