use Rattle.card_inventory.proofs.OneInventory.{same_as_card, one_of_card}
use Rattle.card_inventory.proofs.laws.one_inventory.Goals as goal

pub returns-clause-listing : goal.returns-clause-listing
returns-clause-listing c = same_as_card

pub returns-clause-one : goal.returns-clause-one
returns-clause-one c = one_of_card
