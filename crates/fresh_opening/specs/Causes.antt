-- Why an offload is not begun, by what refused it.
use Rattle.copy_plan.specs.declared.plan.PlanMakeError.{PlanMakeError}
use Rattle.copy_plan.specs.declared.plan.PlanMakeError.TheVariants.{Clash as PlanClash, Memory as PlanMemory}
use Rattle.card_inventory.specs.declared.error.InventoryError.{InventoryError}
use Rattle.card_inventory.specs.declared.error.InventoryError.TheVariants.{Memory as CardMemory}
use Rattle.fresh_opening.specs.declared.error.FreshError.{FreshError}
use Rattle.fresh_opening.specs.declared.error.FreshError.TheVariants.{Inventory, Clash, Memory}

-- the card has no inventory; want of memory is the outer error's own
abbrev pub refusal_of_card : InventoryError → FreshError
refusal_of_card CardMemory = Memory
refusal_of_card e = Inventory e

-- no plan was made
abbrev pub refusal_of_plan : PlanMakeError → FreshError
refusal_of_plan (PlanClash list path) = Clash list path
refusal_of_plan PlanMemory = Memory
