-- The inventory of a card: what the listing of the card gave, and what a steady card has.
use Rattle.std.specs.Prelude.{◌≡◌, ◌⊎◌, ℕ, ◌↔◌, true, false, List, [], ◌∷◌, length, Contains, Some, None, option_map, Result, Ok, Err}
use Rattle.std.specs.FinMap.{get}
use Rattle.bay_core.specs.declared.event.Event.{Event}
use Rattle.bay_core.specs.declared.event.Event.TheVariants.{SourceList}
use Rattle.bay_core.specs.declared.event.FileInfo.{FileInfo}
use Rattle.bay_core.specs.Map.{Map, Dates, Lists}
use Rattle.bay_core.specs.Replay.{Source}
use Rattle.bay_core.specs.World.{World, Steady}
use Rattle.bay_core.specs.Went.{Called, IsCall, MaySee}
use Rattle.copy_plan.specs.declared.file.PlannedFile.{PlannedFile}
use Rattle.copy_plan.specs.Inventory.{IsInventory}
use Rattle.card_inventory.specs.declared.error.InventoryError.{InventoryError}
use Rattle.card_inventory.specs.declared.error.InventoryError.TheVariants.{SourceFailed, Memory}
use Rattle.card_inventory.specs.Listed.{ListingGives}

-- a file of a card, with its size and its date
pub record IsFileOf (m : Map) (dates : Dates) (f : PlannedFile) : Type 0 where
  pub size : option_map length (get m f.path) ≡ Some f.size
  pub date : get dates f.path ≡ Some f.modified

-- the inventory of a card: just its files, where the rules of an inventory hold
pub record IsInventoryOfCard (m : Map) (dates : Dates) (files : List PlannedFile) : Type 0 where
  pub whole : IsInventory files
  pub just : (f : PlannedFile) → Contains files f ↔ IsFileOf m dates f

-- the answer for a card with these files and dates: its inventory, and a refusal only where it has none
abbrev pub SteadyGives : Map → Dates → Result (List PlannedFile) InventoryError → Type 0
SteadyGives m dates (Ok files) = IsInventoryOfCard m dates files
SteadyGives m dates (Err SourceFailed) = Unit {0}
SteadyGives m dates (Err Memory) = Unit {0}
SteadyGives m dates (Err e) = (files : List PlannedFile) → IsInventoryOfCard m dates files → ⊥

-- card s was listed, and nothing else was called; a steady card gave a listing of its files
pub record IsListed (s : ℕ) (listed : List FileInfo) (old new : World) : Type 0 where
  pub called : Called (Source s) (IsCall (SourceList s (Some listed))) true old new
  pub steady : (m : Map) → Steady old s m → Lists m (old.attached.card_dates s) listed

-- card s was listed, or it was not for want of memory, and nothing else was called
abbrev pub MayList : ℕ → List Event → Type 0
MayList s L = (L ≡ []) ⊎ ((listed : List FileInfo) × (L ≡ SourceList s (Some listed) ∷ []))

-- the answer for card s, by the listing that it gave; it is called failed only where its listing failed and its count rose
abbrev pub CardGives : ℕ → Result (List PlannedFile) InventoryError → World → World → Type 0
CardGives s (Err SourceFailed) old new = Called (Source s) (MaySee (SourceList s None)) false old new
CardGives s (Err Memory) old new = Called (Source s) (MayList s) true old new
CardGives s result old new = (listed : List FileInfo) × IsListed s listed old new × ListingGives listed result
