-- What the turns of a run never call.
use Rattle.std.specs.Prelude.{◌≡◌, Bool, true, false, List}
use Rattle.std.specs.List.{AllByRecursion}
use Rattle.bay_core.specs.declared.event.Event.{Event}
use Rattle.bay_core.specs.declared.event.Event.TheVariants.{SourceList, DriveList}

-- a listing of a card or of a drive, whatever its answer
abbrev pub is_listing : Event → Bool
is_listing (SourceList s got) = true
is_listing (DriveList d got) = true
is_listing _ = false

-- no card and no drive is listed
abbrev pub NoListing : List Event → Type 0
NoListing L = AllByRecursion (λ e. is_listing e ≡ false) L
