-- The fields of a bay in memory as its state.
use Rattle.std.specs.Prelude.{ℕ, Bool, List}
use Rattle.bay_core.specs.declared.event.Event.{Event}
use Rattle.bay_mem.specs.Files.{Files}
use Rattle.bay_mem.specs.State.{State}
use Rattle.bay_mem.specs.declared.places.Place.{Place}
use Rattle.bay_mem.specs.declared.lies.Flip.{Flip}
use Rattle.bay_mem.specs.declared.lies.ListedAs.{ListedAs}

-- the state of these fields
abbrev pub state_of : Bool → List Event → List Files → List Files → List Place → List Flip → List ListedAs → List Files → List ℕ → List ℕ → ℕ → ℕ → State
state_of told events cards drives places flips listed contents card_counts drive_counts attaching output = record {
  told = told;
  events = events;
  fixed = record { cards = cards; drives = drives; places = places; flips = flips; listed = listed };
  contents = contents;
  counts = record { cards = card_counts; drives = drive_counts; attaching = attaching; output = output };
}
