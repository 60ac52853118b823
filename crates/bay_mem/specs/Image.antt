-- A change made whole, and what one call more leaves of a drive.
use Rattle.std.specs.Prelude.{◌≡◌, ℕ, Bool, true, false, List}
use Rattle.std.specs.FinMap.{insert, remove}
use Rattle.bay_core.specs.declared.event.Event.{Event}
use Rattle.bay_core.specs.declared.event.Event.TheVariants.{Write, Sync, Rename, Remove}
use Rattle.bay_core.specs.Map.{Map, content, overwritten, moved}
use Rattle.bay_core.specs.Replay.{reads}
use Rattle.bay_core.specs.Torn.{Torn}
use Rattle.bay_core.specs.Left.{Left}

-- the map after a change that was made whole, whatever it answered
abbrev pub done : Event → Map → Map
done (Write d path at bytes ok) m = insert m path (overwritten (content m path) at bytes)
done (Rename d from to ok) m = moved m from to
done (Remove d path ok) m = remove m path
done _ m = m

-- a call that answered Ok, where it can fail
abbrev pub answered : Event → Bool
answered (Write d path at bytes ok) = ok
answered (Rename d from to ok) = ok
answered (Remove d path ok) = ok
answered _ = true

-- One call more on a drive that reads as R turns a map that is left into another one that is left.
abbrev pub Leads : Event → Map → Map → Map → Type 0
Leads (Sync d true) R I J = J ≡ R
Leads (Sync d false) R I J = J ≡ I
Leads e R I J = Torn e I J

-- after these calls a drive that began as m reads so, and may be left so
pub record Stands (m : Map) (L : List Event) (d : ℕ) (read left : Map) : Type 0 where
  pub read_is : read ≡ reads m L d
  pub is_left : Left m L d left
