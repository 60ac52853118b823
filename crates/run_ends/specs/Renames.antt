-- What a drive has where a file on it is given another name.
use Rattle.std.specs.Prelude.{◌≡◌, ℕ, Bool, true, List, ◌∷◌, ◌++◌, is_some}
use Rattle.std.specs.FinMap.{get}
use Rattle.bay_core.specs.declared.event.Event.{Event}
use Rattle.bay_core.specs.declared.event.Event.TheVariants.{Rename}
use Rattle.bay_core.specs.Map.{Map}
use Rattle.bay_core.specs.Replay.{reads}

-- each rename of drive d among these calls, made or not, names a file that the drive then has, which began with this map and on which those were called before
pub record RenamesWhatIsThere (d : ℕ) (start : Map) (past L : List Event) : Type 0 where
  pub each : (before after : List Event) (from to : List ℕ) (ok : Bool) → L ≡ before ++ Rename d from to ok ∷ after → is_some (get (reads start (past ++ before) d) from) ≡ true
