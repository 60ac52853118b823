-- What the lines of a run are like.
use Rattle.std.specs.Prelude.{◌≡◌, ℕ, List, [], ◌∷◌}
use Rattle.bay_core.specs.declared.event.Event.{Event}
use Rattle.bay_core.specs.declared.event.Event.TheVariants.{Say}

-- the line of this call, if it is one, is such a line, said or not
abbrev pub LineHas : (List ℕ → Type 0) → Event → Type 0
LineHas Q (Say line ok) = Q line
LineHas Q _ = Unit {0}

-- each line among these calls is such a line
unfoldable pub AllLines : (List ℕ → Type 0) → List Event → Type 0
AllLines Q [] = Unit {0}
AllLines Q (e ∷ L) = LineHas Q e × AllLines Q L

-- just this line
abbrev pub IsLine : List ℕ → List ℕ → Type 0
IsLine line said = said ≡ line
