-- Lines that were said, or of which one could not be.
use Rattle.std.specs.Prelude.{◌≡◌, ℕ, List, ◌∷◌, ◌++◌, false}
use Rattle.bay_core.specs.declared.event.Event.{Event}
use Rattle.bay_core.specs.declared.event.Event.TheVariants.{Say}
use Rattle.bay_core.specs.Replay.{Output}
use Rattle.bay_core.specs.World.{World, Rose}
use Rattle.bay_core.specs.Went.{Went, Only, MaySee}
use Rattle.bay_core.specs.Looks.{Exactly, says}

-- The first ones of these lines were said, the next one could not be said, and no call followed.
pub record BrokeOff (lines : List (List ℕ)) (L : List Event) : Type 0 where
  pub first : List (List ℕ)
  pub next : List ℕ
  pub rest : List (List ℕ)
  pub last : List Event
  pub lines_are : lines ≡ first ++ next ∷ rest
  pub calls_are : L ≡ says first ++ last
  pub failed : MaySee (Say next false) last

-- all of these lines were said, and nothing else was called
abbrev pub Told : List (List ℕ) → World → World → Type 0
Told lines old new = Went (Only Output) (Exactly (says lines)) old new

-- one of these lines could not be said, and the count of the output rose
pub record Untold (lines : List (List ℕ)) (old new : World) : Type 0 where
  pub went : Went (Only Output) (BrokeOff lines) old new
  pub cause : Rose (old.faults Output) (new.faults Output)
