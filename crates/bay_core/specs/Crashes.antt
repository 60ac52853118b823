-- What a stop at any moment of a call may leave of one drive, and what the drive holds after it.
use Rattle.std.specs.Prelude.{◌≡◌, ℕ, Bool, true, List, ◌++◌, Some}
use Rattle.std.specs.FinMap.{get}
use Rattle.bay_core.specs.declared.event.Event.{Event}
use Rattle.bay_core.specs.Map.{Map}
use Rattle.bay_core.specs.Replay.{reads}
use Rattle.bay_core.specs.Left.{Left, IsSettled}
use Rattle.bay_core.specs.World.{World, Honest}

-- Where drive d is honest and reads as a map with Pre, whatever is pending on it: each map left at a moment of the call has Way with one
-- that was left before.
pub record Leaves (d : ℕ) (Pre : Map → Type 0) (Way : Map → Map → Type 0) (old new : World) : Type 0 where
  pub any_moment : (m : Map) (before since rest : List Event) → Honest old d m before → Pre (reads m before d)
      → new.events ≡ Some (before ++ (since ++ rest)) → (I : Map) → Left m (before ++ since) d I → (J : Map) × Left m before d J × Way J I

-- After Ok the drive is settled, and what is read then has Post with what was read before.
pub record Rests (d : ℕ) (Pre : Map → Type 0) (Post : Map → Map → Type 0) (ok : Bool) (old new : World) : Type 0 where
  pub done : ok ≡ true → (m : Map) (before all : List Event) → Honest old d m before → Pre (reads m before d)
      → new.events ≡ Some all → IsSettled m all d × Post (reads m before d) (reads m all d)

-- any map
abbrev pub IsAny : Map → Type 0
IsAny m = Unit {0}

-- the same but at these paths
abbrev pub OnlyAt : (List ℕ → Type 0) → Map → Map → Type 0
OnlyAt Q J I = (q : List ℕ) → (Q q → ⊥) → get I q ≡ get J q
