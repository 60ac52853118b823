-- What a stop at any moment leaves, where a run keeps to a protocol.
use Rattle.std.specs.Prelude.{◌≡◌, ℕ, suc, ◌≤◌, List, ◌++◌, Some}
use Rattle.bay_core.specs.declared.event.Event.{Event}
use Rattle.bay_core.specs.Left.{Left, IsSettled}
use Rattle.bay_core.specs.Map.{Map}
use Rattle.bay_core.specs.Replay.{reads}
use Rattle.bay_core.specs.World.{World}
use Rattle.crash_law.specs.Protocol.{Protocol, State, Settled, IsIn, Announced}

-- the map holds a prefix of the steps: all that were announced, and at most one more
pub record IsPrefixOfSteps (P : Protocol) (told : ℕ) (I : Map) : Type 0 where
  pub stage : P.Stage
  pub at : P.At stage I
  pub announced : told ≤ P.progress stage
  pub at_most_one : P.progress stage ≤ suc told

-- Wherever a run that keeps to the protocol stops, a drive is left with a prefix of the steps. Where its state says that nothing is
-- pending, exactly one map is left, and it is at that stage.
pub record CrashLaw (P : Protocol) : Type 0 where
  pub prefix : (start : Map) (s : P.Stage) → P.At s start → (d : ℕ) (L more : List Event) (end : State P) → IsIn P d start s (L ++ more) end →
      (I : Map) → Left start L d I → IsPrefixOfSteps P (Announced P (P.progress s) L) I
  pub settled : (start : Map) (s t : P.Stage) → P.At s start → (d : ℕ) (L : List Event) → IsIn P d start s L (Settled t) →
      IsSettled start L d × P.At t (reads start L d)

-- From a moment at which a drive is at rest, what is left of it and what it reads are as if it had begun with the map that is read then.
-- What would be left of a drive that began with that map is left at any moment.
pub record Restarts (m : Map) (L : List Event) (d : ℕ) : Type 0 where
  pub left : IsSettled m L d → (since : List Event) (I : Map) → Left m (L ++ since) d I → Left (reads m L d) since d I
  pub back : (since : List Event) (I : Map) → Left (reads m L d) since d I → Left m (L ++ since) d I
  pub read : (since : List Event) → reads m (L ++ since) d ≡ reads (reads m L d) since d

-- drive d is in the state in which it was, reads as before, and nothing more is announced for it
pub record Stays (P : Protocol) (d : ℕ) (start : Map) (s : P.Stage) (before all : List Event) : Type 0 where
  pub is_in : (x : State P) → IsIn P d start s before x → IsIn P d start s all x
  pub read : reads start all d ≡ reads start before d
  pub told : Announced P (P.progress s) all ≡ Announced P (P.progress s) before

-- so it is after the calls that led from one world to another, where both tell their calls, behind those that were made before the run
pub record StaysPut (P : Protocol) (d : ℕ) (old new : World) : Type 0 where
  pub stays : (start : Map) (s : P.Stage) (past before all : List Event) → old.events ≡ Some (past ++ before) → new.events ≡ Some (past ++ all) → Stays P d start s before all
