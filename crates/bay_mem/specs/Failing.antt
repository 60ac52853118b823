-- Which calls on a bay in memory are to fail, and why a count of faults rose.
use Rattle.std.specs.Prelude.{◌≡◌, ◌⊎◌, ℕ, ◌+◌, ◌-◌, ◌^◌, min, Bool, true, List, [], ◌∷◌, ◌++◌, Some, None, slice_get, nat_eq}
use Rattle.std.specs.List.{list_any}
use Rattle.std.specs.FinMap.{get}
use Rattle.bay_core.specs.declared.event.Event.{Event}
use Rattle.bay_core.specs.Replay.{Device, reads}
use Rattle.bay_core.specs.World.{Rose}
use Rattle.bay_mem.specs.Files.{Files}
use Rattle.bay_mem.specs.State.{State, untouched, noted, hushed, count, one_more, placed}

-- how many calls were made that can fail, the numbers of those that are to fail, and how many growths were refused
pub record Failing : Type 0 where
  pub calls : ℕ
  pub due : List ℕ
  pub refused : ℕ

-- a bay in memory: what was called on it, and what is to fail
pub record BayState : Type 0 where
  pub seen : State
  pub failing : Failing

-- no call, none that is to fail, no growth refused
abbrev pub unfailing : Failing
unfailing = record { calls = 0; due = []; refused = 0 }

-- a new bay
abbrev pub new_bay : BayState
new_bay = record { seen = untouched; failing = unfailing }

-- the next call that can fail is to fail
abbrev pub is_due : Failing → Bool
is_due f = list_any (λ n. nat_eq n (one_more f.calls)) f.due

-- one call more that can fail
abbrev pub called_once : Failing → Failing
called_once f = record { calls = one_more f.calls; due = f.due; refused = f.refused }

-- the n-th such call from now is to fail
abbrev pub with_due : Failing → ℕ → Failing
with_due f n = record { calls = f.calls; due = f.due ++ min (f.calls + n) (2 ^ 64 - 1) ∷ []; refused = f.refused }

-- one refused growth more
abbrev pub refused_once : Failing → Failing
refused_once f = record { calls = f.calls; due = f.due; refused = one_more f.refused }

-- the bay, of which this is seen now
abbrev pub seeing : BayState → State → BayState
seeing b s = record { seen = s; failing = b.failing }

-- the bay after a growth was refused to it
abbrev pub refusing : BayState → BayState
refusing b = record { seen = b.seen; failing = refused_once b.failing }

-- no files were added for the place
abbrev pub NotAdded : State → List ℕ → Type 0
NotAdded s place = placed s.fixed.places place ≡ None

-- card s has no such file
abbrev pub CardLacks : State → ℕ → List ℕ → Type 0
CardLacks s n path = (f : Files) → slice_get s.fixed.cards n ≡ Some f → get f.map path ≡ None

-- drive d reads without such a file
abbrev pub DriveLacks : State → ℕ → List ℕ → Type 0
DriveLacks s d path = (f : Files) → slice_get s.fixed.drives d ≡ Some f → get (reads f.map s.events d) path ≡ None

-- why a call did not answer: it was to fail, a growth was refused in it, or this is so
pub record Excused (own : Type 0) (old new : Failing) : Type 0 where
  pub why : (is_due old ≡ true) ⊎ Rose old.refused new.refused ⊎ own

-- no count of faults changed
abbrev pub NoFault : BayState → BayState → Type 0
NoFault old new = (x : Device) → count new.seen.counts x ≡ count old.seen.counts x

-- a call counted as a fault only where it has such an excuse
pub record Blamed (own : Type 0) (old new : BayState) : Type 0 where
  pub why : NoFault old new ⊎ Excused own old.failing new.failing

-- a call of the clock or the picker was noted, or no calls are told from now on, since a growth was refused
pub record NotedOrHushed (e : Event) (old new : BayState) : Type 0 where
  pub so : (new ≡ seeing old (noted old.seen e)) ⊎ (new ≡ refusing (seeing old (hushed old.seen)))
