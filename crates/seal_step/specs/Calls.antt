-- What sealing a drive calls, and where it fails, by the answer.
use Rattle.std.specs.Prelude.{◌≡◌, ◌⊎◌, ℕ, true, false, List, Some, None, Result, Ok, Err}
use Rattle.std.specs.FinMap.{get}
use Rattle.bay_core.specs.declared.event.Event.{Event}
use Rattle.bay_core.specs.Map.{Map}
use Rattle.bay_core.specs.Paths.{new_path}
use Rattle.bay_core.specs.Replay.{Drive, reads}
use Rattle.bay_core.specs.World.{World, Honest, Rose}
use Rattle.bay_core.specs.Went.{Ran, Then}
use Rattle.seal_step.specs.declared.error.SealError.{SealError}
use Rattle.seal_step.specs.declared.error.SealError.TheVariants.{DriveFailed}
use Rattle.seal_step.specs.Parts.{joined, drafting, naming}
use Rattle.seal_step.specs.Reading.{BackCalls, OkOrFault}

-- all parts are written and settled, and then such calls
abbrev pub Drafts : ℕ → List (List ℕ) → (List Event → Type 0) → List Event → Type 0
Drafts d parts P L = Then (Ran (drafting d parts) true) P L

-- The calls of a sealing by its answer: the parts are written and settled; they are read again; and where they are what was written, they get
-- their name, and it is settled.
abbrev pub SealCalls : ℕ → List ℕ → List (List ℕ) → Result Unit SealError → List Event → Type 0
SealCalls d list parts (Ok _) L = Drafts d parts (Then (BackCalls d (joined parts) (Ok tt)) (Ran (naming d list) true)) L
SealCalls d list parts (Err DriveFailed) L = Ran (drafting d parts) false L
    ⊎ Drafts d parts (BackCalls d (joined parts) (Err DriveFailed)) L
    ⊎ Drafts d parts (Then (BackCalls d (joined parts) (Ok tt)) (Ran (naming d list) false)) L
SealCalls d list parts (Err e) L = Drafts d parts (BackCalls d (joined parts) (Err e)) L

-- a call failed only where the count rose
abbrev pub SealCause : ℕ → Result Unit SealError → World → World → Type 0
SealCause d result old new = result ≡ Err DriveFailed → Rose (old.faults (Drive d)) (new.faults (Drive d))

-- on an honest drive on which no file waits for its name, only a call that fails stops a sealing
pub record FailsAlone (d : ℕ) (result : Result Unit SealError) (old new : World) : Type 0 where
  pub only : (m : Map) (before all : List Event) → Honest old d m before → new.events ≡ Some all → get (reads m before d) new_path ≡ None → OkOrFault result
