-- The order in which a drive may be changed so that a stop at any moment is safe: prepare, flush, commit, flush, announce.
use Rattle.std.specs.Prelude.{◌≡◌, ◌⊎◌, ℕ, suc, ◌≤◌, max, Bool, true, false, cond, List, [], ◌∷◌, IsTrue, ⊤, None}
use Rattle.bay_core.specs.declared.event.Event.{Event}
use Rattle.bay_core.specs.declared.event.Event.TheVariants.{AttachSource, AttachDrive, AttachFailed, SourceList, SourceRead, DriveList, DriveRead, Write, Sync, Rename, Remove, Moment, Pick, Say}
use Rattle.bay_core.specs.declared.event.DriveGot.TheVariants.{Failed}
use Rattle.bay_core.specs.Looks.{is_change}
use Rattle.bay_core.specs.Map.{Map}
use Rattle.bay_core.specs.Replay.{Device, Drive, Output, device_of, is_on, changed}
use Rattle.bay_core.specs.Torn.{Torn}

-- the same call, but failed; the clock and the picker do not fail
abbrev pub failed : Event → Event
failed (AttachSource s place) = AttachFailed place
failed (AttachDrive d place) = AttachFailed place
failed (AttachFailed place) = AttachFailed place
failed (SourceList s got) = SourceList s None
failed (SourceRead s path at want got) = SourceRead s path at want None
failed (DriveList d got) = DriveList d None
failed (DriveRead d path at want got) = DriveRead d path at want Failed
failed (Write d path at bytes ok) = Write d path at bytes false
failed (Sync d ok) = Sync d false
failed (Rename d from to ok) = Rename d from to false
failed (Remove d path ok) = Remove d path false
failed (Moment t) = Moment t
failed (Pick n) = Pick n
failed (Say line ok) = Say line false

-- every call is done but a change or a barrier that answered Failed
abbrev pub is_done : Event → Bool
is_done (Write d path at bytes ok) = ok
is_done (Rename d from to ok) = ok
is_done (Remove d path ok) = ok
is_done (Sync d ok) = ok
is_done _ = true

-- a call on a drive that settles and changes nothing: a listing, a read, or a barrier that failed
abbrev pub is_passive : Event → Bool
is_passive (DriveList d got) = true
is_passive (DriveRead d path at want got) = true
is_passive (Sync d false) = true
is_passive _ = false

-- some work on a drive, in stages
pub record Protocol : Type 1 where
  pub Stage : Type 0
  pub At : Stage → Map → Type 0  -- what holds of a map at a stage
  pub progress : Stage → ℕ  -- the number of steps done at a stage
  pub announces : List ℕ → ℕ  -- the number of steps that a line announces for the drive, 0 where it announces none
  pub Prepares : Stage → Event → Type 0  -- a change of what does not count at the stage
  pub Commits : Map → Stage → Event → Stage → Type 0  -- the change that leads to the next stage, over what a read gives

-- A change that prepares keeps the stage, however far it came. One that commits leaves its stage or the next, and the next where it
-- answered Ok, which is one step more. A change that may be made may also fail.
pub record IsSafe (P : Protocol) : Type 0 where
  pub prepared : (s : P.Stage) (e : Event) (m new : Map) → P.Prepares s e → P.At s m → Torn e m new → P.At s new
  pub committed : (s t : P.Stage) (e : Event) (m new : Map) → P.Commits m s e t → P.At s m → Torn e m new → P.At s new ⊎ P.At t new
  pub done : (s t : P.Stage) (e : Event) (m : Map) → P.Commits m s e t → P.At s m → is_done e ≡ true → P.At t (changed m e)
  pub rises : (s t : P.Stage) (e : Event) (m : Map) → P.Commits m s e t → P.progress t ≡ suc (P.progress s)
  pub prepares_failed : (s : P.Stage) (e : Event) → P.Prepares s e → P.Prepares s (failed e)
  pub commits_failed : (s t : P.Stage) (e : Event) (m : Map) → P.Commits m s e t → P.Commits m s (failed e) t
  pub prepares_change : (s : P.Stage) (e : Event) → P.Prepares s e → IsTrue (is_change e)
  pub commits_change : (s t : P.Stage) (e : Event) (m : Map) → P.Commits m s e t → IsTrue (is_change e)

-- where a drive is between two calls
pub data State (P : Protocol) : Type 0 where
  Settled : P.Stage → State P  -- nothing is pending
  Preparing : P.Stage → State P  -- changes that do not count may be pending
  Committing : P.Stage → P.Stage → Bool → State P  -- the change to the next stage may be pending; whether it answered Ok

-- the stage that is on the drive for certain
abbrev pub reached : {P : Protocol} → State P → P.Stage
reached (Settled s) = s
reached (Preparing s) = s
reached (Committing s t done) = s

-- the stage on the drive once a barrier answers Ok, which is the one that a read gives
abbrev pub flushed : {P : Protocol} → State P → P.Stage
flushed (Settled s) = s
flushed (Preparing s) = s
flushed (Committing s t true) = t
flushed (Committing s t false) = s

-- no change to the next stage is pending
abbrev pub MayPrepare : {P : Protocol} → State P → Type 0
MayPrepare (Committing s t done) = ⊥
MayPrepare _ = ⊤

-- a card, another drive, attaching, the clock or the picker
pub record IsElsewhere (d : ℕ) (x : Device) : Type 0 where
  pub drive : x ≡ Drive d → ⊥
  pub output : x ≡ Output → ⊥

-- One call of a run, as far as it concerns drive d, with the steps announced and what a read of d gives before it: it is elsewhere; it is
-- a line that announces no more than was reached; it is passive; it prepares; it is a barrier that answered Ok; or, from rest and with
-- every step so far announced, it commits.
pub data Step (P : Protocol) (d told : ℕ) (m : Map) : State P → Event → State P → Type 0 where
  elsewhere : {x : State P} {e : Event} → IsElsewhere d (device_of e) → Step P d told m x e x
  says : {x : State P} {line : List ℕ} {ok : Bool} → P.announces line ≤ P.progress (reached x) → Step P d told m x (Say line ok) x
  passes : {x : State P} {e : Event} → device_of e ≡ Drive d → IsTrue (is_passive e) → Step P d told m x e x
  prepares : {x : State P} {e : Event} → device_of e ≡ Drive d → MayPrepare x → P.Prepares (reached x) e → Step P d told m x e (Preparing (reached x))
  flushes : {x : State P} → Step P d told m x (Sync d true) (Settled (flushed x))
  commits : {s t : P.Stage} {e : Event} → device_of e ≡ Drive d → P.progress s ≤ told → P.Commits m s e t → Step P d told m (Settled s) e (Committing s t (is_done e))

-- the steps announced once this call was made: a line announces them whatever its answer
abbrev pub told_after : Protocol → Event → ℕ → ℕ
told_after P (Say line ok) told = max told (P.announces line)
told_after P _ told = told

-- the steps announced after these calls, where so many were announced before
abbrev pub Announced : Protocol → ℕ → List Event → ℕ
Announced P told [] = told
Announced P told (e ∷ L) = Announced P (told_after P e told) L

-- what a read of drive d gives after a call
abbrev pub read_after : ℕ → Map → Event → Map
read_after d m e = cond (is_on d (device_of e)) (changed m e) m

-- the calls lead drive d from one state to another, each by a step
abbrev pub Leads : (P : Protocol) → ℕ → ℕ → Map → State P → List Event → State P → Type 0
Leads P d told m x [] y = x ≡ y
Leads P d told m x (e ∷ L) y = (z : State P) × Step P d told m x e z × Leads P d (told_after P e told) (read_after d m e) z L y

-- the calls of a run so far have led drive d, which began at rest at this stage with its steps announced, to this state
abbrev pub IsIn : (P : Protocol) → ℕ → Map → P.Stage → List Event → State P → Type 0
IsIn P d start s L x = Leads P d (P.progress s) start (Settled s) L x
