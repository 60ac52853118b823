-- What a run of calls did, and that it did nothing else.
use Rattle.std.specs.Prelude.{◌≡◌, ◌⊎◌, ℕ, ◌≤◌, take, length, Bool, true, false, List, [], ◌∷◌, ◌++◌, Option, Some, None, Result, Ok, Err, Vec}
use Rattle.bay_core.specs.declared.event.Event.{Event}
use Rattle.bay_core.specs.declared.event.Event.TheVariants.{SourceList, SourceRead, DriveList, DriveRead, Write, Sync, Rename, Remove, Say}
use Rattle.bay_core.specs.declared.event.FileInfo.{FileInfo}
use Rattle.bay_core.specs.declared.event.DriveGot.{DriveGot}
use Rattle.bay_core.specs.declared.event.DriveGot.TheVariants.{Read, Absent, Failed}
use Rattle.bay_core.specs.declared.failed.Failed.{Failed as DeviceFailed}
use Rattle.bay_core.specs.declared.failed.ListError.{ListError}
use Rattle.bay_core.specs.declared.failed.ListError.TheVariants.{Failed as ListFailed, Memory}
use Rattle.std.specs.Global.{Global}
use Rattle.bay_core.specs.Replay.{Device, Drive, device_of}
use Rattle.bay_core.specs.World.{World, Rose}

-- each call is on one of these devices
unfoldable pub AllOn : (Device → Type 0) → List Event → Type 0
AllOn On [] = Unit {0}
AllOn On (e ∷ L) = On (device_of e) × AllOn On L

-- the events so far are those of before and then such ones
pub record Made (On : Device → Type 0) (P : List Event → Type 0) (old : Option (List Event)) (all : List Event) : Type 0 where
  pub before : List Event
  pub since : List Event
  pub was : old ≡ Some before
  pub is : all ≡ before ++ since
  pub on : AllOn On since
  pub such : P since

-- Only these devices were called, and the events are such. Telling may stop.
pub record Went (On : Device → Type 0) (P : List Event → Type 0) (old new : World) : Type 0 where
  pub told : (all : List Event) → new.events ≡ Some all → Made On P old.events all
  pub later : (x : Device) → old.faults x ≤ new.faults x
  pub others : (x : Device) → (On x → ⊥) → new.faults x ≡ old.faults x
  pub attached : new.attached ≡ old.attached

-- this device alone
abbrev pub Only : Device → Device → Type 0
Only x y = y ≡ x

-- calls on one device, of which the last failed where ok is false, and then its count rose
pub record Called (x : Device) (P : List Event → Type 0) (ok : Bool) (old new : World) : Type 0 where
  pub went : Went (Only x) P old new
  pub cause : ok ≡ false → Rose (old.faults x) (new.faults x)

-- these calls in this order, all of them Ok, or a first part of them of which the last failed, seen or not
unfoldable pub Ran : List (Bool → Event) → Bool → List Event → Type 0
Ran [] true L = L ≡ []
Ran [] false L = ⊥
Ran (c ∷ cs) true L = (rest : List Event) × (L ≡ c true ∷ rest) × Ran cs true rest
Ran (c ∷ cs) false L = (L ≡ []) ⊎ (L ≡ c false ∷ []) ⊎ ((rest : List Event) × (L ≡ c true ∷ rest) × Ran cs false rest)

-- a write, done or not
abbrev pub write_call : ℕ → List ℕ → ℕ → List ℕ → Bool → Event
write_call d path at bytes ok = Write d path at bytes ok

-- a barrier, kept or not
abbrev pub sync_call : ℕ → Bool → Event
sync_call d ok = Sync d ok

-- a rename, done or not
abbrev pub rename_call : ℕ → List ℕ → List ℕ → Bool → Event
rename_call d from to ok = Rename d from to ok

-- a removal, done or not
abbrev pub remove_call : ℕ → List ℕ → Bool → Event
remove_call d path ok = Remove d path ok

-- a line, said or not
abbrev pub say_call : List ℕ → Bool → Event
say_call line ok = Say line ok

-- these calls on drive d, and its count rose where ok is false
abbrev pub Tried : ℕ → List (Bool → Event) → Bool → World → World → Type 0
Tried d calls ok old new = Called (Drive d) (Ran calls ok) ok old new

-- first such events and then such
pub record Then (P Q : List Event → Type 0) (L : List Event) : Type 0 where
  pub first : List Event
  pub second : List Event
  pub is : L ≡ first ++ second
  pub here : P first
  pub there : Q second

-- no call
abbrev pub NoCall : List Event → Type 0
NoCall L = L ≡ []

-- this call alone
abbrev pub IsCall : Event → List Event → Type 0
IsCall e L = L ≡ e ∷ []

-- a call that failed, seen or not
abbrev pub MaySee : Event → List Event → Type 0
MaySee e L = (L ≡ []) ⊎ (L ≡ e ∷ [])

-- what a read noted: nothing, or the first n bytes of the buffer
abbrev pub read_got : Option ℕ → List ℕ → DriveGot
read_got None into = Absent
read_got (Some n) into = Read (take n into)

-- the call of a read with this answer
abbrev pub ReadCall : ℕ → List ℕ → ℕ → List ℕ → Result (Option ℕ) DeviceFailed → List Event → Type 0
ReadCall d path at into (Ok got) = IsCall (DriveRead d path at (length into) (read_got got into))
ReadCall d path at into (Err e) = MaySee (DriveRead d path at (length into) Failed)

-- the call of a listing with this answer: none where memory was wanting
abbrev pub ListCall : ℕ → Result (Vec FileInfo Global) ListError → List Event → Type 0
ListCall d (Ok files) = IsCall (DriveList d (Some files.items))
ListCall d (Err ListFailed) = MaySee (DriveList d None)
ListCall d (Err Memory) = NoCall

-- the call of a read of a card with this answer
abbrev pub CardReadCall : ℕ → List ℕ → ℕ → List ℕ → Result ℕ DeviceFailed → List Event → Type 0
CardReadCall s path at into (Ok n) = IsCall (SourceRead s path at (length into) (Some (take n into)))
CardReadCall s path at into (Err e) = MaySee (SourceRead s path at (length into) None)

-- the call of a listing of a card with this answer
abbrev pub CardListCall : ℕ → Result (Vec FileInfo Global) ListError → List Event → Type 0
CardListCall s (Ok files) = IsCall (SourceList s (Some files.items))
CardListCall s (Err ListFailed) = MaySee (SourceList s None)
CardListCall s (Err Memory) = NoCall

-- the device did not fail
abbrev pub no_fault : Result (Vec FileInfo Global) ListError → Bool
no_fault (Err ListFailed) = false
no_fault _ = true
