-- What an attach gives, and what it leaves as it was.
use Rattle.std.specs.Prelude.{◌≡◌, ℕ, ◌≤◌, ◌+◌, ◌<◌, Bool, true, false, cond, List, [], ◌∷◌, Option, Some, None, option_map, Result, Ok, Err, IfOk, OnErr, bytes_eq}
use Rattle.std.specs.Option.{option_or}
use Rattle.std.specs.FinMap.{get, empty}
use Rattle.bay_core.specs.declared.event.Event.{Event}
use Rattle.bay_core.specs.declared.event.Event.TheVariants.{AttachSource, AttachDrive, AttachFailed}
use Rattle.bay_core.specs.declared.failed.Failed.{Failed as DeviceFailed}
use Rattle.bay_core.specs.Map.{Map, Dates, AllDated}
use Rattle.bay_core.specs.Replay.{Device, Source, Drive, Attaching, calls_on, reads, dated}
use Rattle.bay_core.specs.World.{World, Attached, MadeWith, Rose, Steady}
use Rattle.bay_core.specs.Went.{Made, Only, IsCall, MaySee}

-- the call of an attach of a drive with this answer
abbrev pub AttachCall : List ℕ → Result ℕ DeviceFailed → List Event → Type 0
AttachCall place (Ok d) = IsCall (AttachDrive d place)
AttachCall place (Err e) = MaySee (AttachFailed place)

-- the call of an attach of a card with this answer
abbrev pub CardAttachCall : List ℕ → Result ℕ DeviceFailed → List Event → Type 0
CardAttachCall place (Ok s) = IsCall (AttachSource s place)
CardAttachCall place (Err e) = MaySee (AttachFailed place)

-- what is known of drive d stays
pub record SameDrive (d : ℕ) (old new : Attached) : Type 0 where
  pub start : new.start d ≡ old.start d
  pub dates : new.dates d ≡ old.dates d
  pub honest : new.honest d ≡ old.honest d

-- what is known of card s stays
pub record SameCard (s : ℕ) (old new : Attached) : Type 0 where
  pub card : new.card s ≡ old.card s
  pub dates : new.card_dates s ≡ old.card_dates s
  pub steady : new.steady s ≡ old.steady s

-- the new drive has the next number, and nothing changes of the drives before it and of the cards
abbrev pub Numbered : Result ℕ DeviceFailed → Attached → Attached → Type 0
Numbered (Ok d) old new =
    (d ≡ old.drives) × (new.drives ≡ old.drives + 1) × ((e : ℕ) → e < old.drives → SameDrive e old new) × (new.sources ≡ old.sources) × ((s : ℕ) → SameCard s old new)
    × (new.made ≡ old.made)
Numbered (Err e) old new = new ≡ old

-- the new card has the next number, and nothing changes of the cards before it and of the drives
abbrev pub CardNumbered : Result ℕ DeviceFailed → Attached → Attached → Type 0
CardNumbered (Ok s) old new =
    (s ≡ old.sources) × (new.sources ≡ old.sources + 1) × ((e : ℕ) → e < old.sources → SameCard e old new) × (new.drives ≡ old.drives) × ((d : ℕ) → SameDrive d old new)
    × (new.made ≡ old.made)
CardNumbered (Err e) old new = new ≡ old

-- the device that a call attached from this place
abbrev pub attached_by : List ℕ → Event → Option Device
attached_by place (AttachSource s from) = cond (bytes_eq from place) (Some (Source s)) None
attached_by place (AttachDrive d from) = cond (bytes_eq from place) (Some (Drive d)) None
attached_by place _ = None

-- the device that was attached last from this place
abbrev pub last_from : List ℕ → List Event → Option Device
last_from place [] = None
last_from place (e ∷ L) = option_or (last_from place L) (attached_by place e)

-- what a device holds after these calls
abbrev pub held : Attached → List Event → Device → Option Map
held a L (Source s) = a.card s
held a L (Drive d) = option_map (λ m. reads m L d) (a.start d)
held a L _ = None

-- what is known of its dates then
abbrev pub held_dates : Attached → List Event → Device → Dates
held_dates a L (Source s) = a.card_dates s
held_dates a L (Drive d) = dated (a.dates d) L d
held_dates a L _ = empty

-- The files of a place, where this device was attached last from it: what the device holds, and where there is none what the bay was made with.
abbrev pub files_at : MadeWith → Attached → List Event → List ℕ → Option Device → Option Map
files_at made a L place None = made.files place
files_at made a L place (Some x) = held a L x

abbrev pub dates_at : MadeWith → Attached → List Event → List ℕ → Option Device → Dates
dates_at made a L place None = made.dates place
dates_at made a L place (Some x) = held_dates a L x

-- no device, or one that does not lie
abbrev pub NoLiar : MadeWith → Option Device → Type 0
NoLiar made None = Unit {0}
NoLiar made (Some x) = made.may_lie x ≡ false

-- What a new device is given, where it is told what the bay was made with, and these were attached and called before: the files of its
-- place, with the dates that are known of them, unless the device before it may lie.
pub record Gives (place : List ℕ) (map : Option Map) (dates : Dates) (a : Attached) (L : List Event) : Type 0 where
  pub files : (made : MadeWith) → a.made ≡ Some made → NoLiar made (last_from place L) → map ≡ files_at made a L place (last_from place L)
  pub known : (made : MadeWith) → a.made ≡ Some made → NoLiar made (last_from place L)
      → (q : List ℕ) (t : ℕ) → get (dates_at made a L place (last_from place L)) q ≡ Some t → get dates q ≡ Some t

-- so it is wherever the calls before are told
abbrev pub GivesSo : List ℕ → Option Map → Dates → World → Type 0
GivesSo place map dates old = (L : List Event) → old.events ≡ Some L → Gives place map dates old.attached L

-- a device is true where it is told that it may not lie
abbrev pub IsTrueUnless : Device → Bool → Attached → Type 0
IsTrueUnless x is_true a = (made : MadeWith) → a.made ≡ Some made → made.may_lie x ≡ false → is_true ≡ true

-- One attach of a drive: one call, no other device's count changed, and no call before it was on a drive that was not yet attached.
pub record Attaches (place : List ℕ) (result : Result ℕ DeviceFailed) (old new : World) : Type 0 where
  pub told : (all : List Event) → new.events ≡ Some all → Made (Only Attaching) (AttachCall place result) old.events all
  pub later : old.faults Attaching ≤ new.faults Attaching
  pub others : (x : Device) → (Only Attaching x → ⊥) → new.faults x ≡ old.faults x
  pub numbered : Numbered result old.attached new.attached
  pub unused : (L : List Event) → old.events ≡ Some L → (d : ℕ) → old.attached.drives ≤ d → calls_on d L ≡ []
  pub cause : OnErr result (Rose (old.faults Attaching) (new.faults Attaching))
  pub gives : IfOk result (λ d. GivesSo place (new.attached.start d) (new.attached.dates d) old)
  pub truth : IfOk result (λ d. IsTrueUnless (Drive d) (new.attached.honest d) old.attached)

-- One attach of a card: one call, and no other device's count changed. A steady card tells a date of each of its files.
pub record CardAttaches (place : List ℕ) (result : Result ℕ DeviceFailed) (old new : World) : Type 0 where
  pub told : (all : List Event) → new.events ≡ Some all → Made (Only Attaching) (CardAttachCall place result) old.events all
  pub later : old.faults Attaching ≤ new.faults Attaching
  pub others : (x : Device) → (Only Attaching x → ⊥) → new.faults x ≡ old.faults x
  pub numbered : CardNumbered result old.attached new.attached
  pub cause : OnErr result (Rose (old.faults Attaching) (new.faults Attaching))
  pub gives : IfOk result (λ s. GivesSo place (new.attached.card s) (new.attached.card_dates s) old)
  pub truth : IfOk result (λ s. IsTrueUnless (Source s) (new.attached.steady s) old.attached)
  pub dated : IfOk result (λ s. (m : Map) → Steady new s m → AllDated m (new.attached.card_dates s))
