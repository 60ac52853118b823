-- What the calls on one drive made of its map and its dates.
use Rattle.std.specs.Prelude.{ℕ, Bool, true, false, List, [], ◌∷◌, nat_eq, filter}
use Rattle.std.specs.FinMap.{insert, remove}
use Rattle.bay_core.specs.declared.event.Event.{Event}
use Rattle.bay_core.specs.declared.event.Event.TheVariants.{AttachSource, AttachDrive, AttachFailed, SourceList, SourceRead, DriveList, DriveRead, Write, Sync, Rename, Remove, Moment, Pick, Say}
use Rattle.bay_core.specs.Map.{Map, Dates, content, overwritten, moved}

-- what a call is made on: a card or a drive by its number, attaching, the output, the clock or the picker
pub data Device : Type 0 where
  Source : ℕ → Device
  Drive : ℕ → Device
  Attaching : Device
  Output : Device
  Clock : Device
  Picker : Device

-- the device of a call
abbrev pub device_of : Event → Device
device_of (AttachSource s place) = Attaching
device_of (AttachDrive d place) = Attaching
device_of (AttachFailed place) = Attaching
device_of (SourceList s got) = Source s
device_of (SourceRead s path at want got) = Source s
device_of (DriveList d got) = Drive d
device_of (DriveRead d path at want got) = Drive d
device_of (Write d path at bytes ok) = Drive d
device_of (Sync d ok) = Drive d
device_of (Rename d from to ok) = Drive d
device_of (Remove d path ok) = Drive d
device_of (Moment t) = Clock
device_of (Pick n) = Picker
device_of (Say line ok) = Output

-- this device is drive d
abbrev pub is_on : ℕ → Device → Bool
is_on d (Drive e) = nat_eq d e
is_on d _ = false

-- the calls on one drive
abbrev pub calls_on : ℕ → List Event → List Event
calls_on d L = filter (λ e. is_on d (device_of e)) L

-- the map after a call: what a change that answered Ok makes of it
abbrev pub changed : Map → Event → Map
changed m (Write d path at bytes true) = insert m path (overwritten (content m path) at bytes)
changed m (Rename d from to true) = moved m from to
changed m (Remove d path true) = remove m path
changed m _ = m

-- the known dates after a call: a path that it may have changed loses its date, also where it failed
abbrev pub undated : Dates → Event → Dates
undated dates (Write d path at bytes ok) = remove dates path
undated dates (Rename d from to ok) = remove (remove dates from) to
undated dates (Remove d path ok) = remove dates path
undated dates _ = dates

-- the map after the calls of one drive
abbrev pub replayed : Map → List Event → Map
replayed m [] = m
replayed m (e ∷ L) = replayed (changed m e) L

-- the known dates after the calls of one drive
abbrev pub redated : Dates → List Event → Dates
redated dates [] = dates
redated dates (e ∷ L) = redated (undated dates e) L

-- what drive d holds after all these calls
unfoldable pub reads : Map → List Event → ℕ → Map
reads m L d = replayed m (calls_on d L)

-- what is known of its dates then
unfoldable pub dated : Dates → List Event → ℕ → Dates
dated dates L d = redated dates (calls_on d L)
