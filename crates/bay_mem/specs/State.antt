-- A bay in memory, as contracts see it, and what its calls do to it.
use Rattle.std.specs.Prelude.{◌≡◌, ◌⊎◌, ℕ, ◌+◌, ◌-◌, ◌^◌, ◌<◌, ◌≤◌, min, Bool, true, false, cond, not, ◌&&◌, List, [], ◌∷◌, ◌++◌, length, set, Option, Some, None, option_map, slice_get, slice_index, nat_eq, bytes_eq}
use Rattle.std.specs.Option.{option_or}
use Rattle.std.specs.List.{list_any}
use Rattle.std.specs.FinMap.{empty, get}
use Rattle.bay_core.specs.declared.event.Event.{Event}
use Rattle.bay_core.specs.declared.event.Event.TheVariants.{AttachSource, AttachDrive, Write, Rename, Remove}
use Rattle.bay_core.specs.Map.{Map, Dates, AllDated}
use Rattle.bay_core.specs.Replay.{Device, Source, Drive, Attaching, Output, Clock, Picker, calls_on, reads, dated}
use Rattle.bay_core.specs.Attach.{last_from}
use Rattle.bay_core.specs.World.{World, Attached, MadeWith}
use Rattle.bay_mem.specs.Files.{Files, Agrees}
use Rattle.bay_mem.specs.declared.places.Place.{Place}
use Rattle.bay_mem.specs.declared.lies.Flip.{Flip}
use Rattle.bay_mem.specs.declared.lies.ListedAs.{ListedAs}

-- What no call but an attach changes: the files of each card and drive as it was attached, the files that were added by their places, and
-- what cards and drives are told to lie about.
pub record Fixed : Type 0 where
  pub cards : List Files
  pub drives : List Files
  pub places : List Place
  pub flips : List Flip
  pub listed : List ListedAs

-- the counts of faults
pub record Counts : Type 0 where
  pub cards : List ℕ
  pub drives : List ℕ
  pub attaching : ℕ
  pub output : ℕ

-- whether all calls are told, the calls that are kept, what is fixed, what each drive holds now, and the counts
pub record State : Type 0 where
  pub told : Bool
  pub events : List Event
  pub fixed : Fixed
  pub contents : List Files
  pub counts : Counts

-- the count of a device; the clock and the picker have none
abbrev pub count : Counts → Device → ℕ
count c (Source s) = slice_index c.cards s
count c (Drive d) = slice_index c.drives d
count c Attaching = c.attaching
count c Output = c.output
count c Clock = 0
count c Picker = 0

-- the files that were added last for a place
abbrev pub placed : List Place → List ℕ → Option Files
placed [] place = None
placed (p ∷ ps) place = option_or (placed ps place) (cond (bytes_eq p.name place) (Some p.files) None)

-- a byte of drive d is shown flipped
abbrev pub is_flipped : List Flip → ℕ → Bool
is_flipped [] d = false
is_flipped (f ∷ fs) d = cond (nat_eq f.d d) true (is_flipped fs d)

-- card s lists a size that was set
abbrev pub is_listed_as : List ListedAs → ℕ → Bool
is_listed_as [] s = false
is_listed_as (l ∷ ls) s = cond (nat_eq l.s s) true (is_listed_as ls s)

-- another size than that of these bytes, where there are any
abbrev pub is_other_size : ℕ → Option (List ℕ) → Bool
is_other_size size None = false
is_other_size size (Some bytes) = not (nat_eq (length bytes) size)

-- this lists a file of card s, which has these files, with another size
abbrev pub is_false_size : ℕ → Files → ListedAs → Bool
is_false_size s files l = nat_eq l.s s && is_other_size l.size (get files.map l.path)

-- card s, which has these files, lists one of them with another size
abbrev pub lists_falsely : List ListedAs → ℕ → Files → Bool
lists_falsely listed s files = list_any (is_false_size s files) listed

-- card s lists each of its files with its own size; a card that is not attached has none
abbrev pub lists_truly : List ListedAs → ℕ → Option Files → Bool
lists_truly listed s None = true
lists_truly listed s (Some files) = not (lists_falsely listed s files)

-- the devices that may lie
abbrev pub lies : Fixed → Device → Bool
lies f (Source s) = is_listed_as f.listed s
lies f (Drive d) = is_flipped f.flips d
lies f _ = false

-- the bytes of some files
abbrev pub map_of : Option Files → Option Map
map_of files = option_map (λ f. f.map) files

-- the dates of some files
abbrev pub dates_of : Option Files → Dates
dates_of None = empty
dates_of (Some files) = files.dates

-- what the bay was made with
abbrev pub made_with : Fixed → MadeWith
made_with f = record { files = λ place. map_of (placed f.places place); dates = λ place. dates_of (placed f.places place); may_lie = lies f }

-- cards and drives are as they were attached; a card is steady that lists no other size, and a drive honest that shows no byte flipped
abbrev pub attached_of : Fixed → Attached
attached_of f = record {
  sources = length f.cards;
  card = λ s. map_of (slice_get f.cards s);
  card_dates = λ s. dates_of (slice_get f.cards s);
  steady = λ s. lists_truly f.listed s (slice_get f.cards s);
  drives = length f.drives;
  start = λ d. map_of (slice_get f.drives d);
  dates = λ d. dates_of (slice_get f.drives d);
  honest = λ d. not (is_flipped f.flips d);
  made = Some (made_with f);
}

-- the calls, where they are told
abbrev pub told_events : Bool → List Event → Option (List Event)
told_events true L = Some L
told_events false L = None

-- the bay as the outside
abbrev pub world_of : State → World
world_of s = record { events = told_events s.told s.events; faults = count s.counts; attached = attached_of s.fixed }

-- nothing was called, attached or added
abbrev pub untouched : State
untouched = record {
  told = true;
  events = [];
  fixed = record { cards = []; drives = []; places = []; flips = []; listed = [] };
  contents = [];
  counts = record { cards = []; drives = []; attaching = 0; output = 0 };
}

-- one call more
abbrev pub noted : State → Event → State
noted s e = record { told = s.told; events = s.events ++ e ∷ []; fixed = s.fixed; contents = s.contents; counts = s.counts }

-- one change of drive d more, after which it holds these files
abbrev pub rewritten : State → ℕ → Event → Files → State
rewritten s d e files = record { told = s.told; events = s.events ++ e ∷ []; fixed = s.fixed; contents = set s.contents d files; counts = s.counts }

-- no calls are told from now on
abbrev pub hushed : State → State
hushed s = record { told = false; events = s.events; fixed = s.fixed; contents = s.contents; counts = s.counts }

-- a count one higher, or at its end
abbrev pub one_more : ℕ → ℕ
one_more n = min (n + 1) (2 ^ 64 - 1)

-- one more fault of a device
abbrev pub recounted : Counts → Device → Counts
recounted c (Source s) = record { cards = set c.cards s (one_more (slice_index c.cards s)); drives = c.drives; attaching = c.attaching; output = c.output }
recounted c (Drive d) = record { cards = c.cards; drives = set c.drives d (one_more (slice_index c.drives d)); attaching = c.attaching; output = c.output }
recounted c Attaching = record { cards = c.cards; drives = c.drives; attaching = one_more c.attaching; output = c.output }
recounted c Output = record { cards = c.cards; drives = c.drives; attaching = c.attaching; output = one_more c.output }
recounted c _ = c

abbrev pub raised : State → Device → State
raised s x = record { told = s.told; events = s.events; fixed = s.fixed; contents = s.contents; counts = recounted s.counts x }

-- one card more, and its attach
abbrev pub with_card : State → List ℕ → Files → State
with_card s place files = record {
  told = s.told;
  events = s.events ++ AttachSource (length s.fixed.cards) place ∷ [];
  fixed = record { cards = s.fixed.cards ++ files ∷ []; drives = s.fixed.drives; places = s.fixed.places; flips = s.fixed.flips; listed = s.fixed.listed };
  contents = s.contents;
  counts = record { cards = s.counts.cards ++ 0 ∷ []; drives = s.counts.drives; attaching = s.counts.attaching; output = s.counts.output };
}

-- one drive more, and its attach
abbrev pub with_drive : State → List ℕ → Files → State
with_drive s place files = record {
  told = s.told;
  events = s.events ++ AttachDrive (length s.fixed.drives) place ∷ [];
  fixed = record { cards = s.fixed.cards; drives = s.fixed.drives ++ files ∷ []; places = s.fixed.places; flips = s.fixed.flips; listed = s.fixed.listed };
  contents = s.contents ++ files ∷ [];
  counts = record { cards = s.counts.cards; drives = s.counts.drives ++ 0 ∷ []; attaching = s.counts.attaching; output = s.counts.output };
}

-- files were added for a place
abbrev pub with_place : State → Place → State
with_place s p = record {
  told = s.told;
  events = s.events;
  contents = s.contents;
  counts = s.counts;
  fixed = record { cards = s.fixed.cards; drives = s.fixed.drives; places = s.fixed.places ++ p ∷ []; flips = s.fixed.flips; listed = s.fixed.listed };
}

-- a byte is shown flipped from now on
abbrev pub with_flip : State → Flip → State
with_flip s f = record {
  told = s.told;
  events = s.events;
  contents = s.contents;
  counts = s.counts;
  fixed = record { cards = s.fixed.cards; drives = s.fixed.drives; places = s.fixed.places; flips = s.fixed.flips ++ f ∷ []; listed = s.fixed.listed };
}

-- a file of a card is listed with another size from now on
abbrev pub with_listed : State → ListedAs → State
with_listed s l = record {
  told = s.told;
  events = s.events;
  contents = s.contents;
  counts = s.counts;
  fixed = record { cards = s.fixed.cards; drives = s.fixed.drives; places = s.fixed.places; flips = s.fixed.flips; listed = s.fixed.listed ++ l ∷ [] };
}

-- what the device holds that was attached last from a place, or else what was added for the place
abbrev pub found_at : State → List ℕ → Option Device → Option Files
found_at s place None = placed s.fixed.places place
found_at s place (Some (Source n)) = slice_get s.fixed.cards n
found_at s place (Some (Drive d)) = slice_get s.contents d
found_at s place _ = None

-- a drive that began with these files holds what the calls made of them
pub record Holds (start : Files) (L : List Event) (d : ℕ) (now : Files) : Type 0 where
  pub map : now.map ≡ reads start.map L d
  pub dates : Agrees (dated start.dates L d) now.dates

-- no device, or a card or drive that is attached
abbrev pub IsThere : Fixed → Option Device → Type 0
IsThere f None = Unit {0}
IsThere f (Some (Source s)) = s < length f.cards
IsThere f (Some (Drive d)) = d < length f.drives
IsThere f _ = ⊥

-- What each drive holds is what the calls on it made of its files; a drive that is not attached has no call; and a device that the calls
-- attached is there.
pub record Keeps (s : State) : Type 0 where
  pub cards : length s.counts.cards ≡ length s.fixed.cards
  pub drives : length s.counts.drives ≡ length s.fixed.drives
  pub contents : length s.contents ≡ length s.fixed.drives
  pub holds : (d : ℕ) (m f : Files) → slice_get s.fixed.drives d ≡ Some m → slice_get s.contents d ≡ Some f → Holds m s.events d f
  pub unused : (d : ℕ) → length s.fixed.drives ≤ d → calls_on d s.events ≡ []
  pub there : (place : List ℕ) → IsThere s.fixed (last_from place s.events)

-- a card or drive that is attached, or another device
abbrev pub IsKnown : Fixed → Device → Type 0
IsKnown f (Source s) = s < length f.cards
IsKnown f (Drive d) = d < length f.drives
IsKnown f _ = Unit {0}

-- a call that changes a drive, or attaches a device
abbrev pub is_change : Event → Bool
is_change (AttachSource s place) = true
is_change (AttachDrive d place) = true
is_change (Write d path at bytes true) = true
is_change (Rename d from to true) = true
is_change (Remove d path true) = true
is_change _ = false

-- a device whose failures are counted, and its count is there
abbrev pub HasCount : Counts → Device → Type 0
HasCount c (Source s) = s < length c.cards
HasCount c (Drive d) = d < length c.drives
HasCount c Attaching = Unit {0}
HasCount c Output = Unit {0}
HasCount c _ = ⊥

-- the device has a count, which does not fall where it is raised
pub record Counted (c : Counts) (x : Device) : Type 0 where
  pub has : HasCount c x
  pub later : count c x ≤ count (recounted c x) x

-- a failed call counts, and may be noted
pub record Fails (x : Device) (e : Event) (old new : State) : Type 0 where
  pub noted : (new ≡ raised old x) ⊎ (new ≡ noted (raised old x) e)
  pub counted : Counted old.counts x

-- a change of drive d was made and noted
pub record Rewrites (d : ℕ) (e : Event) (old new : State) : Type 0 where
  pub files : Files
  pub is : new ≡ rewritten old d e files

-- a card was attached, with the files of its place, each with its date
pub record AddsCard (place : List ℕ) (s : ℕ) (old new : State) : Type 0 where
  pub files : Files
  pub number : s ≡ length old.fixed.cards
  pub is : new ≡ with_card old place files
  pub dated : AllDated files.map files.dates
  pub found : found_at old place (last_from place old.events) ≡ Some files
  pub kept : Keeps old

-- a drive was attached, with the files of its place
pub record AddsDrive (place : List ℕ) (d : ℕ) (old new : State) : Type 0 where
  pub files : Files
  pub number : d ≡ length old.fixed.drives
  pub is : new ≡ with_drive old place files
  pub found : found_at old place (last_from place old.events) ≡ Some files
  pub kept : Keeps old
