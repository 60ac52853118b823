-- What a bay over real folders tells: its counts alone.
use Rattle.std.specs.Prelude.{◌≡◌, ℕ, ◌≤◌, Bool, true, false, List, length, None, slice_index}
use Rattle.std.specs.FinMap.{empty}
use Rattle.bay_core.specs.Replay.{Device, Source, Drive, Attaching, Output, Clock, Picker}
use Rattle.bay_core.specs.World.{World, Attached, Rose}

-- how often calls failed: on each card and each drive by its number, at attaching, and on the output
pub record Faults : Type 0 where
  pub sources : List ℕ
  pub drives : List ℕ
  pub attaching : ℕ
  pub output : ℕ

-- the count of a device; the clock and the picker never fail
abbrev pub faults_of : Faults → Device → ℕ
faults_of f (Source s) = slice_index f.sources s
faults_of f (Drive d) = slice_index f.drives d
faults_of f Attaching = f.attaching
faults_of f Output = f.output
faults_of f Clock = 0
faults_of f Picker = 0

-- so many cards and drives, of which nothing is known
abbrev pub untold : ℕ → ℕ → Attached
untold sources drives = record {
  sources = sources;
  card = λ s. None;
  card_dates = λ s. empty;
  steady = λ s. false;
  drives = drives;
  start = λ d. None;
  dates = λ d. empty;
  honest = λ d. false;
  made = None;
}

-- no calls are told
abbrev pub host_world : Faults → World
host_world f = record { events = None; faults = faults_of f; attached = untold (length f.sources) (length f.drives) }

-- a count rose where a call failed, and stands where it did not
pub record Counts (ok : Bool) (old new : ℕ) : Type 0 where
  pub later : old ≤ new
  pub rose : ok ≡ false → Rose old new
  pub stood : ok ≡ true → new ≡ old
