-- The inventory of a listing, or why it has none: docs/FORMATS.md, "Inventories".
use Rattle.std.specs.Prelude.{◌≡◌, ℕ, ◌<◌, ◌≤◌, List, [], ◌∷◌, ◌++◌, length, map, Some, None, Result, Ok, Err}
use Rattle.std.specs.List.{All}
use Rattle.bay_core.specs.declared.event.FileInfo.{FileInfo}
use Rattle.path_text.specs.Path.{refusal_of}
use Rattle.path_text.specs.Moment.{last_moment}
use Rattle.copy_plan.specs.declared.file.PlannedFile.{PlannedFile}
use Rattle.copy_plan.specs.declared.inventory.BuildError.{BuildError}
use Rattle.copy_plan.specs.declared.inventory.BuildError.TheVariants.{Empty, TooManyFiles as ManyFiles, TooManyBytes as ManyBytes, Control as OwnPath, TooBig as BigFile, Clash as TwoPaths}
use Rattle.copy_plan.specs.Inventory.{most_files, IsInventory}
use Rattle.copy_plan.specs.Build.{IsArranged, BuildGives}
use Rattle.card_inventory.specs.declared.error.InventoryError.{InventoryError}
use Rattle.card_inventory.specs.declared.error.InventoryError.TheVariants.{SourceFailed, EmptyCard, TooManyFiles, BadPath, BadDate, TooManyBytes, Control, TooBig, Clash, Memory}

-- a listed file as a plan names it
abbrev pub planned : FileInfo → PlannedFile
planned f = record { path = f.path; size = f.size; modified = f.modified }

-- the inventory of a listing: its files in byte order, where the rules of an inventory hold
pub record IsInventoryOf (listed : List FileInfo) (files : List PlannedFile) : Type 0 where
  pub arranged : IsArranged (map planned listed) files
  pub whole : IsInventory files

-- a file with a valid path and a date up to the year 9999
pub record IsGood (f : FileInfo) : Type 0 where
  pub path : refusal_of f.path ≡ None
  pub dated : f.modified ≤ last_moment

-- what is wrong with a file at this place of a listing: its path, for a cause, or its date
abbrev pub IsFault : ℕ → FileInfo → InventoryError → Type 0
IsFault at f (BadPath index cause) = (index ≡ at) × (refusal_of f.path ≡ Some cause)
IsFault at f (BadDate path) = (path ≡ f.path) × (refusal_of f.path ≡ None) × (last_moment < f.modified)
IsFault at f _ = ⊥

-- the first file that is not good, with what is wrong with it
pub record IsFirstFault (listed : List FileInfo) (e : InventoryError) : Type 0 where
  pub before : List FileInfo
  pub file : FileInfo
  pub after : List FileInfo
  pub is : listed ≡ before ++ file ∷ after
  pub good : All IsGood before
  pub fault : IsFault (length before) file e

-- such a refusal, or want of memory
abbrev pub FileFails : ℕ → FileInfo → InventoryError → Type 0
FileFails at f Memory = Unit {0}
FileFails at f e = IsFault at f e

abbrev pub FilesFail : List FileInfo → InventoryError → Type 0
FilesFail listed Memory = Unit {0}
FilesFail listed e = IsFirstFault listed e

-- each file is good, and building an inventory of them is refused so
pub record BuildRefuses (listed : List FileInfo) (e : BuildError) : Type 0 where
  pub good : All IsGood listed
  pub arranged : List PlannedFile
  pub order : IsArranged (map planned listed) arranged
  pub refused : BuildGives arranged (Err e)

-- a refusal to build as one of a card
abbrev pub refusal_by : BuildError → InventoryError
refusal_by Empty = EmptyCard
refusal_by (ManyFiles count) = TooManyFiles count
refusal_by (ManyBytes sum) = TooManyBytes sum
refusal_by (OwnPath path) = Control path
refusal_by (BigFile path) = TooBig path
refusal_by (TwoPaths first second) = Clash first second

-- not too many files
abbrev pub IsFew : List FileInfo → Type 0
IsFew listed = length listed ≤ most_files

-- the answer for a listing: its inventory, or the first refusal that applies
abbrev pub ListingGives : List FileInfo → Result (List PlannedFile) InventoryError → Type 0
ListingGives listed (Ok files) = IsInventoryOf listed files
ListingGives listed (Err SourceFailed) = ⊥
ListingGives listed (Err EmptyCard) = listed ≡ []
ListingGives listed (Err (TooManyFiles count)) = (count ≡ length listed) × (most_files < count)
ListingGives listed (Err (BadPath index cause)) = IsFew listed × IsFirstFault listed (BadPath index cause)
ListingGives listed (Err (BadDate path)) = IsFew listed × IsFirstFault listed (BadDate path)
ListingGives listed (Err (TooManyBytes sum)) = BuildRefuses listed (ManyBytes sum)
ListingGives listed (Err (Control path)) = BuildRefuses listed (OwnPath path)
ListingGives listed (Err (TooBig path)) = BuildRefuses listed (BigFile path)
ListingGives listed (Err (Clash first second)) = BuildRefuses listed (TwoPaths first second)
ListingGives listed (Err Memory) = Unit {0}
