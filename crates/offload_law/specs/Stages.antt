-- How far an offload of a card has come on a drive.
use Rattle.std.specs.Prelude.{◌≡◌, ◌⊎◌, ℕ, zero, suc, ◌<◌, ◌≤◌, List, [], ◌∷◌, ◌++◌, length, Some, None}
use Rattle.std.specs.FinMap.{get, keys}
use Rattle.bay_core.specs.Map.{Map, Dates, content}
use Rattle.bay_core.specs.Paths.{journal_path, IsScratch}
use Rattle.path_text.specs.Moment.{last_moment}
use Rattle.digest_set.specs.Triple.{triple}
use Rattle.copy_plan.specs.declared.file.PlannedFile.{PlannedFile}
use Rattle.copy_plan.specs.Plan.{PlanValue, IsPlan, list_of}
use Rattle.drive_journal.specs.declared.record.Rec.{Rec}
use Rattle.drive_journal.specs.Journal.{HoldsJournal}
use Rattle.offload_law.specs.Sealing.{plan_list_text}

-- a plan, and what the card holds
pub record Offload : Type 0 where
  pub plan : PlanValue
  pub card : Map

-- the card's bytes of a planned file
abbrev pub card_bytes : Map → PlannedFile → List ℕ
card_bytes card f = content card f.path

-- a record that is true of a file with this number and these bytes: its number, their length, their digests, and a moment
pub record IsTrueRecord (j : ℕ) (bytes : List ℕ) (r : Rec) : Type 0 where
  pub index : r.index ≡ j
  pub size : r.size ≡ length bytes
  pub digests : r.triple ≡ triple bytes
  pub hashed : r.hashed ≤ last_moment

-- the first of these files, numbered from j on, are recorded and whole: each record is true of the card's bytes, and the map has them at the file's path
unfoldable pub AreRecorded : Map → Map → ℕ → List PlannedFile → List Rec → Type 0
AreRecorded card m j files [] = Unit {0}
AreRecorded card m j [] (r ∷ recs) = ⊥
AreRecorded card m j (f ∷ files) (r ∷ recs) = (IsTrueRecord j (card_bytes card f) r × (get m f.path ≡ Some (card_bytes card f))) × AreRecorded card m (suc j) files recs

-- how far: no journal; a journal with these records; or with all of them, and the list, with this finish, a moment
pub data Stage : Type 0 where
  Fresh : Stage
  Begun : List Rec → Stage
  Sealed : List Rec → ℕ → Stage

-- the number of steps done: the journal is published, each file is recorded, the list is sealed
abbrev pub progress : PlanValue → Stage → ℕ
progress p Fresh = 0
progress p (Begun recs) = suc (length recs)
progress p (Sealed recs finish) = suc (suc (length p.files))

-- the journal holds the plan with these records, and the files that they name are recorded and whole
pub record HasRecords (o : Offload) (m : Map) (recs : List Rec) : Type 0 where
  pub bytes : List ℕ
  pub stands : get m journal_path ≡ Some bytes
  pub holds : HoldsJournal bytes o.plan recs
  pub recorded : AreRecorded o.card m 0 o.plan.files recs

-- a map at a stage
abbrev pub IsAt : Offload → Map → Stage → Type 0
IsAt o m Fresh = get m journal_path ≡ None
IsAt o m (Begun recs) = HasRecords o m recs × (get m (list_of o.plan) ≡ None)
IsAt o m (Sealed recs finish) = HasRecords o m recs × (length recs ≡ length o.plan.files) × (get m (list_of o.plan) ≡ Some (plan_list_text o.plan recs finish)) × (finish ≤ last_moment)

-- a map after so many steps
pub record IsAfter (o : Offload) (m : Map) (steps : ℕ) : Type 0 where
  pub stage : Stage
  pub at : IsAt o m stage
  pub done : progress o.plan stage ≡ steps

-- a planned file that is recorded after so many steps, or under way
pub record IsBegun (p : PlanValue) (steps : ℕ) (q : List ℕ) : Type 0 where
  pub before : List PlannedFile
  pub file : PlannedFile
  pub after : List PlannedFile
  pub is : p.files ≡ before ++ file ∷ after
  pub early : length before < steps
  pub path : q ≡ file.path

-- the paths that the steps so far and the file under way may have changed
abbrev pub IsTouched : PlanValue → ℕ → List ℕ → Type 0
IsTouched p steps q = IsScratch q ⊎ ((0 < steps) × (q ≡ journal_path)) ⊎ IsBegun p steps q ⊎ ((length p.files < steps) × (q ≡ list_of p))

-- at every other path the map has what the base has
pub record KeepsRest (p : PlanValue) (m base : Map) (steps : ℕ) : Type 0 where
  pub same : (q : List ℕ) → (IsTouched p steps q → ⊥) → get m q ≡ get base q

-- a file of the plan is on the card, with this size and date
pub record IsOnCard (card : Map) (dates : Dates) (f : PlannedFile) : Type 0 where
  pub there : get card f.path ≡ Some (card_bytes card f)
  pub size : f.size ≡ length (card_bytes card f)
  pub date : get dates f.path ≡ Some f.modified

-- a plan of the card: its files are just those of the card
pub record IsOfCard (card : Map) (dates : Dates) (p : PlanValue) : Type 0 where
  pub on_card : (before after : List PlannedFile) (f : PlannedFile) → p.files ≡ before ++ f ∷ after → IsOnCard card dates f
  pub all : (q bytes : List ℕ) → get card q ≡ Some bytes → (before after : List PlannedFile) × (f : PlannedFile) × (p.files ≡ before ++ f ∷ after) × (q ≡ f.path)

-- A map after so many steps of an offload of the card: no journal; or, from the first step on, by a plan of the card.
abbrev pub IsAfterOn : Map → Dates → Map → ℕ → Type 0
IsAfterOn card dates m zero = get m journal_path ≡ None
IsAfterOn card dates m (suc k) = (p : PlanValue) × IsPlan p × IsOfCard card dates p × IsAfter (record { plan = p; card = card }) m (suc k)

-- all steps of an offload of the card
abbrev pub all_steps : Map → ℕ
all_steps card = suc (suc (length (keys card)))

-- The same, where the plan is such a one, and every path that these steps do not speak of has what the base has there: for no step, all but
-- the scratch paths.
abbrev pub StandsAfter : (PlanValue → Type 0) → Map → Dates → Map → Map → ℕ → Type 0
StandsAfter Such card dates base m zero = (get m journal_path ≡ None) × ((q : List ℕ) → (IsScratch q → ⊥) → get m q ≡ get base q)
StandsAfter Such card dates base m (suc k) = (p : PlanValue) × Such p × IsPlan p × IsOfCard card dates p × IsAfter (record { plan = p; card = card }) m (suc k) × KeepsRest p m base (suc k)

-- the journal of a map holds this plan
abbrev pub HoldsPlan : Map → PlanValue → Type 0
HoldsPlan m p = (bytes : List ℕ) × (recs : List Rec) × (get m journal_path ≡ Some bytes) × HoldsJournal bytes p recs

-- a drive that a run on this card left: it stands after some steps of an offload of the card
abbrev pub IsOurs : Map → Dates → Map → Type 0
IsOurs card dates m = (steps : ℕ) × IsAfterOn card dates m steps
