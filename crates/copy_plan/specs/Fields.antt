-- The bytes of a plan, field by field: docs/FORMATS.md, "Plans". Numbers stand most significant byte first.
use Rattle.std.specs.Prelude.{◌≡◌, ◌⊎◌, ℕ, zero, suc, ◌+◌, ◌^◌, ◌<◌, ◌≤◌, Bool, true, false, ◌&&◌, List, [], ◌∷◌, ◌++◌, length, codes, if◌then◌else◌, Option, Some, None, is_none, Result, Ok, Err}
use Rattle.std.specs.Str.{is_utf8}
use Rattle.path_text.specs.Path.{is_path}
use Rattle.copy_plan.specs.declared.fields.FieldError.{FieldError}
use Rattle.copy_plan.specs.declared.fields.FieldError.TheVariants.{Broken, Memory as Wanting}
use Rattle.path_text.specs.declared.path.PathError.{PathError}
use Rattle.path_text.specs.declared.path.PathError.TheVariants.{Memory}
use Rattle.std.specs.List.{AllByRecursion, flat_map}
use Rattle.std.specs.Int.{w16, w32, w64, to_be_bytes}
use Rattle.path_text.specs.Label.{is_label}
use Rattle.path_text.specs.Moment.{last_moment}
use Rattle.path_text.specs.ListName.{list_name_text}
use Rattle.path_text.specs.Kinds.{has_kind}
use Rattle.path_text.specs.declared.kinds.Kinds.{Kinds}
use Rattle.copy_plan.specs.declared.file.PlannedFile.{PlannedFile}
use Rattle.copy_plan.specs.Inventory.{IsPlannable, Precedes, most_files, most_path_bytes, path_bytes}
use Rattle.copy_plan.specs.Plan.{PlanValue, IsSourceList, Clears}

-- the mark that a plan begins with: of one that shows all kinds and has no source list, and of any other
abbrev pub mark_code : Bool → List ℕ
mark_code plain = if plain then codes "MHLPLAN1" else codes "MHLPLAN2"

-- a moment in 8 bytes
unfoldable pub moment_code : ℕ → List ℕ
moment_code t = to_be_bytes w64 t

-- a label behind its length in 1 byte
unfoldable pub label_code : List ℕ → List ℕ
label_code label = length label ∷ label

-- the kinds of digest in 1 byte: 1 for md5, 2 for sha1 and 4 for xxh, added up
unfoldable pub kinds_code : Kinds → List ℕ
kinds_code kinds = ((if kinds.md5 then 1 else 0) + (if kinds.sha1 then 2 else 0) + (if kinds.xxh then 4 else 0)) ∷ []

-- a path behind its length in 2 bytes
unfoldable pub path_code : List ℕ → List ℕ
path_code path = to_be_bytes w16 (length path) ++ path

-- a source list, and for none the length 0
unfoldable pub source_code : Option (List ℕ) → List ℕ
source_code None = to_be_bytes w16 0
source_code (Some path) = path_code path

-- the number of files in 4 bytes
unfoldable pub count_code : ℕ → List ℕ
count_code n = to_be_bytes w32 n

-- a file: its path, its size in 8 bytes, its date in 8 bytes
unfoldable pub file_code : PlannedFile → List ℕ
file_code f = path_code f.path ++ (to_be_bytes w64 f.size ++ moment_code f.modified)

-- all three kinds and no source list
abbrev pub is_plain : Kinds → Option (List ℕ) → Bool
is_plain kinds source = kinds.md5 && kinds.sha1 && kinds.xxh && is_none source

-- the two fields that a plain plan does not have
abbrev pub choice_code : Kinds → Option (List ℕ) → List ℕ
choice_code kinds source = if is_plain kinds source then [] else kinds_code kinds ++ source_code source

-- the code of a plan: its mark, start, labels, choice, and files behind their number
unfoldable pub plan_code : PlanValue → List ℕ
plan_code p =
    mark_code (is_plain p.kinds p.source_list)
    ++ (moment_code p.started
    ++ (label_code p.name
    ++ (label_code p.user
    ++ (label_code p.host
    ++ (choice_code p.kinds p.source_list
    ++ (count_code (length p.files)
    ++ flat_map file_code p.files))))))

-- the most bytes of the code of a plan: 1,242 for the fields before its files, 18 for each file, and the paths
abbrev pub largest_code : ℕ
largest_code = 38_274_266

-- Where the bytes of a field go wrong. Each field has a rule, which may speak of the fields before it.

-- the bytes begin with the code of this value, which keeps the rule, and this is the rest
pub record Begins {A : Type 0} (rule : A → Type 0) (code : A → List ℕ) (bytes : List ℕ) (a : A) (rest : List ℕ) : Type 0 where
  pub kept : rule a
  pub is : bytes ≡ code a ++ rest

-- no value that keeps the rule has a code that the bytes begin with
abbrev pub BeginsNone : {A : Type 0} → (A → Type 0) → (A → List ℕ) → List ℕ → Type 0
BeginsNone {A} rule code bytes = (a : A) (rest : List ℕ) → Begins rule code bytes a rest → ⊥

-- what taking a field gives: its value and the rest, or nothing where none stands
abbrev pub Takes : {A : Type 0} → (A → Type 0) → (A → List ℕ) → List ℕ → Option (A × List ℕ) → Type 0
Takes rule code bytes (Some x) = Begins rule code bytes x.0 x.1
Takes rule code bytes None = BeginsNone rule code bytes

-- why a text that is no path could not be taken as one
abbrev pub unread : PathError → FieldError
unread Memory = Wanting
unread e = Broken

-- no value was taken: none stands, or memory was wanting
abbrev pub Fails : {A : Type 0} → (A → Type 0) → (A → List ℕ) → List ℕ → FieldError → Type 0
Fails rule code bytes Broken = BeginsNone rule code bytes
Fails rule code bytes Wanting = Unit {0}

-- the same as taking where memory may be wanting, of what a view sees in the answer
abbrev pub TakesOr : {A V : Type 0} → (A → Type 0) → (A → List ℕ) → List ℕ → (V → A × List ℕ) → Result V FieldError → Type 0
TakesOr rule code bytes view (Ok x) = Begins rule code bytes (view x).0 (view x).1
TakesOr rule code bytes view (Err e) = Fails rule code bytes e

-- the field goes wrong at its first byte; or it stands there, and what comes next goes wrong
abbrev pub FaultFrom : {A : Type 0} → (A → Type 0) → (A → List ℕ) → (A → List ℕ → ℕ → Type 0) → List ℕ → ℕ → Type 0
FaultFrom {A} rule code next bytes at =
    ((at ≡ 0) × BeginsNone rule code bytes)
    ⊎ ((a : A) × (rest : List ℕ) × (later : ℕ) × Begins rule code bytes a rest × (at ≡ length (code a) + later) × next a rest later)

-- either mark
abbrev pub IsMark : Bool → Type 0
IsMark plain = Unit {0}

-- a number of so many bytes
abbrev pub IsNumber : ℕ → ℕ → Type 0
IsNumber bits n = n < 2 ^ bits

-- a text of so many bytes
pub record IsText (long : ℕ) (text : List ℕ) : Type 0 where
  pub utf8 : is_utf8 text ≡ true
  pub long_is : length text ≡ long

abbrev pub itself : List ℕ → List ℕ
itself text = text

abbrev pub IsPath : List ℕ → Type 0
IsPath text = is_path text ≡ true

abbrev pub IsMoment : ℕ → Type 0
IsMoment t = t ≤ last_moment

abbrev pub IsLabel : List ℕ → Type 0
IsLabel label = is_label label ≡ true

-- some kind
abbrev pub IsChosen : Kinds → Type 0
IsChosen kinds = has_kind kinds ≡ true

-- a source list, or none where not all kinds are chosen: a plan that shows all kinds and has no source list has the other mark
abbrev pub IsChoice : Kinds → Option (List ℕ) → Type 0
IsChoice kinds None = is_plain kinds None ≡ false
IsChoice kinds (Some path) = IsSourceList path

abbrev pub IsCount : ℕ → Type 0
IsCount n = (1 ≤ n) × (n ≤ most_files)

-- a file by itself: a path, a size of 8 bytes and a moment
pub record IsFile (f : PlannedFile) : Type 0 where
  pub path : is_path f.path ≡ true
  pub sized : f.size < 2 ^ 64
  pub dated : f.modified ≤ last_moment

-- a file that may stand behind these in a plan with this list name
pub record MayFollow (list : List ℕ) (before : List PlannedFile) (f : PlannedFile) : Type 0 where
  pub alone : IsPlannable f
  pub short : path_bytes before + length f.path ≤ most_path_bytes
  pub behind : AllByRecursion (λ g. Precedes g f) before
  pub clear : Clears list f

-- the first fault of so many files behind these
unfoldable pub FilesFault : List ℕ → List PlannedFile → ℕ → List ℕ → ℕ → Type 0
FilesFault list before zero bytes at = ⊥
FilesFault list before (suc n) bytes at = FaultFrom (MayFollow list before) file_code (λ f. FilesFault list (before ++ f ∷ []) n) bytes at

-- the first fault from the number of files on
abbrev pub CountFault : List ℕ → List ℕ → ℕ → Type 0
CountFault list = FaultFrom IsCount count_code (λ n. FilesFault list [] n)

-- the first fault behind the labels
unfoldable pub ChoiceFault : Bool → List ℕ → List ℕ → ℕ → Type 0
ChoiceFault true list bytes at = CountFault list bytes at
ChoiceFault false list bytes at = FaultFrom IsChosen kinds_code (λ kinds. FaultFrom (IsChoice kinds) source_code (λ source. CountFault list)) bytes at

-- the first fault from the host on, from the user on, from the name on, and from the start on
abbrev pub HostFault : Bool → ℕ → List ℕ → List ℕ → ℕ → Type 0
HostFault plain started name = FaultFrom IsLabel label_code (λ host. ChoiceFault plain (list_name_text name started))

abbrev pub UserFault : Bool → ℕ → List ℕ → List ℕ → ℕ → Type 0
UserFault plain started name = FaultFrom IsLabel label_code (λ user. HostFault plain started name)

abbrev pub NameFault : Bool → ℕ → List ℕ → ℕ → Type 0
NameFault plain started = FaultFrom IsLabel label_code (UserFault plain started)

abbrev pub StartFault : Bool → List ℕ → ℕ → Type 0
StartFault plain = FaultFrom IsMoment moment_code (NameFault plain)

-- the place of the first field that is not whole, or breaks its rule by itself or together with the fields before it
unfoldable pub PlanFault : List ℕ → ℕ → Type 0
PlanFault = FaultFrom IsMark mark_code StartFault
