-- Files in memory, as contracts see them.
use Rattle.std.specs.Prelude.{◌≡◌, ℕ, List, Some, refl}
use Rattle.std.specs.FinMap.{empty, get, insert, remove, code}
use Rattle.std.specs.Coded.{Coded, code_by, coded×, coded_ℕ, coded_list}
use Rattle.bay_core.specs.declared.event.Event.{Event}
use Rattle.bay_core.specs.Map.{Map, Dates}
use Rattle.bay_core.specs.Replay.{changed, undated}

-- the bytes and the date of each file, by its path
pub record Files : Type 0 where
  pub map : Map
  pub dates : Dates

-- files are stored as the pair of their maps
abbrev pub files_code : Coded Files
files_code =
    code_by (Map × Dates) (coded× (code (coded_list coded_ℕ) (coded_list coded_ℕ)) (code (coded_list coded_ℕ) coded_ℕ)) (λ f. (f.map, f.dates)) (λ p. record { map = p.0; dates = p.1 }) (λ _. refl)

-- no file
abbrev pub no_files : Files
no_files = record { map = empty; dates = empty }

-- a file more, in the place of one with that path
abbrev pub with_file : Files → List ℕ → List ℕ → ℕ → Files
with_file files path bytes modified = record { map = insert files.map path bytes; dates = insert files.dates path modified }

-- the files without the one at this path
abbrev pub without_file : Files → List ℕ → Files
without_file files path = record { map = remove files.map path; dates = remove files.dates path }

-- what is known of some dates is so
abbrev pub Agrees : Dates → Dates → Type 0
Agrees known dates = (q : List ℕ) (t : ℕ) → get known q ≡ Some t → get dates q ≡ Some t

-- what a call on a drive made of its files
pub record Becomes (e : Event) (old new : Files) : Type 0 where
  pub map : new.map ≡ changed old.map e
  pub dates : (known : Dates) → Agrees known old.dates → Agrees (undated known e) new.dates
