-- A run of `verify`: docs/FORMATS.md, "Verification".
use Rattle.std.specs.Prelude.{◌≡◌, ◌⊎◌, ℕ, List, Option, Ok, Err}
use Rattle.std.specs.FinMap.{get}
use Rattle.bay_core.specs.declared.event.Event.{Event}
use Rattle.bay_core.specs.Map.{Map}
use Rattle.bay_core.specs.Replay.{reads}
use Rattle.bay_core.specs.World.{World, Honest}
use Rattle.bay_core.specs.Went.{Went, Then}
use Rattle.bay_core.specs.Looks.{Here, Looks, Stops, Caused}
use Rattle.mhl_writer.specs.declared.values.HashList.{HashList}
use Rattle.verify_run.specs.declared.loading.LoadError.{LoadError}
use Rattle.verify_run.specs.declared.verdict.VerifyError.{VerifyError}
use Rattle.verify_run.specs.declared.verdict.Verdict.{Verdict}
use Rattle.verify_run.specs.Calls.{stopped_at_device}
use Rattle.verify_run.specs.Report.{outcome_of, report_lines, report_first_lines, report_verdict}
use Rattle.verify_run.specs.Seen.{Reports}
use Rattle.verify_run.specs.Loading.{LoadCalls, LoadGives}
use Rattle.last_lines.specs.Ends.{End, with_status, EndCalls, EndStatus}
use Rattle.station_run.specs.Ends.{outcome_status, load_end, broken_end}
use Rattle.station_run.specs.Runs.{IsOfDrive, RunOf, NoneAttached, OneAttached, AfterAttach, LoadCause, SaidSince, BegunSince}

-- how `verify` went on its drive: the list was not loaded; it was, and the verification broke off; or there is a verdict
pub data VerifyStory : Type 0 where
  NoList : LoadError → VerifyStory
  NoVerdict : HashList → VerifyError → VerifyStory
  WithVerdict : HashList → Verdict → VerifyStory

abbrev pub verify_end : VerifyStory → End
verify_end (NoList e) = load_end e
verify_end (NoVerdict hashes e) = broken_end e
verify_end (WithVerdict hashes v) = with_status (outcome_status (outcome_of v))

-- the calls of a verification with a verdict: all were answered, and the report is the one on what they saw
pub record Answered (d : ℕ) (list : List ℕ) (hashes : HashList) (v : Verdict) (L : List Event) : Type 0 where
  pub looks : Looks L
  pub reports : Reports d hashes.entries.items list v L

-- the calls of a story before its end: the loading of the list, and then the verification; a call that failed is the last of them
abbrev pub VerifyCalls : VerifyStory → List ℕ → ℕ → List Event → Type 0
VerifyCalls (NoList e) list d L = LoadCalls d list (Err e) L
VerifyCalls (NoVerdict hashes e) list d L = Then (LoadCalls d list (Ok hashes)) (Stops (stopped_at_device d e)) L
VerifyCalls (WithVerdict hashes v) list d L = Then (LoadCalls d list (Ok hashes)) (Answered d list hashes v) L

-- the count that rose where a call failed
abbrev pub VerifyCause : VerifyStory → ℕ → World → World → Type 0
VerifyCause (NoList e) d old new = LoadCause e d old new
VerifyCause (NoVerdict hashes e) d old new = Caused (stopped_at_device d e) old new
VerifyCause (WithVerdict hashes v) d old new = Unit {0}

-- a verification that broke off on a drive with this map: it had said first lines of the report on the map, and no verdict
pub record BrokenOn (m : Map) (list : List ℕ) (hashes : HashList) (e : VerifyError) (old : Option (List Event)) (all : List Event) : Type 0 where
  pub loaded : LoadGives (get m list) (Ok hashes)
  pub lines : BegunSince (report_first_lines hashes.entries.items m list) (broken_end e) old all

-- a verdict on a drive with this map: the list is the one that the map has, the verdict and the lines are those of the report on the map
pub record VerdictOn (m : Map) (list : List ℕ) (hashes : HashList) (v : Verdict) (old : Option (List Event)) (all : List Event) : Type 0 where
  pub loaded : LoadGives (get m list) (Ok hashes)
  pub numbers : v ≡ report_verdict hashes.entries.items m list
  pub lines : SaidSince (report_lines hashes.entries.items m list) old all

-- a story on a drive with this map
abbrev pub VerifyTrue : VerifyStory → List ℕ → Map → Option (List Event) → List Event → Type 0
VerifyTrue (NoList e) list m old all = LoadGives (get m list) (Err e)
VerifyTrue (NoVerdict hashes e) list m old all = BrokenOn m list hashes e old all
VerifyTrue (WithVerdict hashes v) list m old all = VerdictOn m list hashes v old all

-- `verify` on drive d, which it attached from a place; if the drive is honest, the story is true of its map
pub record VerifiedOn (d : ℕ) (list place : List ℕ) (result : ℕ) (old new : World) : Type 0 where
  pub story : VerifyStory
  pub run : RunOf (IsOfDrive d) (AfterAttach d place (VerifyCalls story list d)) (verify_end story) result old new
  pub cause : VerifyCause story d old new
  pub honest : (m : Map) (all : List Event) → Honest new d m all → VerifyTrue story list (reads m all d) old.events all

-- a run of `verify`: its drive was not attached, or it was, with the next number
pub data VerifyRun (list place : List ℕ) (result : ℕ) (old new : World) : Type 0 where
  unattached : NoneAttached place result old new → VerifyRun list place result old new
  attached : OneAttached place old new → VerifiedOn old.attached.drives list place result old new → VerifyRun list place result old new

-- its part from the attach on
pub record VerifiedThen (d : ℕ) (list : List ℕ) (result : ℕ) (old new : World) : Type 0 where
  pub story : VerifyStory
  pub went : Went (Here d) (Then (VerifyCalls story list d) (EndCalls (verify_end story) result)) old new
  pub cause : VerifyCause story d old new
  pub status : EndStatus (verify_end story) result old new
  pub honest : (m : Map) (all : List Event) → Honest new d m all → VerifyTrue story list (reads m all d) old.events all

-- a status of a verdict
abbrev pub IsOfVerdict : ℕ → Type 0
IsOfVerdict result = (result ≡ 0) ⊎ (result ≡ 1) ⊎ (result ≡ 6)

-- the report on these files by the list that lies among them: its verdict has this status, and its lines were said since
pub record ReportOn (files : Map) (list : List ℕ) (result : ℕ) (old : Option (List Event)) (all : List Event) : Type 0 where
  pub hashes : HashList
  pub loaded : LoadGives (get files list) (Ok hashes)
  pub status : result ≡ outcome_status (outcome_of (report_verdict hashes.entries.items files list))
  pub lines : SaidSince (report_lines hashes.entries.items files list) old all
