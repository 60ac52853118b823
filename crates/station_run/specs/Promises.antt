-- What a run of a job promises, where its calls are told: docs/MODEL.md, "A run of a job".
use Rattle.std.specs.Prelude.{◌≡◌, ◌⊎◌, ℕ, List, [], ◌++◌, Some}
use Rattle.bay_core.specs.declared.event.Event.{Event}
use Rattle.bay_core.specs.Went.{AllOn}
use Rattle.bay_core.specs.World.{World}
use Rattle.command_words.specs.Jobs.{Job, IsJob}
use Rattle.last_lines.specs.Ends.{memory_end, Ended}
use Rattle.job_story.specs.Ends.{JobEnd}
use Rattle.job_story.specs.Run.{Run, run_with}
use Rattle.job_calls.specs.Calls.{IsOfJob, AttachesInOrder, NoneAfterFailure}
use Rattle.job_calls.specs.Places.{Numbers, HoldsItsPlaces}
use Rattle.job_calls.specs.Fails.{FailsNone}
use Rattle.job_losses.specs.Drops.{DropsRightly}
use Rattle.job_ends.specs.Counts.{EndCounts}
use Rattle.job_ends.specs.Ends.{EndGives, ZeroWhere, FiveWhere}
use Rattle.job_reads.specs.Backs.{ReadsBack}
use Rattle.job_reads.specs.Reads.{ReadsOnce}
use Rattle.job_pace.specs.Pace.{FollowsWindows}
use Rattle.job_changes.specs.Changes.{ChangesItsOwn}
use Rattle.job_final.specs.Final.{IsFinal}
use Rattle.job_refusals.specs.Mapped.{RefusesByMaps}
use Rattle.job_refusals.specs.Sighted.{RefusesFirst, CallsCardFirst, PassesUnrefused, ListsItsFiles}
use Rattle.job_losses.specs.Complete.{Completes}

-- Where the words are a job's and the calls are told, this holds of the run of that job with all calls since.
abbrev pub OfJob : (Run → Type 0) → List (List ℕ) → World → World → Type 0
OfJob Promise words old new = (job : Job) → IsJob words job → (past since : List Event) → old.events ≡ Some past → new.events ≡ Some (past ++ since) → Promise (run_with job old new since)

-- What the calls of a run of a job promise that ended so, behind those of the past.
pub record Promises (job : Job) (end : JobEnd) (result : ℕ) (old new : World) (past since : List Event) : Type 0 where
  -- of the calls
  pub devices : AllOn (IsOfJob job) since
  pub attaches : AttachesInOrder job end result since
  pub numbers : Numbers (run_with job old new since)
  pub places : HoldsItsPlaces (run_with job old new since) past
  pub stops : NoneAfterFailure end result since
  pub fails_none : FailsNone (run_with job old new since)
  pub read_once : ReadsOnce (run_with job old new since)
  pub read_back : ReadsBack (run_with job old new since)
  pub pace : FollowsWindows (run_with job old new since)
  pub own : ChangesItsOwn (run_with job old new since)
  -- of the end
  pub gives : EndGives (run_with job old new since) end result
  pub zero : ZeroWhere (run_with job old new since) result
  pub five : FiveWhere (run_with job old new since) result
  pub refused : RefusesFirst (run_with job old new since) end result
  pub card_first : CallsCardFirst (run_with job old new since)
  pub passed : PassesUnrefused (run_with job old new since)
  pub listing : ListsItsFiles (run_with job old new since) end
  pub by_maps : RefusesByMaps (run_with job old new since) end
  pub dropped : DropsRightly (run_with job old new since)
  pub final : IsFinal (run_with job old new since) result
  pub completes : Completes (run_with job old new since) end result

-- A run of a job ended so: the counts show it, over every bay; and where its calls are told they keep its promises.
pub record EndsSo (job : Job) (end : JobEnd) (result : ℕ) (old new : World) : Type 0 where
  pub counts : EndCounts (run_with job old new []) end result
  pub told : (past since : List Event) → old.events ≡ Some past → new.events ≡ Some (past ++ since) → Promises job end result old new past since

-- Memory was wanting before the words were read; or the run ended in one of these ways.
abbrev pub KeepsPromises : Job → ℕ → World → World → Type 0
KeepsPromises job result old new = Ended memory_end result old new ⊎ ((end : JobEnd) × EndsSo job end result old new)
