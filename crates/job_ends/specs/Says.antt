-- The lines of a run of a job, in their order: docs/FORMATS.md, "Lines".
use Rattle.std.specs.Prelude.{◌≡◌, ℕ, ◌<◌, true, List, ◌++◌, length, map, Contains}
use Rattle.std.specs.List.{AllByRecursion}
use Rattle.bay_core.specs.declared.event.Event.{Event}
use Rattle.bay_core.specs.declared.event.FileInfo.{FileInfo}
use Rattle.copy_plan.specs.Inventory.{EachPair}
use Rattle.copy_plan.specs.Plan.{PlanValue}
use Rattle.drive_journal.specs.declared.record.Rec.{Rec}
use Rattle.drive_journal.specs.Found.{JournalFound, Journal, IsLookedAt}
use Rattle.drive_journal.specs.Journal.{HoldsJournal}
use Rattle.drive_journal.specs.Look.{FoundFault}
use Rattle.run_state.specs.State.{files_of}
use Rattle.run_lines.specs.Lines.{lines_in, clear_lines}
use Rattle.run_lines.specs.Words.{Mark, Word, begun_marks, is_step, marks_of, steps_in, sealed_in, word_text, Before, IsSoFar, IsWhole}
use Rattle.job_story.specs.Plans.{IsRunPlan}
use Rattle.job_story.specs.Run.{Run}

-- drive d was looked at, and what was found there holds no journal, and is not what should hold one
pub record IsFoundBare (d : ℕ) (L : List Event) : Type 0 where
  pub files : List FileInfo
  pub found : JournalFound
  pub looked : IsLookedAt d L files found
  pub sound : (at : ℕ) → FoundFault found at → ⊥
  pub bare : (bytes : List ℕ) (p : PlanValue) (recs : List Rec) → found ≡ Journal bytes → HoldsJournal bytes p recs → ⊥

-- The words of an offload. Each is of a drive of the job. Where one says more than a loss, the plan is the run's, and the drive was found without a journal; so of each
-- drive all that is to be said is that it is begun with no record, that each file is recorded, and that it is sealed; and of each the words are such. But for losses,
-- which may stand anywhere, they go round by round, and in a round drive by drive.
pub record AreJobWords (run : Run) (Such : List Mark → List Mark → Type 0) (p : PlanValue) (words : List Word) : Type 0 where
  pub plan : (w : Word) → Contains words w → is_step w.mark ≡ true → IsRunPlan run p
  pub bare : (w : Word) → Contains words w → is_step w.mark ≡ true → IsFoundBare w.drive run.events
  pub ours : AllByRecursion (λ (w : Word). w.drive < length run.job.drives) words
  pub each : (d : ℕ) → d < length run.job.drives → Such (begun_marks (files_of p) 0) (marks_of d words)
  pub ordered : EachPair (Before (files_of p)) (steps_in words)

-- The lines of a run that came to its end: of each drive all its words; or a first part of them, and then a loss; then `clear` just where it is due; and no other line.
pub record SaysAll (run : Run) : Type 0 where
  pub p : PlanValue
  pub words : List Word
  pub are : AreJobWords run IsWhole p words
  pub lines : lines_in run.events ≡ map (word_text p) words ++ clear_lines run.job.copies (length (sealed_in words))

-- The lines of a run that ended otherwise: of each drive a first part of its words, and then a loss or not; then these lines; and no other.
pub record SaysSome (run : Run) (last : List (List ℕ)) : Type 0 where
  pub p : PlanValue
  pub words : List Word
  pub are : AreJobWords run IsSoFar p words
  pub lines : lines_in run.events ≡ map (word_text p) words ++ last
