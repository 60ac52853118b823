-- What a run of a job reads of its card: docs/MODEL.md, "Laws of a run of a job".
use Rattle.std.specs.Prelude.{◌≡◌, ℕ, Bool, List, [], ◌∷◌, ◌++◌, Option, Some}
use Rattle.std.specs.List.{slice_get}
use Rattle.bay_core.specs.declared.event.Event.{Event}
use Rattle.bay_core.specs.declared.event.Event.TheVariants.{SourceRead, Rename}
use Rattle.bay_core.specs.Paths.{part_path}
use Rattle.copy_plan.specs.declared.file.PlannedFile.{PlannedFile}
use Rattle.copy_plan.specs.Plan.{PlanValue}
use Rattle.fan_copier.specs.Follows.{InOrder, EndsAtSize}
use Rattle.run_reads.specs.Reads.{reads_of}
use Rattle.job_story.specs.Plans.{IsRunPlan}
use Rattle.job_story.specs.Run.{Run}

-- the path is that of a file of the run's plan
pub record IsOfPlan (run : Run) (path : List ℕ) : Type 0 where
  pub p : PlanValue
  pub plan : IsRunPlan run p
  pub index : ℕ
  pub file : PlannedFile
  pub is_file : slice_get p.files index ≡ Some file
  pub is_path : path ≡ file.path

-- The path is that of a file of the run's plan, and between these calls the file is wholly read: before, the last read of it asked for one byte at its size, and none came; after, it is not read.
pub record IsWhollyRead (run : Run) (path : List ℕ) (before after : List Event) : Type 0 where
  pub of : IsOfPlan run path
  pub ends : EndsAtSize 0 path of.file.size (reads_of 0 path before)
  pub unread : reads_of 0 path after ≡ []

-- The card is read once: of each path from its start on, each read where the one before ended. A file is wholly read before a drive gives its part the path of it, or tries to, and no part gets another path. No other card is read, and no
-- other file.
pub record ReadsOnce (run : Run) : Type 0 where
  pub in_order : (path : List ℕ) → InOrder 0 path 0 (reads_of 0 path run.events)
  pub to_the_end : (before after : List Event) (d : ℕ) (path : List ℕ) (ok : Bool) → run.events ≡ before ++ Rename d part_path path ok ∷ after → IsWhollyRead run path before after
  pub its_files : (before after : List Event) (s : ℕ) (path : List ℕ) (at want : ℕ) (got : Option (List ℕ)) → run.events ≡ before ++ SourceRead s path at want got ∷ after → (s ≡ 0) × IsOfPlan run path
