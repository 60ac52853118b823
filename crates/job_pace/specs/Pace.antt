-- All copies of a run of a job go at the pace of the window: docs/MODEL.md, "Laws of a run of a job".
use Rattle.std.specs.Prelude.{◌≡◌, ◌⊎◌, ℕ, Bool, false, List, [], ◌∷◌, ◌++◌, length, Some}
use Rattle.std.specs.List.{slice_get, AllByRecursion}
use Rattle.bay_core.specs.declared.event.Event.{Event}
use Rattle.copy_plan.specs.declared.file.PlannedFile.{PlannedFile}
use Rattle.copy_plan.specs.Plan.{PlanValue}
use Rattle.fan_core.specs.Flags.{has, HasSome}
use Rattle.fan_core.specs.Next.{at_start}
use Rattle.fan_copier.specs.Follows.{OneTurn, FollowsWindow}
use Rattle.fan_copier.specs.Standing.{Standing, blocks_of}
use Rattle.run_pace.specs.Pace.{IsNoAct, without_lines}
use Rattle.job_story.specs.Plans.{IsRunPlan}
use Rattle.job_story.specs.Run.{Run}

-- where the copy of a file begins: nothing is read or written, there are 16 slots, no drive keeps a part, and each gets an empty piece
pub record IsCopyBegin (f : PlannedFile) (at : Standing) : Type 0 where
  pub live : List Bool
  pub some : HasSome live
  pub counts : at.counts ≡ at_start live (blocks_of f.size) 16
  pub lengths : (length at.pieces ≡ 8) × (length at.kept ≡ 8)
  pub pieces : (d : ℕ) → has at.pieces d ≡ has live d
  pub kept : (d : ℕ) → has at.kept d ≡ false

-- calls that are copies of files of the plan from card 0, each by turns that follow the window, and between them calls that are no acts
pub data IsPaced (p : PlanValue) : List Event → Type 0 where
  ends : IsPaced p []
  between : (e : Event) (L : List Event) → IsNoAct e → IsPaced p L → IsPaced p (e ∷ L)
  copies : (i : ℕ) (f : PlannedFile) (at : Standing) (turns : List OneTurn) (A L : List Event) → slice_get p.files i ≡ Some f → IsCopyBegin f at → FollowsWindow 0 f.path f.size at [] turns A
      → IsPaced p L → IsPaced p (A ++ L)

-- Each copy of the run follows the window: by its plan; or the run makes no act, and then it may have no plan.
abbrev pub FollowsWindows : Run → Type 0
FollowsWindows run = AllByRecursion IsNoAct run.events ⊎ ((p : PlanValue) × IsRunPlan run p × IsPaced p (without_lines run.events))
