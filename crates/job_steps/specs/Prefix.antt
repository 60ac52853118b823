-- Wherever a run stops, each honest drive is left with a prefix of the steps; and what the line `clear` says: docs/MODEL.md, "A run of a job".
use Rattle.std.specs.Prelude.{◌≡◌, ◌⊎◌, ℕ, ◌<◌, ◌≤◌, Bool, List, ◌∷◌, ◌++◌, length, Contains}
use Rattle.bay_core.specs.declared.event.Event.{Event}
use Rattle.bay_core.specs.declared.event.Event.TheVariants.{Say}
use Rattle.bay_core.specs.Left.{Left, IsPrefix}
use Rattle.bay_core.specs.Map.{Map, Dates}
use Rattle.copy_plan.specs.Plan.{PlanValue}
use Rattle.offload_law.specs.Clear.{AreCalledSealed}
use Rattle.offload_law.specs.Stages.{IsAfterOn, IsOurs, HoldsPlan, all_steps}
use Rattle.report_text.specs.Run.{clear_text}
use Rattle.true_start.specs.Stops.{IsLeftWell}
use Rattle.job_story.specs.Plans.{IsRunPlan}
use Rattle.job_story.specs.Run.{Run, IsHonest, IsSteady}

-- the run's plan, or that of the journal which the drive had
abbrev pub IsPlanFor : Run → Map → PlanValue → Type 0
IsPlanFor run start p = IsRunPlan run p ⊎ HoldsPlan start p

-- Whatever a stop after these calls may leave of drive d, which had a map as it was attached: it is after a prefix of the steps by such a plan, which has every announced
-- one and at most one more, and the rest is as it was.
abbrev pub LeavesWell : Run → Map → Dates → ℕ → Map → List Event → Type 0
LeavesWell run card dates d start L = (I : Map) → Left start L d I → IsLeftWell (IsPlanFor run start) card dates d start L I

-- Whatever the words, the card and the calls that fail, wherever the run stops, within a write too: each honest drive that was ours is left well.
abbrev pub CrashPrefix : Run → Type 0
CrashPrefix run = (card : Map) (dates : Dates) → IsSteady run card dates → (d : ℕ) (start : Map) → IsHonest run d start → IsOurs card dates start
    → (L : List Event) → IsPrefix L run.events → LeavesWell run card dates d start L

-- Where the card is called clear, with these two numbers, behind these calls: just so many drives as the first says were called sealed before, whatever else stands in
-- their lines, and each was attached; the second is the number that the words require, and there are no fewer. Each of these drives that is honest and was ours is after
-- all steps in each map that a stop from then on may leave of it, whichever are left of the others.
pub record IsClear (run : Run) (before : List Event) (count required : ℕ) : Type 0 where
  pub drives : List ℕ
  pub sealed : AreCalledSealed drives before
  pub there : (d : ℕ) → Contains drives d → d < run.after.attached.drives
  pub counted : length drives ≡ count
  pub words : required ≡ run.job.copies
  pub enough : required ≤ count
  pub whole : (card : Map) (dates : Dates) → IsSteady run card dates → (d : ℕ) → Contains drives d → (start : Map) → IsHonest run d start → IsOurs card dates start
      → (L : List Event) → IsPrefix L run.events → length before < length L → (I : Map) → Left start L d I → IsAfterOn card dates I (all_steps card)

-- so it is wherever the run says that the card is clear, whether the line was heard or not
abbrev pub CallsClear : Run → Type 0
CallsClear run = (before after : List Event) (count required : ℕ) (ok : Bool) → run.events ≡ before ++ Say (clear_text count required) ok ∷ after → IsClear run before count required
