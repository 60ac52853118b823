-- A stop leaves a drive ours, and so do any number of stops.
use Rattle.std.proofs.Common.{inl, ℕ, zero, suc, ◌≤◌, arith}
use Rattle.bay_core.specs.Map.{Map, Dates}
use Rattle.copy_plan.specs.Plan.{PlanValue}
use Rattle.offload_law.specs.Stages.{IsAfterOn, StandsAfter, IsOurs}
use Rattle.true_start.proofs.Stopping.{OneProgress}
use Rattle.job_story.specs.Run.{Run}
use Rattle.job_steps.specs.Prefix.{CrashPrefix}
use Rattle.job_stays.specs.Stays.{StaysOurs, LeftByRuns, untouched, stopped}

-- what stands after some steps is after these steps
stands_after : (Such : PlanValue → Type 0) (card : Map) (dates : Dates) (base m : Map) (steps : ℕ) → StandsAfter Such card dates base m steps → IsAfterOn card dates m steps
stands_after Such card dates base m zero stands = stands.0
stands_after Such card dates base m (suc k) stands = (stands.0, stands.2, stands.3, stands.4)

module _ (same : OneProgress) where
  pub stays_ours : (run : Run) → CrashPrefix run → StaysOurs run
  stays_ours run prefix card dates steady d start honest ours L first I left =
      let well = prefix card dates steady d start honest ours L first I left in
      let after : IsAfterOn card dates I well.steps = stands_after _ card dates start I well.steps well.stands in
      ((well.steps, after), λ told steps announced is. let one = same card card dates dates I well.steps steps after is in omega (arith, well.announced told announced, one))

  pub ours_after_stops : ((run : Run) → CrashPrefix run → StaysOurs run) → (card : Map) (dates : Dates) (base I : Map) → IsOurs card dates base → LeftByRuns card dates base I
      → IsOurs card dates I × ((had steps : ℕ) → IsAfterOn card dates base had → IsAfterOn card dates I steps → had ≤ steps)
  ours_after_stops stays card dates base I ours untouched = (ours, λ had steps before after. let one = same card card dates dates base had steps before after in omega (arith, one))
  ours_after_stops stays card dates base end ours (stopped start I runs run prefix steady d honest L first left) =
      let so_far = ours_after_stops stays card dates base start ours runs in
      let found = stays run prefix card dates steady d start honest so_far.0 L first I left in
      (found.0, λ had steps before after. omega (arith, so_far.1 had so_far.0.0 before so_far.0.1, found.1 so_far.0.0 steps (inl so_far.0.1) after))
