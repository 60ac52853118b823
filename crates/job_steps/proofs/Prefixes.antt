-- Wherever a run of a job stops, each honest drive that was ours is left well.
use Rattle.std.proofs.Common.{◌≡◌, inl, inr, ℕ, List, ◌++◌, subst}
use Rattle.std.specs.Prelude.{Some}
use Rattle.bay_core.specs.declared.event.Event.{Event}
use Rattle.bay_core.specs.World.{World}
use Rattle.offload_law.specs.Stages.{HoldsPlan}
use Rattle.true_start.proofs.Stopping.{left_by}
use Rattle.command_words.specs.Jobs.{Job}
use Rattle.job_story.specs.Ends.{JobEnd}
use Rattle.job_story.specs.Run.{run_with}
use Rattle.job_story.specs.Story.{Story}
use Rattle.job_steps.specs.Prefix.{IsPlanFor, CrashPrefix}
use Rattle.job_steps.proofs.Drives.{left_anywhere}
use Rattle.job_steps.proofs.Lower.{LineLaws, RunLaws}
use Rattle.job_steps.proofs.Quiet.{IsQuiet, quiet_front}
use Rattle.job_steps.proofs.Stopped.{quiet_left}
use Rattle.job_steps.proofs.Told.{Tells, since_then}
use Rattle.job_steps.proofs.Ways.{ways}

module _ (line_laws : LineLaws) (laws : RunLaws) (job : Job) (end : JobEnd) (result : ℕ) (old new : World) (none : old.attached.drives ≡ 0) (past since : List Event) (was : old.events ≡ Some past) (now : new.events ≡ Some (past ++ since)) where
  -- a run that came to no turn
  of_quiet : Tells IsQuiet old new → CrashPrefix (run_with job old new since)
  of_quiet calls card dates steady d start honest ours L (rest, is) I left =
      let quiet : IsQuiet since = since_then calls past since was now in
      left_by (HoldsPlan start) (IsPlanFor (run_with job old new since) start) (λ p holds. inr holds) card dates d start L I (quiet_left line_laws card dates d start ours L (quiet_front L rest (subst IsQuiet is quiet)) I left)

  pub crash_prefix : Story job end result old new → CrashPrefix (run_with job old new since)
  crash_prefix story = elim (ways line_laws.other laws job end result old new none past since was now story) [
    | inl quiet ↦ of_quiet quiet
    | inr (order, r) ↦ λ card dates steady d start honest ours L first. left_anywhere line_laws laws job order old new past since r card dates steady d start honest ours L first.0 first.1
  ]
