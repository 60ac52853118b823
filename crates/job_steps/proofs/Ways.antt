-- A run of a job came to its turns, or its calls are quiet.
use Rattle.std.proofs.Common.{◌≡◌, ◌⊎◌, inl, inr, ℕ, List, ◌++◌}
use Rattle.std.specs.Prelude.{Some, Ok, Err}
use Rattle.bay_core.specs.declared.event.Event.{Event}
use Rattle.bay_core.specs.World.{World}
use Rattle.drive_journal.specs.declared.order.Order.{Order}
use Rattle.command_words.specs.Jobs.{Job}
use Rattle.job_story.specs.Ends.{JobEnd}
use Rattle.job_story.specs.Story.{Story, card_unattached, drive_unattached, unopened, unstocked, turned}
use Rattle.job_steps.proofs.Attached.{attached_all, attached_none, attached_fewer}
use Rattle.job_steps.proofs.Lower.{RunLaws}
use Rattle.job_steps.proofs.Parts.{TurnedRun, quiet_then, attaches_quiet, last_quiet, opening_quiet, turned_run}
use Rattle.job_steps.proofs.Plain.{OtherWord}
use Rattle.job_steps.proofs.Quiet.{IsQuiet}
use Rattle.job_steps.proofs.Told.{Tells}

pub ways : (other : OtherWord) → RunLaws → (job : Job) (end : JobEnd) (result : ℕ) (old new : World) → old.attached.drives ≡ 0 → (past since : List Event) → old.events ≡ Some past → new.events ≡ Some (past ++ since) → Story job end result old new
    → Tells IsQuiet old new ⊎ ((order : Order) × TurnedRun job order old new past since)
ways other laws job end result old new none past since was now (card_unattached error mid is attach last) =
    inl (quiet_then (attaches_quiet (attached_none job.card error old mid none attach).0) (last_quiet other end result mid new last))
ways other laws job end result old new none past since was now (drive_unattached d mid is lacks last) =
    inl (quiet_then (attaches_quiet (attached_fewer job d old mid none lacks).tells) (last_quiet other end result mid new last))
ways other laws job end result old new none past since was now (unopened e mid late is attaches opens last) =
    inl (quiet_then (quiet_then (attaches_quiet (attached_all job old mid none attaches).tells) (opening_quiet other job (Err e) mid late opens)) (last_quiet other end result late new last))
ways other laws job end result old new none past since was now (unstocked order mid late is attaches opens last) =
    inl (quiet_then (quiet_then (attaches_quiet (attached_all job old mid none attaches).tells) (opening_quiet other job (Ok order) mid late opens)) (last_quiet other end result late new last))
ways other laws job end result old new none past since was now (turned order mid late done attaches opens turns last) =
    inr (order, turned_run other laws job order end result old mid late done new none attaches opens turns last past since was now)
