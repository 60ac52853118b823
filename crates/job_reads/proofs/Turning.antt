-- A run of a job by its parts: it made no turn; or its turns, and the calls before and behind them.
use Rattle.std.proofs.Common.{◌≡◌, ◌⊎◌, inl, inr, ℕ, zero, suc, true, List, [], ◌∷◌, ◌++◌, length, map, refl, sym, ap, ◌∙◌, subst, append_assoc}
use Rattle.std.specs.Prelude.{Some, Result, Ok}
use Rattle.bay_core.specs.declared.event.Event.{Event}
use Rattle.bay_core.specs.declared.event.Event.TheVariants.{AttachSource, AttachDrive, AttachFailed}
use Rattle.bay_core.specs.Replay.{Attaching, device_of}
use Rattle.bay_core.specs.Went.{AllOn}
use Rattle.bay_core.specs.World.{World}
use Rattle.copy_plan.specs.Plan.{PlanValue, IsPlan}
use Rattle.drive_journal.specs.declared.order.DriveStart.{DriveStart}
use Rattle.drive_journal.specs.declared.order.Order.{Order}
use Rattle.fresh_opening.specs.declared.error.FreshError.{FreshError}
use Rattle.fresh_opening.specs.Openings.{start_of}
use Rattle.fresh_opening.specs.Orders.{start_at}
use Rattle.fresh_opening.specs.Sights.{Sight, Dropped, Found as FoundSight}
use Rattle.offload_run.specs.Offload.{ordered_of, stands_at, begins_at}
use Rattle.run_state.specs.Calls.{IsOfRun}
use Rattle.run_state.specs.Runs.{Point, Alone}
use Rattle.run_state.specs.State.{Ordered, DriveAt, Gone, Fresh, Begun, Found, Sealed, drive_at}
use Rattle.run_reads.specs.Parts.{KeepsFit, Starts}
use Rattle.run_reads.proofs.Since.{since_at}
use Rattle.command_words.specs.Jobs.{Job}
use Rattle.job_story.specs.Ends.{JobEnd}
use Rattle.job_story.specs.Plans.{IsRunPlan}
use Rattle.job_story.specs.Run.{run_with}
use Rattle.job_story.specs.Story.{asked_by}
use Rattle.job_calls.specs.Calls.{is_attach, job_attaches}
use Rattle.job_calls.specs.Told.{RanTold}
use Rattle.job_calls.proofs.Ending.{Lasts}
use Rattle.job_calls.proofs.Failing.{opening_unread}
use Rattle.job_calls.proofs.Owning.{sights_of}
use Rattle.job_calls.proofs.Parts.{Parts, halted, opened, ran, Opened, Turned, CallsOwn, parts_of}
use Rattle.job_calls.proofs.Turning.{IsOfSights}
use Rattle.job_losses.proofs.Attached.{AreAttaches as OnAttaching}
use Rattle.job_losses.proofs.Opened.{opening_calls}
use Rattle.job_losses.proofs.Planned.{ordered, run_plan}
use Rattle.job_reads.proofs.Outside.{Outside, outside_then, AreAttaches, all_attach, outside_attaches, opening_lines, outside_lasts, outside_stopped}

-- a drive that is gone, or was not begun before
abbrev pub IsNew : DriveAt → Type 0
IsNew Gone = Unit {0}
IsNew Fresh = Unit {0}
IsNew _ = ⊥

-- the turns of a run, and the calls before and behind them
pub record Turning (job : Job) (old new : World) (since : List Event) : Type 0 where
  pub o : Ordered
  pub a : Point
  pub b : Point
  pub still : Alone o a b
  pub starts : Starts o a
  pub fresh : (d : ℕ) → IsNew (drive_at a.at.drives.each d)
  pub source : o.source ≡ 0
  pub plan : IsRunPlan (run_with job old new since) o.plan
  pub before : List Event
  pub first : List Event
  pub turning : List Event
  pub last : List Event
  pub was : a.world.events ≡ Some before
  pub now : b.world.events ≡ Some (before ++ turning)
  pub is : since ≡ first ++ (turning ++ last)
  pub on : AllOn (IsOfRun o a.at.drives) turning
  pub early : Outside first
  pub late : Outside last

-- ---- drives

new_starts : (xs : List Sight) (d : ℕ) → IsNew (begins_at (start_at (map start_of xs) d))
new_starts [] d = tt
new_starts (Dropped ∷ xs) zero = tt
new_starts (FoundSight size found ∷ xs) zero = tt
new_starts (x ∷ xs) (suc d) = new_starts xs d

new_keeps : (p : PlanValue) (x : DriveAt) (d : ℕ) (w : World) → IsNew x → KeepsFit p x d w
new_keeps p Gone d w new = tt
new_keeps p Fresh d w new = tt
new_keeps p (Begun recs gate kept) d w new = absurd new
new_keeps p (Found recs) d w new = absurd new
new_keeps p Sealed d w new = absurd new

-- ---- attaches

attach_device : (e : Event) → is_attach e ≡ true → device_of e ≡ Attaching
attach_device (AttachSource s place) is = refl
attach_device (AttachDrive d place) is = refl
attach_device (AttachFailed place) is = refl
attach_device _ is = absurd (cc is)

on_attaching : (L : List Event) → AreAttaches L → OnAttaching L
unfolding AllOn
on_attaching [] all = tt
on_attaching (e ∷ L) all = (attach_device e all.0, on_attaching L all.1)

-- ---- the parts

module _ (job : Job) (end : JobEnd) (result : ℕ) (old new : World) (past since : List Event) where
  -- an opening
  module _ (came : Result Order FreshError) (mid late : World) (before opening : List Event) (o : Opened job came before opening mid late) where
    outside_opening : Outside opening
    outside_opening = record {
      unread = opening_unread (length job.drives) came opening o.calls;
      untouched = o.untouched;
      lines = since_at (opening_lines (length job.drives) job.copies (asked_by job.task) mid late came o.opens.opens) before opening o.was o.now;
    }

    outside_first : Outside (job_attaches job ++ opening)
    outside_first = outside_then (job_attaches job) opening (outside_attaches (job_attaches job) (all_attach job)) outside_opening

  module _ (order : Order) (mid late done : World) (opening turning last : List Event) (o : Opened job (Ok order) (past ++ job_attaches job) opening mid late)
      (t : Turned job order end ((past ++ job_attaches job) ++ opening) turning late done) (lasts : Lasts end result last) (is : since ≡ job_attaches job ++ (opening ++ (turning ++ last))) where
    seen : IsOfSights job order t.turns.run
    seen = sights_of job order end ((past ++ job_attaches job) ++ opening) turning (past ++ job_attaches job) opening o t

    new_at : (d : ℕ) → IsNew (drive_at (stands_at t.turns.run).drives.each d)
    new_at d = subst IsNew (sym (seen.stands d ∙ ap (λ (starts : List DriveStart). begins_at (start_at starts d)) seen.are)) (new_starts seen.sights d)

    since_is : since ≡ (job_attaches job ++ opening) ++ (turning ++ last)
    since_is = is ∙ sym (append_assoc (job_attaches job) opening (turning ++ last))

    plan_is : (ordered_of t.turns.run).plan ≡ order.plan
    plan_is = t.turns.of.plan

    is_plan : IsPlan order.plan
    is_plan = subst IsPlan plan_is t.turns.starts.run.plan

    of_run : IsRunPlan (run_with job old new since) order.plan
    of_run =
        let looks = o.opens.opens in
        run_plan job order looks.card.0 (job_attaches job) opening (turning ++ last) since since_is (on_attaching (job_attaches job) (all_attach job))
        (since_at (opening_calls 0 (length job.drives) job.copies (asked_by job.task) order mid late looks) (past ++ job_attaches job) opening o.was o.now) old new is_plan (ordered job order mid late looks)

    turned_so : Turning job old new since
    turned_so = record {
      o = ordered_of t.turns.run;
      a = record { at = stands_at t.turns.run; pool = t.turns.pool; world = late };
      b = record { at = stands_at t.turns.then_run; pool = t.turns.then_pool; world = done };
      still = t.turns.alone;
      starts = record { run = t.turns.starts; kept = λ d. new_keeps (ordered_of t.turns.run).plan (drive_at (stands_at t.turns.run).drives.each d) d late (new_at d) };
      fresh = new_at;
      source = seen.source;
      plan = subst (IsRunPlan (run_with job old new since)) (sym plan_is) of_run;
      before = (past ++ job_attaches job) ++ opening;
      first = job_attaches job ++ opening;
      turning = turning;
      last = last;
      was = t.was;
      now = t.now;
      is = since_is;
      on = t.on;
      early = outside_first (Ok order) mid late (past ++ job_attaches job) opening o;
      late = outside_lasts end result last lasts;
    }

  by_parts : Parts job end result past since old new → Outside since ⊎ Turning job old new since
  by_parts (halted s there) = inl (outside_stopped job end result since s)
  by_parts (opened came mid late opening last ends b o lasts same is) =
      inl (subst Outside (sym (is ∙ sym (append_assoc (job_attaches job) opening last)))
      (outside_then (job_attaches job ++ opening) last (outside_first came mid late (past ++ job_attaches job) opening o) (outside_lasts end result last lasts)))
  by_parts (ran order mid late done opening turning last b o t lasts same is) = inr (turned_so order mid late done opening turning last o t lasts is)

  pub by_turns : CallsOwn → RanTold job end result old new past since → Outside since ⊎ Turning job old new since
  by_turns own r = by_parts (parts_of own job end result old new past since r)
