-- All copies of a run of a job go at the pace of the window.
use Rattle.std.proofs.Common.{◌≡◌, inl, inr, ℕ, Bool, true, false, List, [], ◌++◌, length, refl, sym, ap, ◌∙◌, subst, append_assoc}
use Rattle.std.specs.Prelude.{◌&&◌, not, nat_eq, if◌then◌else◌, Some, None, Ok}
use Rattle.std.proofs.lemmas.List.Elements.{filter-append}
use Rattle.bay_core.specs.declared.event.Event.{Event}
use Rattle.bay_core.specs.World.{World}
use Rattle.copy_plan.specs.declared.file.PlannedFile.{PlannedFile}
use Rattle.copy_plan.specs.Plan.{PlanValue, IsPlan}
use Rattle.drive_journal.specs.declared.order.Order.{Order}
use Rattle.fan_core.specs.Flags.{has}
use Rattle.fan_core.specs.Next.{at_start}
use Rattle.fan_copier.specs.Follows.{FollowsWindow}
use Rattle.fan_copier.specs.Standing.{Standing, blocks_of}
use Rattle.offload_run.specs.Offload.{ordered_of, stands_at}
use Rattle.run_state.specs.Runs.{Point, Alone}
use Rattle.run_state.specs.State.{Ordered, DriveAt, Gone, Fresh, Begun, Found, Sealed, drive_at, due, keeps_part}
use Rattle.run_calls.specs.Ready.{KeepsNoPart}
use Rattle.run_reads.specs.Parts.{KeepsFit, Starts}
use Rattle.run_reads.proofs.Since.{since_at}
use Rattle.run_pace.specs.Pace.{IsCopyBegin as BeginsAt, IsPaced as TurnsPaced, ends as no_more, between as one_between, copies as one_copied, is_line, without_lines}
use Rattle.run_pace.proofs.Pacing.{paced_then, quiet_paced}
use Rattle.run_pace.proofs.Quiet.{NoActs, no_acts_then}
use Rattle.command_words.specs.Jobs.{Job}
use Rattle.job_story.specs.Ends.{JobEnd}
use Rattle.job_story.specs.Plans.{IsRunPlan}
use Rattle.job_story.specs.Run.{run_with}
use Rattle.job_story.specs.Story.{asked_by}
use Rattle.job_calls.specs.Calls.{job_attaches}
use Rattle.job_calls.specs.Told.{RanTold}
use Rattle.job_calls.proofs.Ending.{Lasts}
use Rattle.job_calls.proofs.Owning.{sights_of}
use Rattle.job_calls.proofs.Parts.{Parts, halted, opened, ran, Opened, Turned, CallsOwn, parts_of}
use Rattle.job_calls.proofs.Turning.{IsOfSights, keep_no_parts}
use Rattle.job_losses.proofs.Opened.{opening_calls}
use Rattle.job_losses.proofs.Planned.{ordered, run_plan}
use Rattle.job_reads.proofs.Outside.{all_attach}
use Rattle.job_pace.specs.Pace.{IsCopyBegin, IsPaced, ends, between, copies, FollowsWindows}
use Rattle.job_pace.proofs.Outside.{on_attaching, job_attaches_quiet, opening_quiet, last_quiet, stopped_quiet}

-- what the law of turns says
abbrev pub PaceLaw : Type 0
PaceLaw = (o : Ordered) (a b : Point) → Starts o a → Alone o a b → (past L : List Event) → a.world.events ≡ Some past → b.world.events ≡ Some (past ++ L) → TurnsPaced o a (without_lines L)

-- ---- drives that keep no part

kept_none : (x : DriveAt) (i : ℕ) → KeepsNoPart x → keeps_part (due i x) ≡ false
kept_none (Begun recs gate false) i none = by (nat_eq (length recs) i)
  where
    by : (b : Bool) → keeps_part (if b then Some (record { recs = recs; gate = gate; kept = false }) else None) ≡ false
    by true = refl
    by false = refl
kept_none (Begun recs gate true) i none = absurd none
kept_none Gone i none = refl
kept_none Fresh i none = refl
kept_none (Found recs) i none = refl
kept_none Sealed i none = refl

fits_none : (p : PlanValue) (x : DriveAt) (d : ℕ) (w : World) → KeepsNoPart x → KeepsFit p x d w
fits_none p (Begun recs gate false) d w none = tt
fits_none p (Begun recs gate true) d w none = absurd none
fits_none p Gone d w none = tt
fits_none p Fresh d w none = tt
fits_none p (Found recs) d w none = tt
fits_none p Sealed d w none = tt

and_false : (b : Bool) → (b && false) ≡ false
and_false true = refl
and_false false = refl

and_true : (b : Bool) → (b && true) ≡ b
and_true true = refl
and_true false = refl

-- ---- what is so of turns is so of the run

module _ (o : Ordered) (a : Point) (source : o.source ≡ 0) (slots : o.slots ≡ 16) (none : (d : ℕ) → KeepsNoPart (drive_at a.at.drives.each d)) where
  begin_so : (i : ℕ) (f : PlannedFile) (at : Standing) → BeginsAt o a i f at → IsCopyBegin f at
  begin_so i f at b = record {
    live = b.live;
    some = b.some;
    counts = b.counts ∙ ap (λ (n : ℕ). at_start b.live (blocks_of f.size) n) slots;
    lengths = b.lengths;
    pieces = λ d. b.pieces d ∙ ap (λ (k : Bool). has b.live d && not k) (kept d) ∙ and_true (has b.live d);
    kept = kept;
  }
    where
      kept : (d : ℕ) → has at.kept d ≡ false
      kept d = b.kept d ∙ ap (λ (k : Bool). has b.live d && k) (kept_none (drive_at a.at.drives.each d) i (none d)) ∙ and_false (has b.live d)

  lifted : (L : List Event) → TurnsPaced o a L → IsPaced o.plan L
  lifted L no_more = ends
  lifted L (one_between e M quiet rest) = between e M quiet (lifted M rest)
  lifted L (one_copied i f at turns A M is begins follows rest) =
      copies i f at turns A M is (begin_so i f at begins) (subst (λ (s : ℕ). FollowsWindow s f.path f.size at [] turns A) source follows) (lifted M rest)

unlined_then : (A B : List Event) → without_lines (A ++ B) ≡ without_lines A ++ without_lines B
unlined_then A B = filter-append (λ e. not (is_line e)) A B

-- ---- the parts of a run

module _ (law : PaceLaw) (job : Job) (end : JobEnd) (result : ℕ) (old new : World) (past since : List Event) where
  module _ (order : Order) (mid late done : World) (opening turning last : List Event) (p : Opened job (Ok order) (past ++ job_attaches job) opening mid late)
      (t : Turned job order end ((past ++ job_attaches job) ++ opening) turning late done) (lasts : Lasts end result last) (is : since ≡ job_attaches job ++ (opening ++ (turning ++ last))) where
    seen : IsOfSights job order t.turns.run
    seen = sights_of job order end ((past ++ job_attaches job) ++ opening) turning (past ++ job_attaches job) opening p t

    abbrev o : Ordered
    o = ordered_of t.turns.run

    abbrev a : Point
    a = record { at = stands_at t.turns.run; pool = t.turns.pool; world = late }

    none : (d : ℕ) → KeepsNoPart (drive_at a.at.drives.each d)
    none = keep_no_parts job order t.turns.run seen

    slots : o.slots ≡ 16
    slots = t.turns.of.slots ∙ p.opens.opens.answer.2.slots_is

    starts : Starts o a
    starts = record { run = t.turns.starts; kept = λ d. fits_none o.plan (drive_at a.at.drives.each d) d late (none d) }

    turns_paced : TurnsPaced o a (without_lines turning)
    turns_paced = law o a (record { at = stands_at t.turns.then_run; pool = t.turns.then_pool; world = done }) starts t.turns.alone ((past ++ job_attaches job) ++ opening) turning t.was t.now

    since_is : since ≡ (job_attaches job ++ opening) ++ (turning ++ last)
    since_is = is ∙ sym (append_assoc (job_attaches job) opening (turning ++ last))

    first_paced : TurnsPaced o a (without_lines (job_attaches job ++ opening))
    first_paced = quiet_paced o a (job_attaches job ++ opening) (no_acts_then (job_attaches job) opening (job_attaches_quiet job) (opening_quiet job (Ok order) mid late (past ++ job_attaches job) opening p))

    last_paced : TurnsPaced o a (without_lines last)
    last_paced = quiet_paced o a last (last_quiet end result last lasts)

    behind_paced : TurnsPaced o a (without_lines (turning ++ last))
    behind_paced = subst (TurnsPaced o a) (sym (unlined_then turning last)) (paced_then o a (without_lines turning) (without_lines last) turns_paced last_paced)

    all_paced : TurnsPaced o a (without_lines since)
    all_paced = subst (λ (L : List Event). TurnsPaced o a (without_lines L)) (sym since_is)
        (subst (TurnsPaced o a) (sym (unlined_then (job_attaches job ++ opening) (turning ++ last))) (paced_then o a (without_lines (job_attaches job ++ opening)) (without_lines (turning ++ last)) first_paced behind_paced))

    plan_is : o.plan ≡ order.plan
    plan_is = t.turns.of.plan

    is_plan : IsPlan order.plan
    is_plan = subst IsPlan plan_is t.turns.starts.run.plan

    of_run : IsRunPlan (run_with job old new since) order.plan
    of_run =
        let looks = p.opens.opens in
        run_plan job order looks.card.0 (job_attaches job) opening (turning ++ last) since since_is (on_attaching (job_attaches job) (all_attach job))
        (since_at (opening_calls 0 (length job.drives) job.copies (asked_by job.task) order mid late looks) (past ++ job_attaches job) opening p.was p.now) old new is_plan (ordered job order mid late looks)

    turned_follows : FollowsWindows (run_with job old new since)
    turned_follows = inr (o.plan, subst (IsRunPlan (run_with job old new since)) (sym plan_is) of_run, lifted o a seen.source slots none (without_lines since) all_paced)

  by_parts : Parts job end result past since old new → FollowsWindows (run_with job old new since)
  by_parts (halted s there) = inl (stopped_quiet job end result since s)
  by_parts (opened came mid late opening last ends_by b o lasts same is) =
      inl (subst NoActs (sym is) (no_acts_then (job_attaches job) (opening ++ last) (job_attaches_quiet job)
      (no_acts_then opening last (opening_quiet job came mid late (past ++ job_attaches job) opening o) (last_quiet end result last lasts))))
  by_parts (ran order mid late done opening turning last b o t lasts same is) = turned_follows order mid late done opening turning last o t lasts is

-- every run
pub follows : CallsOwn → PaceLaw → (job : Job) (end : JobEnd) (result : ℕ) (old new : World) (past since : List Event) → RanTold job end result old new past since → FollowsWindows (run_with job old new since)
follows own law job end result old new past since r = by_parts law job end result old new past since (parts_of own job end result old new past since r)
