-- What a stop leaves of an honest drive of a run that came to its turns.
use Rattle.std.proofs.Common.{◌≡◌, ◌≢◌, ◌⊎◌, inl, inr, ℕ, ◌^◌, ◌<◌, ◌≤◌, false, List, [], ◌∷◌, ◌++◌, length, map, refl, sym, ap, ◌∙◌, subst, arith, append_assoc, append-nil}
use Rattle.std.specs.Prelude.{Some}
use Rattle.std.specs.FinMap.{keys}
use Rattle.std.proofs.lemmas.List.{length-map}
use Rattle.bay_core.specs.declared.event.Event.{Event}
use Rattle.bay_core.specs.Left.{Left, IsSettled}
use Rattle.bay_core.specs.Map.{Map, Dates, AllDated}
use Rattle.bay_core.specs.Replay.{Output, calls_on, reads}
use Rattle.bay_core.specs.Went.{AllOn, Only}
use Rattle.bay_core.specs.World.{World, Attached, Honest, Steady}
use Rattle.bay_core.proofs.Runs.{AllOn-front}
use Rattle.crash_law.specs.Lines.{AllLines}
use Rattle.copy_plan.specs.Plan.{PlanValue, IsPlan}
use Rattle.drive_journal.specs.declared.order.DriveStart.{DriveStart}
use Rattle.drive_journal.specs.declared.order.DriveStart.TheVariants.{Gone, Fresh, Begun, Sealed}
use Rattle.drive_journal.specs.declared.order.Order.{Order}
use Rattle.fresh_opening.specs.Orders.{start_at}
use Rattle.offload_law.specs.Stages.{IsOfCard, IsOurs, HoldsPlan}
use Rattle.offload_run.specs.Offload.{ordered_of, stands_at, begins_at}
use Rattle.run_state.specs.Runs.{Point, Runs}
use Rattle.run_state.specs.State.{DriveAt}
use Rattle.true_start.specs.Starts.{StartsTruly, IsOursWith, IsDriveOf}
use Rattle.true_start.specs.Stops.{IsLeftWell, IsPlanOf, AnnouncesNone}
use Rattle.true_start.proofs.Stopping.{left_by}
use Rattle.command_words.specs.Jobs.{Job}
use Rattle.job_story.specs.Plans.{IsRunPlan}
use Rattle.job_story.specs.Run.{IsHonest, IsSteady, run_with}
use Rattle.job_steps.specs.Prefix.{IsPlanFor}
use Rattle.job_steps.proofs.Begun.{left_before, left_behind_past, reads_start, settled_start}
use Rattle.job_steps.proofs.Lower.{LineLaws, RunLaws}
use Rattle.job_steps.proofs.Lists.{InFirst, InSecond, cut_where}
use Rattle.job_steps.proofs.Parts.{TurnedRun, begins, finishes}
use Rattle.job_steps.proofs.Planned.{run_plan}
use Rattle.job_steps.proofs.Quiet.{IsQuiet, quiet_front, output_off}
use Rattle.job_steps.proofs.Stopped.{silent_lines, left_still, quiet_left}

ours_with : (card : Map) (dates : Dates) (x : DriveStart) (m : Map) → IsOurs card dates m → IsOursWith card dates x m
ours_with card dates Gone m ours = tt
ours_with card dates Fresh m ours = tt
ours_with card dates (Begun entries gate kept) m ours = ours
ours_with card dates (Sealed entries) m ours = ours

pub gone_or : (x : DriveStart) → (x ≡ Gone) ⊎ (x ≢ Gone)
gone_or Gone = inl refl
gone_or Fresh = inr (λ is. cc is)
gone_or (Begun entries gate kept) = inr (λ is. cc is)
gone_or (Sealed entries) = inr (λ is. cc is)

-- the run has a drive for each of the job, and these are eight at most
pub one_for_each : (job : Job) (order : Order) (old new : World) (past since : List Event) → (r : TurnedRun job order old new past since) → length (stands_at r.turns.run).drives.each ≡ length job.drives
one_for_each job order old new past since r = ap (λ (each : List DriveAt). length each) r.turns.of.drives ∙ length-map order.drives.items begins_at ∙ r.of.drives

few_drives : (job : Job) (order : Order) (old new : World) (past since : List Event) → TurnedRun job order old new past since → length job.drives ≤ 8
few_drives job order old new past since r =
    let same = one_for_each job order old new past since r in
    let few = r.turns.starts.run.drives.few in
    omega (arith, same, few)

module _ (line_laws : LineLaws) (laws : RunLaws) (job : Job) (order : Order) (old new : World) (past since : List Event) (r : TurnedRun job order old new past since) where
  -- the calls before the first turn
  abbrev pub early : List Event
  early = r.attaches ++ r.opening

  pub starts_truly : StartsTruly order r.turns.run (begins r.turns)
  starts_truly = record { of = r.turns.of; starts = r.turns.starts; at = refl; true_order = r.true_order }

  pub runs : Runs (ordered_of r.turns.run) (begins r.turns) (finishes r.turns)
  runs = laws.runs (ordered_of r.turns.run) (begins r.turns) (finishes r.turns) r.turns.alone

  is_plan : IsPlan order.plan
  is_plan = subst IsPlan r.turns.of.plan r.turns.starts.run.plan

  plan_of_run : IsRunPlan (run_with job old new since) order.plan
  plan_of_run = run_plan job order r.listed r.attaches r.opening (r.turning ++ r.last) since r.is r.are_attaches r.opened old new is_plan r.of

  -- the calls so far behind the turns, of which these are the first
  pub told_at : (L more : List Event) → r.turning ≡ L ++ more → r.done.events ≡ Some ((past ++ early) ++ (L ++ more))
  told_at L more is = r.now ∙ ap Some (sym (append_assoc past early r.turning) ∙ ap (λ (l : List Event). (past ++ early) ++ l) is)

  -- an honest drive that was ours, and a steady card
  module _ (card : Map) (dates : Dates) (steady : IsSteady (run_with job old new since) card dates) (d : ℕ) (start : Map) (honest : IsHonest (run_with job old new since) d start) (ours : IsOurs card dates start) where
    low : d < length job.drives
    low = let there : d < new.attached.drives = honest.there in let all = r.drives in omega (arith, there, all)

    none : calls_on d past ≡ []
    none = r.unused d low

    abbrev pub begun : Map
    begun = reads start (past ++ early) d

    pub begun_is : begun ≡ start
    begun_is = reads_start start d past none early r.quiet.untouched

    ours_still : IsOurs card dates begun
    ours_still = subst (IsOurs card dates) (sym begun_is) ours

    honest_late : Honest r.late d start (past ++ early)
    honest_late = record {
      honest = ap (λ (b : Attached). b.honest d) (sym r.same) ∙ honest.honest;
      start = ap (λ (b : Attached). b.start d) (sym r.same) ∙ honest.had;
      events = r.was;
    }

    steady_late : Steady r.late 0 card
    steady_late = record { steady = ap (λ (b : Attached). b.steady 0) (sym r.same) ∙ steady.steady; card = ap (λ (b : Attached). b.card 0) (sym r.same) ∙ steady.has }

    dates_are : r.late.attached.card_dates 0 ≡ dates
    dates_are = ap (λ (b : Attached). b.card_dates 0) (sym r.same) ∙ steady.dated

    pub of_card : IsOfCard card dates order.plan
    of_card =
        subst (λ (t : Dates). IsOfCard card t order.plan) dates_are
        (laws.of_card card (r.late.attached.card_dates 0) order.plan (r.dated card steady_late) (r.of_card card steady_late))

    pub drive_of : start_at order.drives.items d ≢ Gone → IsDriveOf order d start (past ++ early) card dates r.late
    drive_of live = record {
      of_run = live;
      honest = honest_late;
      steady = subst (λ (s : ℕ). Steady r.late s card) (sym r.of.source) steady_late;
      ours = ours_with card dates (start_at order.drives.items d) begun ours_still;
    }

    fits : d < 2 ^ 64
    fits = let few = few_drives job order old new past since r in let here = low in omega (arith, few, here)

    -- what is left after calls of the run is left after those before it too
    pub behind_past : (L : List Event) (I : Map) → Left start (early ++ L) d I → Left start ((past ++ early) ++ L) d I
    behind_past L I left = subst (λ (l : List Event). Left start l d I) (sym (append_assoc past early L)) (left_behind_past start d past none (early ++ L) I left)

    -- within the turns, by their calls alone
    of_turns : (L more : List Event) → r.turning ≡ L ++ more → (I : Map) → Left start (early ++ L) d I → IsLeftWell (IsPlanOf order.plan begun) card dates d begun L I
    of_turns L more is I left = elim (gone_or (start_at order.drives.items d)) [
      | inl gone ↦
          laws.gone order r.turns.run (begins r.turns) (finishes r.turns) starts_truly r.turns.alone d fits gone start card (past ++ early) dates honest_late (settled_start start d past none early r.quiet.untouched) ours_still L more (told_at L more is) I
          (behind_past L I left)
      | inr live ↦ laws.stops order r.turns.run (begins r.turns) (finishes r.turns) starts_truly runs d start card (past ++ early) dates (drive_of live) of_card L more (told_at L more is) I (behind_past L I left)
    ]

    by_plan : (p : PlanValue) → IsPlanOf order.plan start p → IsPlanFor (run_with job old new since) start p
    by_plan p (inl is) = inl (subst (IsRunPlan (run_with job old new since)) (sym is) plan_of_run)
    by_plan p (inr holds) = inr holds

    -- within the turns
    in_turns : (L more : List Event) → r.turning ≡ L ++ more → (I : Map) → Left start (early ++ L) d I → IsLeftWell (IsPlanFor (run_with job old new since) start) card dates d start (early ++ L) I
    in_turns L more is I left =
        left_by (IsPlanOf order.plan start) (IsPlanFor (run_with job old new since) start) by_plan card dates d start (early ++ L) I
        (line_laws.behind order.plan d start card dates early L I (silent_lines d (length (keys card)) early r.quiet.plain)
        (subst (λ (m : Map). IsLeftWell (IsPlanOf order.plan m) card dates d m L I) begun_is (of_turns L more is I left)))

    -- before them
    in_early : (L back : List Event) → early ≡ L ++ back → (I : Map) → Left start L d I → IsLeftWell (IsPlanFor (run_with job old new since) start) card dates d start L I
    in_early L back is I left =
        left_by (HoldsPlan start) (IsPlanFor (run_with job old new since) start) (λ p holds. inr holds) card dates d start L I
        (quiet_left line_laws card dates d start ours L (quiet_front L back (subst IsQuiet is r.quiet)) I left)

    -- and behind them, among the last lines
    in_last : (L E back : List Event) → L ≡ early ++ (r.turning ++ E) → r.last ≡ E ++ back → (I : Map) → Left start L d I → IsLeftWell (IsPlanFor (run_with job old new since) start) card dates d start L I
    in_last L E back is last_is I left =
        let whole : L ≡ (early ++ r.turning) ++ E = is ∙ sym (append_assoc early r.turning E) in
        let off : calls_on d E ≡ [] = output_off d E (AllOn-front (Only Output) E back (subst (AllOn (Only Output)) last_is r.on_output)) in
        let plain = (quiet_front E back (subst IsQuiet last_is r.quiet_last)).plain in
        let before : Left start (early ++ r.turning) d I = left_before start d (early ++ r.turning) E I off (subst (λ (l : List Event). Left start l d I) whole left) in
        subst (λ (l : List Event). IsLeftWell (IsPlanFor (run_with job old new since) start) card dates d start l I) (sym whole)
        (left_still line_laws (IsPlanFor (run_with job old new since) start) card dates d start (early ++ r.turning) E I (silent_lines d (length (keys card)) E plain) (in_turns r.turning [] (sym (append-nil r.turning)) I before))

    -- wherever the run stops
    pub left_anywhere : (L rest : List Event) → since ≡ L ++ rest → (I : Map) → Left start L d I → IsLeftWell (IsPlanFor (run_with job old new since) start) card dates d start L I
    left_anywhere L rest is I left = elim (cut_where L rest early (r.turning ++ r.last) (sym is ∙ r.is)) [
      | inl i ↦ in_early L i.back i.first I left
      | inr i ↦ later i
    ]
      where
        later : InSecond L rest early (r.turning ++ r.last) → IsLeftWell (IsPlanFor (run_with job old new since) start) card dates d start L I
        later i = elim (cut_where i.front rest r.turning r.last (sym i.second)) [
          | inl j ↦
              subst (λ (l : List Event). IsLeftWell (IsPlanFor (run_with job old new since) start) card dates d start l I) (sym i.before)
              (in_turns i.front j.back j.first I (subst (λ (l : List Event). Left start l d I) i.before left))
          | inr j ↦ in_last L j.front rest (i.before ∙ ap (λ (l : List Event). early ++ l) j.before) j.second I left
        ]
