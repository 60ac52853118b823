-- The turns of a run of a job: its drives, and what follows a call of them that failed.
use Rattle.std.proofs.Common.{◌≡◌, ℕ, zero, suc, ◌<◌, List, [], ◌∷◌, ◌++◌, length, map, refl, sym, ap, ◌∙◌, subst, arith}
use Rattle.std.specs.Prelude.{Ok}
use Rattle.bay_core.specs.declared.event.Event.{Event}
use Rattle.bay_core.specs.Replay.{Device, Source, Drive, Attaching, Output, Clock, Picker, calls_on, device_of}
use Rattle.bay_core.specs.Went.{AllOn}
use Rattle.bay_core.specs.World.{World}
use Rattle.bay_core.proofs.Replays.{calls_on-append}
use Rattle.copy_plan.specs.Plan.{PlanValue}
use Rattle.drive_journal.specs.declared.order.DriveStart.{DriveStart}
use Rattle.drive_journal.specs.declared.order.DriveStart.TheVariants.{Gone as GoneStart}
use Rattle.drive_journal.specs.declared.order.Order.{Order}
use Rattle.fresh_opening.specs.Openings.{start_of, starts_of}
use Rattle.fresh_opening.specs.Orders.{start_at}
use Rattle.fresh_opening.specs.Sights.{Sight, Dropped, Found}
use Rattle.run_state.specs.declared.outcome.Outcome.{Outcome}
use Rattle.run_state.specs.declared.outcome.Outcome.TheVariants.{SourceFailed, OutFailed as LineFailed}
use Rattle.run_state.specs.Acts.{Ends}
use Rattle.run_state.specs.Calls.{IsOfRun}
use Rattle.run_state.specs.State.{DriveAt, At, IsCalled, drive_at}
use Rattle.offload_run.specs.declared.offload.Offload.{Offload}
use Rattle.offload_run.specs.Offload.{ordered_of, stands_at, begins_at, IsRunOf}
use Rattle.run_calls.specs.Failures.{NoneAfterFailure as NoneAfterTurn, Halts as HaltsTurn, IsToldNext as IsTurnTold}
use Rattle.run_calls.specs.Ready.{KeepsNoPart}
use Rattle.run_calls.proofs.Lists.{calls_off, apart_off}
use Rattle.last_lines.specs.Ends.{EndCalls}
use Rattle.job_story.specs.Ends.{JobEnd, CardFailed, OutFailed, last_of}
use Rattle.job_story.specs.Story.{EndsAs, Opens}
use Rattle.command_words.specs.Jobs.{Job}
use Rattle.job_calls.specs.Calls.{MayFollow, IsToldNext}
use Rattle.job_calls.proofs.Ending.{Lasts, unsaid_end}
use Rattle.job_calls.proofs.Follows.{Halts, off_output}

-- ---- its drives

-- where a drive of a run stands as its order says
begins_of : (starts : List DriveStart) (d : ℕ) → drive_at (map begins_at starts) d ≡ begins_at (start_at starts d)
begins_of [] d = refl
begins_of (x ∷ starts) zero = refl
begins_of (x ∷ starts) (suc d) = begins_of starts d

-- a drive of a fresh opening keeps no part
keeps_none : (xs : List Sight) (d : ℕ) → KeepsNoPart (begins_at (start_at (map start_of xs) d))
keeps_none [] d = tt
keeps_none (Dropped ∷ xs) zero = tt
keeps_none (Found size found ∷ xs) zero = tt
keeps_none (x ∷ xs) (suc d) = keeps_none xs d

-- one that may be called is one of those that were looked at
called_low : (xs : List Sight) (d : ℕ) → IsCalled (begins_at (start_at (map start_of xs) d)) → d < length xs
called_low [] d called = absurd called
called_low (x ∷ xs) zero called = omega arith
called_low (x ∷ xs) (suc d) called = let low = called_low xs d called in omega (arith, low)

-- a run of the order of a fresh opening that saw these
pub record IsOfSights (job : Job) (order : Order) (run : Offload) : Type 0 where
  pub sights : List Sight
  pub count : length sights ≡ length job.drives
  pub are : order.drives.items ≡ map start_of sights
  pub source : (ordered_of run).source ≡ 0
  pub plan : (ordered_of run).plan ≡ order.plan
  pub stands : (d : ℕ) → drive_at (stands_at run).drives.each d ≡ begins_at (start_at order.drives.items d)

pub of_sights : (job : Job) (order : Order) (run : Offload) (mid late : World) → Opens job (Ok order) mid late → IsRunOf order run → IsOfSights job order run
of_sights job order run mid late o of =
    let l = o.opens in
    let is = l.answer.2 in
    record {
      sights = l.scene.sights;
      count = l.answer.0;
      are = is.drives_are ∙ ap (λ (first : ℕ). starts_of first l.scene.sights) l.from;
      source = of.source ∙ is.source_is;
      plan = of.plan;
      stands = λ d. ap (λ (each : List DriveAt). drive_at each d) of.drives ∙ begins_of order.drives.items d;
    }

module _ (job : Job) (order : Order) (run : Offload) (s : IsOfSights job order run) where
  at_of_sights : (d : ℕ) → drive_at (stands_at run).drives.each d ≡ begins_at (start_at (map start_of s.sights) d)
  at_of_sights d = s.stands d ∙ ap (λ (starts : List DriveStart). begins_at (start_at starts d)) s.are

  pub keep_no_parts : (d : ℕ) → KeepsNoPart (drive_at (stands_at run).drives.each d)
  keep_no_parts d = subst KeepsNoPart (sym (at_of_sights d)) (keeps_none s.sights d)

  pub called_drive : (d : ℕ) → IsCalled (drive_at (stands_at run).drives.each d) → d < length job.drives
  called_drive d called =
      let low = called_low s.sights d (subst IsCalled (at_of_sights d) called) in
      let count = s.count in
      omega (arith, low, count)

  pub gone_uncalled : (d : ℕ) → start_at order.drives.items d ≡ GoneStart → IsCalled (drive_at (stands_at run).drives.each d) → ⊥
  gone_uncalled d gone called = subst IsCalled (s.stands d ∙ ap begins_at gone) called

  -- no turn calls a drive that is gone in the order
  pub gone_off : (d : ℕ) (L : List Event) → start_at order.drives.items d ≡ GoneStart → AllOn (IsOfRun (ordered_of run) (stands_at run).drives) L → calls_on d L ≡ []
  gone_off d L gone on = calls_off d (IsOfRun (ordered_of run) (stands_at run).drives) (apart_off d (IsOfRun (ordered_of run) (stands_at run).drives) (gone_uncalled d gone)) L on

-- ---- how it ends

card_end : (n : ℕ) (p : PlanValue) (at : At) (outcome : Outcome) (end : JobEnd) → outcome ≡ SourceFailed → EndsAs n p at outcome end → end ≡ CardFailed
card_end n p at outcome end is ends = subst (λ (x : Outcome). EndsAs n p at x end) is ends

line_end : (n : ℕ) (p : PlanValue) (at : At) (outcome : Outcome) (end : JobEnd) → outcome ≡ LineFailed → EndsAs n p at outcome end → end ≡ OutFailed
line_end n p at outcome end is ends = subst (λ (x : Outcome). EndsAs n p at x end) is ends

-- ---- what follows

module _ (n : ℕ) (p : PlanValue) (now : At) (end : JobEnd) (result : ℕ) (ends : EndsAs n p now now.outcome end) (L more : List Event) (lasts : Lasts end result more) (none : NoneAfterTurn now L) where
  -- a run whose line was not said says no more
  silent : Ends LineFailed now → (more ≡ []) × (result ≡ 5)
  silent is = unsaid_end end result more (line_end n p now now.outcome end is.1 ends) lasts.calls

  both_off : (d : ℕ) (back : List Event) → calls_on d back ≡ [] → calls_on d (back ++ more) ≡ []
  both_off d back off = let other = off_output d more lasts.on in calls_on-append d back more ∙ (λ i. off i ++ other i)

  told_next : (d : ℕ) (back : List Event) → IsTurnTold d now back → IsToldNext d result (back ++ more)
  told_next d [] is = let last = silent is in subst (IsToldNext d result) (sym last.0) last.1
  told_next d (e ∷ back) said = said

  follows : (x : Device) (back : List Event) → HaltsTurn now x back → MayFollow end result x (back ++ more)
  follows (Drive d) back (told, left) = (told_next d back told, both_off d back left.0)
  follows (Source s) back (nothing, is) = (card_end n p now now.outcome end is.1 ends, subst (λ (l : List Event). EndCalls (last_of end) result (l ++ more)) (sym nothing) lasts.calls)
  follows Output back (nothing, is) = let last = silent is in ((λ i. nothing i ++ last.0 i), last.1)
  follows Attaching back never = absurd never
  follows Clock back never = absurd never
  follows Picker back never = absurd never

  pub turns_halt : Halts end result L more
  turns_halt = record {
    failed = λ front back e is bad. follows (device_of e) back (none.failed front back e is bad);
    dropped = λ front back d small line ok is begins. both_off d back (none.dropped d front back line ok is begins);
  }
