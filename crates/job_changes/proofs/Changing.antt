-- A run of a job changes its own paths alone.
use Rattle.std.proofs.Common.{◌≡◌, inl, inr, ℕ, true, List, [], ◌∷◌, ◌++◌, refl, sym, ◌∙◌, subst}
use Rattle.std.specs.List.{AllByRecursion}
use Rattle.std.proofs.lemmas.Bool.{false≢true}
use Rattle.bay_core.specs.declared.event.Event.{Event}
use Rattle.bay_core.specs.Looks.{is_effect, IsUntouched}
use Rattle.bay_core.specs.World.{World}
use Rattle.copy_plan.specs.Plan.{PlanValue}
use Rattle.copy_plan.proofs.Files.{AllByRecursion-append, all_one}
use Rattle.run_state.specs.declared.phase.Phase.{Phase}
use Rattle.run_reads.proofs.Since.{since_at}
use Rattle.command_words.specs.Jobs.{Job}
use Rattle.job_story.specs.Ends.{JobEnd}
use Rattle.job_story.specs.Plans.{IsRunPlan}
use Rattle.job_story.specs.Run.{Run, run_with}
use Rattle.job_calls.specs.Told.{RanTold}
use Rattle.job_calls.proofs.Failing.{place_of}
use Rattle.job_calls.proofs.Parts.{CallsOwn}
use Rattle.job_reads.proofs.Turning.{Turning, by_turns}
use Rattle.job_changes.specs.Changes.{IsOwnChange, ChangesItsOwn}
use Rattle.job_changes.proofs.Acts.{AllOwn}
use Rattle.job_changes.proofs.Turns.{AreNewFrom, turns_own}

module _ (run : Run) where
  abbrev OwnIfChanging : Event → Type 0
  OwnIfChanging e = is_effect e ≡ true → (p : PlanValue) × IsRunPlan run p × IsOwnChange p e

  untouched_so : (L : List Event) → IsUntouched L → AllByRecursion OwnIfChanging L
  unfolding IsUntouched
  untouched_so [] off = tt
  untouched_so (e ∷ L) off = (λ changes. absurd (false≢true (sym off.0 ∙ changes)), untouched_so L off.1)

  own_so : (p : PlanValue) → IsRunPlan run p → (L : List Event) → AllOwn p L → AllByRecursion OwnIfChanging L
  own_so p plan [] own = tt
  own_so p plan (e ∷ L) own = (λ changes. (p, plan, own.0), own_so p plan L own.1)

  each_so : (L : List Event) → run.events ≡ L → AllByRecursion OwnIfChanging L → ChangesItsOwn run
  each_so L is all e there =
      let at = place_of run.events e there in
      all_one OwnIfChanging at.0 e at.1 (subst (AllByRecursion OwnIfChanging) (sym is ∙ at.2) all)

module _ (job : Job) (old new : World) (since : List Event) (t : Turning job old new since) where
  new_from : AreNewFrom t.a.at.phase t.a.at.drives
  new_from = subst (λ (phase : Phase). AreNewFrom phase t.a.at.drives) (sym t.starts.run.phase) (λ k low. t.fresh k)

  turning_own : AllOwn t.o.plan t.turning
  turning_own = since_at (turns_own t.o t.a new_from t.b t.still) t.before t.turning t.was t.now

  turned_so : ChangesItsOwn (run_with job old new since)
  turned_so =
      let run = run_with job old new since in
      each_so run (t.first ++ (t.turning ++ t.last)) t.is
      (AllByRecursion-append (OwnIfChanging run) t.first (t.turning ++ t.last) (untouched_so run t.first t.early.untouched)
      (AllByRecursion-append (OwnIfChanging run) t.turning t.last (own_so run t.o.plan t.plan t.turning turning_own) (untouched_so run t.last t.late.untouched)))

-- every run
pub changes_its_own : CallsOwn → (job : Job) (end : JobEnd) (result : ℕ) (old new : World) (past since : List Event) → RanTold job end result old new past since → ChangesItsOwn (run_with job old new since)
changes_its_own own job end result old new past since r = elim (by_turns job end result old new past since own r) [
  | inl out ↦ each_so (run_with job old new since) since refl (untouched_so (run_with job old new since) since out.untouched)
  | inr t ↦ turned_so job old new since t
]
