-- Runs one after another.
use Rattle.std.proofs.Common.{◌≡◌, ℕ, zero, suc, ◌≤◌, List, [], ◌∷◌, None, refl, sym, ◌∙◌, subst, arith}
use Rattle.std.specs.FinMap.{get}
use Rattle.bay_core.specs.declared.event.Event.{Event}
use Rattle.bay_core.specs.declared.event.Event.TheVariants.{AttachSource, AttachDrive, AttachFailed, SourceList, SourceRead, DriveList, DriveRead, Write, Sync, Rename, Remove, Moment, Pick, Say}
use Rattle.bay_core.specs.Map.{Map, Dates}
use Rattle.bay_core.specs.Paths.{journal_path}
use Rattle.crash_law.specs.Protocol.{Protocol, told_after, Announced}
use Rattle.copy_plan.specs.Plan.{PlanValue, IsPlan}
use Rattle.offload_law.specs.Stages.{Offload, Stage, Fresh, Begun, Sealed, IsAt, IsAfter, IsAfterOn, StandsAfter, HoldsPlan, IsOfCard, IsOurs, KeepsRest, progress}
use Rattle.offload_law.specs.Steps.{offload}
use Rattle.offload_law.specs.Runs.{LeftByRuns, LeftByRunsOn, untouched, stopped}
use Rattle.offload_law.proofs.Stages.{rest_trans}
use Rattle.offload_law.proofs.Safe.{AllSafe, crash_prefix}
use Rattle.offload_law.proofs.Unique.{one_stage, one_progress_on, plan_stays, plan_held}

told_step : (P : Protocol) (e : Event) (told : ℕ) → told ≤ told_after P e told
told_step P (Say line ok) told = omega arith
told_step P (AttachDrive d place) told = omega arith
told_step P (AttachSource n place) told = omega arith
told_step P (SourceList n got) told = omega arith
told_step P (SourceRead n path at want got) told = omega arith
told_step P (AttachFailed place) told = omega arith
told_step P (DriveList d got) told = omega arith
told_step P (DriveRead d path at want got) told = omega arith
told_step P (Moment t0) told = omega arith
told_step P (Write d path at piece ok) told = omega arith
told_step P (Sync d ok) told = omega arith
told_step P (Rename d from to ok) told = omega arith
told_step P (Remove d path ok) told = omega arith
told_step P (Pick n) told = omega arith

-- announced steps never fall
pub told_more : (P : Protocol) (events : List Event) (told : ℕ) → told ≤ Announced P told events
told_more P [] told = omega arith
told_more P (e ∷ events) told = omega (arith, told_step P e told, told_more P events (told_after P e told))

pub after_runs : AllSafe → (o : Offload) → IsPlan o.plan → (base m : Map) (s : Stage) → IsAt o base s → LeftByRuns o base m → (steps : ℕ) × IsAfter o m steps × KeepsRest o.plan m base steps × (progress o.plan s ≤ steps)
after_runs safe o plan base m first at untouched = (progress o.plan first, record { stage = first; at = at; done = refl }, record { same = λ q t. refl }, omega arith)
after_runs safe o plan base m first at (stopped {start = start} before s there d L more end is_in left_m) =
    let so_far = after_runs safe o plan base start first at before in
    let after = so_far.1 in
    let found = crash_prefix safe o plan start s there d L more end is_in m left_m in
    let same : progress o.plan s ≡ so_far.0 = one_stage o o start s after.stage there after.at ∙ after.done in
    let grows : progress o.plan s ≤ found.0 = omega (arith, found.3, told_more (offload d o start) L (progress o.plan s)) in
    (found.0, found.1, rest_trans o.plan so_far.0 found.0 (omega (arith, grows, same)) so_far.2 found.2, omega (arith, grows, same, so_far.3))

module _ (card : Map) (dates : Dates) where
  -- a map after some steps of a plan of the card
  pub after_on : (p : PlanValue) → IsOfCard card dates p → IsPlan p → (m : Map) (steps : ℕ) → IsAfter (record { plan = p; card = card }) m steps → IsAfterOn card dates m steps
  after_on p of plan m zero after = fresh after.stage after.at after.done
    where
      fresh : (s : Stage) → IsAt (record { plan = p; card = card }) m s → progress p s ≡ 0 → get m journal_path ≡ None
      fresh Fresh at is = at
      fresh (Begun recs) at is = absurd (omega (arith, is))
      fresh (Sealed recs finish) at is = absurd (omega (arith, is))
  after_on p of plan m (suc steps) after = (p, plan, of, after)

  -- a drive stands after its own steps, by the plan of its journal
  pub stands_still : (m : Map) (steps : ℕ) → IsAfterOn card dates m steps → StandsAfter (HoldsPlan m) card dates m m steps
  stands_still m zero none = (none, λ q other. refl)
  stands_still m (suc steps) after = (after.0, plan_held (record { plan = after.0; card = card }) m steps after.3, after.1, after.2, after.3, record { same = λ q t. refl })

  pub ours_stays : AllSafe → (base m : Map) → IsOurs card dates base → LeftByRunsOn card dates base m → IsOurs card dates m
  ours_stays safe base m ours untouched = ours
  ours_stays safe base m ours (stopped {start = start} before p of plan s there d L more end is_in left_m) =
      let found = crash_prefix safe (record { plan = p; card = card }) plan start s there d L more end is_in m left_m in
      (found.0, after_on p of plan m found.0 found.1)

pub steps_stay : AllSafe → (card : Map) (dates : Dates) (base m : Map) → LeftByRunsOn card dates base m → (p : PlanValue) → IsPlan p → (k : ℕ) → IsAfter (record { plan = p; card = card }) base (suc k) →
    (steps : ℕ) × IsAfter (record { plan = p; card = card }) m steps × (suc k ≤ steps)
steps_stay safe card dates base m untouched p plan k after = (suc k, after, omega arith)
steps_stay safe card dates base m (stopped {start = start} before q of also s there d L more end is_in left_m) p plan k after =
    let so_far = steps_stay safe card dates base start before p plan k after in
    at_least so_far.0 so_far.1 so_far.2
  where
    at_least : (j : ℕ) → IsAfter (record { plan = p; card = card }) start j → suc k ≤ j → (steps : ℕ) × IsAfter (record { plan = p; card = card }) m steps × (suc k ≤ steps)
    at_least zero then_after low = absurd (omega (arith, low))
    at_least (suc j) then_after low =
        let same : p ≡ q = plan_stays p q card start j then_after s there in
        let mine = subst (λ (r : PlanValue). IsAfter (record { plan = r; card = card }) start (suc j)) same then_after in
        let found = crash_prefix safe (record { plan = q; card = card }) also start s there d L more end is_in m left_m in
        let reached : progress q s ≡ suc j = one_stage (record { plan = q; card = card }) (record { plan = q; card = card }) start s mine.stage there mine.at ∙ mine.done in
        let grows = told_more (offload d (record { plan = q; card = card }) start) L (progress q s) in
        (found.0, subst (λ (r : PlanValue). IsAfter (record { plan = r; card = card }) m found.0) (sym same) found.1, omega (arith, low, reached, grows, found.3))

-- nor is a step taken back, whichever plans they are by
pub never_back : AllSafe → (card : Map) (dates : Dates) (base m : Map) → LeftByRunsOn card dates base m → (j k : ℕ) → IsAfterOn card dates base j → IsAfterOn card dates m k → j ≤ k
never_back safe card dates base m left zero k x y = omega arith
never_back safe card dates base m left (suc j) k x y =
    let found = steps_stay safe card dates base m left x.0 x.1 j x.3 in
    at_least found.0 found.1 found.2
  where
    at_least : (steps : ℕ) → IsAfter (record { plan = x.0; card = card }) m steps → suc j ≤ steps → suc j ≤ k
    at_least zero after low = absurd (omega (arith, low))
    at_least (suc steps) after low =
        let same : suc steps ≡ k = one_progress_on card card dates dates m (suc steps) k (x.0, x.1, x.2, after) y in
        omega (arith, low, same)
