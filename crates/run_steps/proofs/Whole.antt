-- A run from any point of it.
use Rattle.std.proofs.Common.{◌≡◌, ℕ, ◌<◌, List, length, refl, sym, ap, subst, arith}
use Rattle.bay_core.specs.declared.event.Event.{Event}
use Rattle.bay_core.specs.Map.{Map}
use Rattle.copy_plan.specs.Plan.{PlanValue}
use Rattle.offload_law.specs.Stages.{Stage}
use Rattle.recording.specs.Drives.{Copying, IsCopying, Keeps, IsFound, LeavesPrefix}
use Rattle.run_state.specs.Acts.{records_at}
use Rattle.run_state.specs.Rules.{IsRun}
use Rattle.run_state.specs.Runs.{Point, Runs}
use Rattle.run_state.specs.State.{Ordered, DriveAt, Gone, Fresh, Begun, Found, Sealed, drive_at}
use Rattle.run_steps.specs.Parts.{PartsReady}
use Rattle.run_steps.specs.Stands.{Since, Stands, Rests, Awaits}
use Rattle.run_steps.specs.Steps.{IsFor, KeepsToTheSteps}
use Rattle.run_steps.proofs.Drives.{in_range, of_run}
use Rattle.run_steps.proofs.Keeping.{HasFrom, Inv, runs_inv}
use Rattle.run_steps.proofs.Own.{offload_of}
use Rattle.run_steps.proofs.Standing.{since_keeps}
use Rattle.run_steps.proofs.Telling.{since_more}

-- a drive has the records that it has
has_its_own : (x : DriveAt) → HasFrom (length (records_at x)) x
has_its_own Gone = tt
has_its_own Fresh = refl
has_its_own (Begun recs gate kept) = omega arith
has_its_own (Found recs) = tt
has_its_own Sealed = tt

abbrev TheRules : Ordered → Type 0
TheRules o = (a b : Point) → IsRun o a.at → Runs o a b → IsRun o b.at

abbrev TheParts : Ordered → Type 0
TheParts o = (a b : Point) → IsRun o a.at → PartsReady o a → Runs o a b → PartsReady o b

-- what a run that keeps to the steps leaves
abbrev KeepingIsSafe : Type 0
KeepingIsSafe = (D : Copying) → IsCopying D → (d : ℕ) (attached : Map) (past L : List Event) → IsFound D d attached past → Keeps D d L → LeavesPrefix D d attached past L

module _ (rules : (o : Ordered) → TheRules o) (parts : (o : Ordered) → TheParts o) (safe : KeepingIsSafe) (o : Ordered) (a b : Point) (run : IsRun o a.at) (ready : PartsReady o a) (d : ℕ) (attached card : Map) (past : List Event) (runs : Runs o a b) where
  abbrev x : DriveAt
  x = drive_at a.at.drives.each d

  -- of an offload by the run's plan
  module _ (mine start : Map) (stage : Stage) (h : IsFor o d (offload_of o mine start stage) attached card past a) where
    abbrev D : Copying
    D = offload_of o mine start stage

    low : d < 8
    low = let there = in_range a.at.drives.each d h.of_run in let few = run.drives.few in omega (arith, there, few)

    begun_so : Since past (Stands D d x) a.world
    begun_so = since_more past (Awaits D d a.at.phase x) (Stands D d x) (λ L now is. is.stands) h.awaits

    first : Inv o mine start stage h.offload d low attached card past h.found.start (length (records_at x)) h.rest a
    first = record {
      honest = h.honest;
      began = h.start;
      steady = h.steady;
      here = of_run a.at.drives d h.of_run;
      enough = has_its_own x;
      keeps = since_keeps D d past x begun_so;
      stands = λ ne. begun_so;
      rests = λ t. since_more past (Awaits D d a.at.phase x) (Rests D d x) (λ L now is. is.rests t) h.awaits;
    }

    last : Inv o mine start stage h.offload d low attached card past h.found.start (length (records_at x)) h.rest b
    last = runs_inv o mine start stage h.offload d low attached card past h.found.start (length (records_at x)) h.rest (rules o) (parts o) a b run ready first runs

    planned : KeepsToTheSteps d D attached past b
    planned = record {
      keeps = last.keeps;
      leaves = since_more past (Keeps D d) (LeavesPrefix D d attached past) (λ L now keeps. safe D h.offload d attached past L h.found keeps) last.keeps;
      stands = last.stands;
    }

  -- of any
  pub all_keep : (D : Copying) → IsFor o d D attached card past a → KeepsToTheSteps d D attached past b
  all_keep D h =
      let same : D ≡ offload_of o D.work.card D.start D.stage = ap (λ (p : PlanValue). record { work = record { plan = p; card = D.work.card }; start = D.start; stage = D.stage }) h.plan in
      subst (λ (E : Copying). KeepsToTheSteps d E attached past b) (sym same) (planned D.work.card D.start D.stage (subst (λ (E : Copying). IsFor o d E attached card past a) same h))
