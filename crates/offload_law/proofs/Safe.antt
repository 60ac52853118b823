-- What follows where the changes of an offload are safe.
use Rattle.std.proofs.Common.{ℕ, suc, ◌≤◌, List, ◌++◌, length, refl, arith}
use Rattle.bay_core.specs.declared.event.Event.{Event}
use Rattle.bay_core.specs.Map.{Map}
use Rattle.bay_core.specs.Left.{Left}
use Rattle.crash_law.specs.Protocol.{IsSafe, State, IsIn, Announced}
use Rattle.crash_law.specs.Law.{CrashLaw}
use Rattle.crash_law.proofs.Safe.{the_law}
use Rattle.copy_plan.specs.Plan.{IsPlan}
use Rattle.drive_journal.proofs.Entries.{records_few}
use Rattle.offload_law.specs.Stages.{Offload, Stage, Fresh, Begun, Sealed, IsAt, IsAfter, KeepsRest, progress}
use Rattle.offload_law.specs.Steps.{offload}

-- the changes of an offload are safe: `steps_are_safe`
abbrev pub AllSafe : Type 0
AllSafe = (d : ℕ) (o : Offload) → IsPlan o.plan → (base : Map) → IsSafe (offload d o base)

-- no map is past the list
at_most_all : (o : Offload) (m : Map) (s : Stage) → IsAt o m s → progress o.plan s ≤ suc (suc (length o.plan.files))
at_most_all o m Fresh at = omega arith
at_most_all o m (Begun recs) at = omega (arith, records_few 0 o.plan.files recs at.0.holds.records)
at_most_all o m (Sealed recs finish) at = omega arith

module _ (safe : AllSafe) where
  pub law : (d : ℕ) (o : Offload) → IsPlan o.plan → (base : Map) → CrashLaw (offload d o base)
  law d o plan base = the_law (offload d o base) (safe d o plan base)

  pub crash_prefix : (o : Offload) → IsPlan o.plan → (start : Map) (s : Stage) → IsAt o start s →
      (d : ℕ) (L more : List Event) (end : State (offload d o start)) → IsIn (offload d o start) d start s (L ++ more) end →
      (I : Map) → Left start L d I →
      (steps : ℕ) × IsAfter o I steps × KeepsRest o.plan I start steps
      × (Announced (offload d o start) (progress o.plan s) L ≤ steps) × (steps ≤ suc (Announced (offload d o start) (progress o.plan s) L))
  crash_prefix o plan start s at d L more end is_in I left_I =
      let found = (law d o plan start).prefix start s (record { at = at; rest = record { same = λ q t. refl } }) d L more end is_in I left_I in
      (progress o.plan found.stage, record { stage = found.stage; at = found.at.at; done = refl }, found.at.rest, found.announced, found.at_most_one)

  pub sealed_for_good : (o : Offload) → IsPlan o.plan → (start : Map) (s : Stage) → IsAt o start s →
      (d : ℕ) (L more : List Event) (end : State (offload d o start)) → IsIn (offload d o start) d start s (L ++ more) end →
      suc (suc (length o.plan.files)) ≤ Announced (offload d o start) (progress o.plan s) L →
      (I : Map) → Left start L d I → IsAfter o I (suc (suc (length o.plan.files)))
  sealed_for_good o plan start s at d L more end is_in told I left_I =
      let found = crash_prefix o plan start s at d L more end is_in I left_I in
      let after = found.1 in
      let most = at_most_all o I after.stage after.at in
      record { stage = after.stage; at = after.at; done = omega (arith, after.done, found.3, told, most) }
