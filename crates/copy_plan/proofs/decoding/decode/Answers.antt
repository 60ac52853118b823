use Rattle.std.proofs.Common.{◌≡◌, length}
use Rattle.std.specs.Prelude.{Ok, Err, MatchResult, IfErr}
use Rattle.copy_plan.specs.declared.decoding.PlanError.TheVariants.{Memory}
use Rattle.copy_plan.specs.Fields.{PlanFault, plan_code}
use Rattle.copy_plan.specs.Decoding.{Faults, PlanStands, IsNoPlan}
use Rattle.copy_plan.proofs.Whole.{read_only, fault_memory, fault_no_plan}
use Rattle.copy_plan.proofs.decoding.decode.Goals as goal

pub returns-clause-only : goal.returns-clause-only
returns-clause-only c = λ p rest plan is.
    elim c.read_plan.result as (λ r. MatchResult r (λ d. PlanStands c.args.bytes.now d.plan d.used) (Faults (PlanFault c.args.bytes.now)) → MatchResult r (λ d. (d.plan ≡ p) × (d.used ≡ length (plan_code p))) (λ e. e ≡ Memory)) [
      | Ok d ↦ λ stands. read_only c.args.bytes.now d.plan d.used stands p rest plan is
      | Err e ↦ λ fault. fault_memory c.args.bytes.now e p rest fault plan is
    ] c.read_plan.ensures

pub returns-clause-fault : goal.returns-clause-fault
returns-clause-fault c =
    elim c.read_plan.result as (λ r. MatchResult r (λ d. PlanStands c.args.bytes.now d.plan d.used) (Faults (PlanFault c.args.bytes.now)) → IfErr r (Faults (λ at. PlanFault c.args.bytes.now at × IsNoPlan c.args.bytes.now))) [
      | Ok d ↦ λ stands. tt
      | Err e ↦ λ fault. fault_no_plan c.args.bytes.now e fault
    ] c.read_plan.ensures
