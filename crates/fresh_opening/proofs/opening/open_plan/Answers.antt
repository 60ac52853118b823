-- An opening by a plan, by its parts.
use Rattle.std.proofs.Common.{◌∙◌, subst}
use Rattle.copy_plan.specs.Plan.{IsPlan}
use Rattle.fresh_opening.specs.Openings.{PlanOpens}
use Rattle.fresh_opening.proofs.Answering.{handed, plan_ends, plan_fails, plan_opens, plan_true}
use Rattle.fresh_opening.proofs.Gone.{gone_by_looks}
use Rattle.fresh_opening.proofs.Placing.{starts_fit}
use Rattle.fresh_opening.proofs.opening.open_plan.Goals as goal

pub returns-in_err-seen-clause-opens : goal.returns-in_err-seen-clause-opens
returns-in_err-seen-clause-opens g c =
    handed (λ r. PlanOpens c.args.source c.args.first c.args.count c.args.copies c.args.plan c.args.listed r (g.B.Bay.world c.args.bay.now) (g.B.Bay.world c.look_at_each.new.bay)) c.from_residual.result c.in_err-seen.field-0.0 c.from_residual.ensures.1
    (plan_ends c.args.source c.args.first c.args.count c.args.copies c.args.plan c.args.listed c.in_err-seen.field-0.0 c.in_err-seen.ensures)

pub returns-in_err-starts-clause-opens : goal.returns-in_err-starts-clause-opens
returns-in_err-starts-clause-opens g c =
    handed (λ r. PlanOpens c.args.source c.args.first c.args.count c.args.copies c.args.plan c.args.listed r (g.B.Bay.world c.args.bay.now) (g.B.Bay.world c.look_at_each.new.bay)) c.from_residual-in_err-starts.result c.in_err-starts.field-0.0 c.from_residual-in_err-starts.ensures.1
    (plan_fails c.args.source c.args.first c.args.count c.args.copies c.args.plan c.args.listed c.in_ok-seen.seen.items c.in_ok-seen.ensures (subst IsPlan c.plan.view_is c.plan.invariant.plan) c.in_err-starts.field-0.0 c.in_err-starts.ensures)

pub new_order-requires-clause-starts : goal.new_order-requires-clause-starts
new_order-requires-clause-starts g c = starts_fit c.args.plan c.args.first c.args.plan _ c.in_ok-starts.starts.items c.in_ok-starts.ensures

pub returns-clause-opens : goal.returns-clause-opens
returns-clause-opens g c =
    let o = c.new_order.ensures in
    plan_opens c.args.source c.args.first c.args.count c.args.copies c.args.plan c.args.listed c.in_ok-seen.seen.items c.in_ok-seen.ensures (subst IsPlan c.plan.view_is c.plan.invariant.plan) c.in_ok-starts.starts.items c.new_order.result c.in_ok-starts.ensures
    o.source o.copies o.slots o.plan o.listed o.drives

pub returns-clause-true_order : goal.returns-clause-true_order
returns-clause-true_order g c = λ settled has.
    plan_true c.args.source c.args.first c.args.count c.args.plan c.in_ok-seen.seen.items c.in_ok-seen.ensures c.in_ok-starts.starts.items c.new_order.result c.in_ok-starts.ensures
    c.new_order.ensures.source c.new_order.ensures.plan c.new_order.ensures.drives settled has

pub returns-clause-gone : goal.returns-clause-gone
returns-clause-gone g c =
    gone_by_looks c.args.first c.args.count c.requires.few c.in_ok-seen.seen.items c.in_ok-seen.ensures c.new_order.result.drives.items (c.new_order.ensures.drives ∙ c.in_ok-starts.ensures.are)
