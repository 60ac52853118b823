-- An opening that makes its plan, by its parts.
use Rattle.std.proofs.Common.{◌∙◌, ap, map, subst}
use Rattle.copy_plan.specs.Plan.{PlanValue, IsPlan}
use Rattle.fresh_opening.specs.Causes.{refusal_of_card}
use Rattle.fresh_opening.specs.Looks.{sight_by}
use Rattle.fresh_opening.specs.Openings.{Asked, FreshOpens, GivesOfCard}
use Rattle.fresh_opening.proofs.Answering.{handed, card_refused, card_of_card, fresh_ends, fresh_err, plan_refused, starts_behind, opens_behind, fresh_true, looks_of_card, plan_of_card, starts_of_card, of_plan, card_untouched, looks_untouched, moment_after}
use Rattle.fresh_opening.proofs.Gone.{gone_by_opening}
use Rattle.fresh_opening.proofs.Placing.{starts_fit}
use Rattle.fresh_opening.proofs.opening.open_fresh.Goals as goal

pub returns-in_err-inventory-clause-opens : goal.returns-in_err-inventory-clause-opens
returns-in_err-inventory-clause-opens g c =
    let a : Asked = record { name = c.args.name; user = c.args.user; host = c.args.host; kinds = c.args.kinds } in
    let cause = c.in_err-inventory.field-0.0 in
    handed (λ r. FreshOpens c.args.source c.args.drives c.args.copies a r (g.B.Bay.world c.args.bay.now) (g.B.Bay.world c.inventory.new.bay)) c.from_residual.result (refusal_of_card cause) c.from_residual.ensures.1
    (card_refused c.args.source c.args.drives c.args.copies a cause (g.B.Bay.world c.args.bay.now) (g.B.Bay.world c.inventory.new.bay) c.in_err-inventory.ensures.answer)

pub returns-in_err-inventory-clause-of_card : goal.returns-in_err-inventory-clause-of_card
returns-in_err-inventory-clause-of_card g c = λ m steady dated.
    let dates = (g.B.Bay.world c.args.bay.now).attached.card_dates c.args.source in
    let cause = c.in_err-inventory.field-0.0 in
    handed (GivesOfCard m dates) c.from_residual.result (refusal_of_card cause) c.from_residual.ensures.1 (card_of_card m dates cause (c.in_err-inventory.ensures.steady m steady dated))

pub returns-in_err-inventory-clause-untouched : goal.returns-in_err-inventory-clause-untouched
returns-in_err-inventory-clause-untouched g c = card_untouched c.args.source c.args.drives c.in_err-inventory.ensures.untouched

pub returns-in_err-seen-clause-opens : goal.returns-in_err-seen-clause-opens
returns-in_err-seen-clause-opens g c =
    let a : Asked = record { name = c.args.name; user = c.args.user; host = c.args.host; kinds = c.args.kinds } in
    let e = c.in_err-seen.field-0.0 in
    handed (λ r. FreshOpens c.args.source c.args.drives c.args.copies a r (g.B.Bay.world c.args.bay.now) (g.B.Bay.world c.look_at_each.new.bay)) c.from_residual-in_err-seen.result e c.from_residual-in_err-seen.ensures.1
    (fresh_err c.args.source c.args.drives c.args.copies a e (fresh_ends c.args.source c.args.drives c.args.copies a c.in_ok-inventory.inventory e c.in_ok-inventory.ensures.answer c.in_err-seen.ensures))

pub returns-in_err-seen-clause-of_card : goal.returns-in_err-seen-clause-of_card
returns-in_err-seen-clause-of_card g c = λ m steady dated.
    handed (GivesOfCard m ((g.B.Bay.world c.args.bay.now).attached.card_dates c.args.source)) c.from_residual-in_err-seen.result c.in_err-seen.field-0.0 c.from_residual-in_err-seen.ensures.1
    (looks_of_card m ((g.B.Bay.world c.args.bay.now).attached.card_dates c.args.source) 0 c.args.drives c.in_err-seen.field-0.0 c.in_err-seen.ensures)

pub returns-in_err-seen-clause-untouched : goal.returns-in_err-seen-clause-untouched
returns-in_err-seen-clause-untouched g c =
    let l = c.in_err-seen.ensures in
    looks_untouched c.args.source c.args.drives c.in_ok-inventory.ensures.untouched l.untouched

pub returns-in_err-plan-clause-opens : goal.returns-in_err-plan-clause-opens
returns-in_err-plan-clause-opens g c =
    let a : Asked = record { name = c.args.name; user = c.args.user; host = c.args.host; kinds = c.args.kinds } in
    let e = c.in_err-plan.field-0.0 in
    handed (λ r. FreshOpens c.args.source c.args.drives c.args.copies a r (g.B.Bay.world c.args.bay.now) (g.B.Bay.world c.plan_now.new.bay)) c.from_residual-in_err-plan.result e c.from_residual-in_err-plan.ensures.1
    (fresh_err c.args.source c.args.drives c.args.copies a e
    (plan_refused c.args.source c.args.drives c.args.copies a c.in_ok-inventory.inventory c.in_ok-seen.seen.items c.in_ok-inventory.ensures.answer c.in_ok-seen.ensures e c.in_err-plan.ensures))

pub returns-in_err-plan-clause-of_card : goal.returns-in_err-plan-clause-of_card
returns-in_err-plan-clause-of_card g c = λ m steady dated.
    let a : Asked = record { name = c.args.name; user = c.args.user; host = c.args.host; kinds = c.args.kinds } in
    let dates = (g.B.Bay.world c.args.bay.now).attached.card_dates c.args.source in
    let e = c.in_err-plan.field-0.0 in
    handed (GivesOfCard m dates) c.from_residual-in_err-plan.result e c.from_residual-in_err-plan.ensures.1 (plan_of_card m dates a c.in_ok-inventory.inventory e c.in_err-plan.ensures)

pub returns-in_err-plan-clause-untouched : goal.returns-in_err-plan-clause-untouched
returns-in_err-plan-clause-untouched g c =
    let l = c.in_ok-seen.ensures in
    let asked = c.plan_now.ensures in
    moment_after c.args.source c.args.drives asked.started (looks_untouched c.args.source c.args.drives c.in_ok-inventory.ensures.untouched l.untouched) asked.called

pub returns-in_err-starts-clause-opens : goal.returns-in_err-starts-clause-opens
returns-in_err-starts-clause-opens g c =
    let a : Asked = record { name = c.args.name; user = c.args.user; host = c.args.host; kinds = c.args.kinds } in
    let e = c.in_err-starts.field-0.0 in
    let asked = c.in_ok-plan.ensures in
    handed (λ r. FreshOpens c.args.source c.args.drives c.args.copies a r (g.B.Bay.world c.args.bay.now) (g.B.Bay.world c.plan_now.new.bay)) c.from_residual-in_err-starts.result e c.from_residual-in_err-starts.ensures.1
    (fresh_err c.args.source c.args.drives c.args.copies a e
    (starts_behind c.args.source c.args.drives c.args.copies a c.in_ok-inventory.inventory c.in_ok-seen.seen.items c.in_ok-plan.plan asked.started c.in_ok-inventory.ensures.answer c.in_ok-seen.ensures asked.called asked.gives.0
    (subst IsPlan c.plan.view_is c.plan.invariant.plan) e c.in_err-starts.ensures))

pub returns-in_err-starts-clause-of_card : goal.returns-in_err-starts-clause-of_card
returns-in_err-starts-clause-of_card g c = λ m steady dated.
    let dates = (g.B.Bay.world c.args.bay.now).attached.card_dates c.args.source in
    let e = c.in_err-starts.field-0.0 in
    handed (GivesOfCard m dates) c.from_residual-in_err-starts.result e c.from_residual-in_err-starts.ensures.1
    (starts_of_card m dates 0 c.in_ok-plan.plan (map sight_by c.in_ok-seen.seen.items) e c.in_err-starts.ensures)

pub returns-in_err-starts-clause-untouched : goal.returns-in_err-starts-clause-untouched
returns-in_err-starts-clause-untouched g c =
    let l = c.in_ok-seen.ensures in
    let asked = c.plan_now.ensures in
    moment_after c.args.source c.args.drives asked.started (looks_untouched c.args.source c.args.drives c.in_ok-inventory.ensures.untouched l.untouched) asked.called

pub new_order-requires-clause-starts : goal.new_order-requires-clause-starts
new_order-requires-clause-starts g c = starts_fit c.in_ok-plan.plan 0 c.in_ok-plan.plan _ c.in_ok-starts.starts.items c.in_ok-starts.ensures

pub returns-clause-opens : goal.returns-clause-opens
returns-clause-opens g c =
    let a : Asked = record { name = c.args.name; user = c.args.user; host = c.args.host; kinds = c.args.kinds } in
    let o = c.new_order.ensures in
    let asked = c.in_ok-plan.ensures in
    opens_behind c.args.source c.args.drives c.args.copies a c.in_ok-inventory.inventory c.in_ok-seen.seen.items c.in_ok-plan.plan asked.started c.in_ok-inventory.ensures.answer c.in_ok-seen.ensures asked.called asked.gives.0
    (subst IsPlan c.plan.view_is c.plan.invariant.plan) c.in_ok-starts.starts.items c.new_order.result c.in_ok-starts.ensures o.source o.copies o.slots o.plan o.listed o.drives

pub returns-clause-true_order : goal.returns-clause-true_order
returns-clause-true_order g c = λ settled.
    let o = c.new_order.ensures in
    let asked = c.in_ok-plan.ensures in
    let a : Asked = record { name = c.args.name; user = c.args.user; host = c.args.host; kinds = c.args.kinds } in
    fresh_true c.args.source c.args.drives a c.in_ok-inventory.inventory c.in_ok-seen.seen.items c.in_ok-plan.plan asked.started c.in_ok-inventory.ensures.answer c.in_ok-inventory.ensures.untouched c.in_ok-seen.ensures asked.called asked.gives.0
    c.in_ok-starts.starts.items c.new_order.result c.in_ok-starts.ensures o.source o.plan o.drives settled

pub returns-clause-of_card : goal.returns-clause-of_card
returns-clause-of_card g c = λ m steady dated.
    let asked = c.in_ok-plan.ensures in
    of_plan m ((g.B.Bay.world c.args.bay.now).attached.card_dates c.args.source) c.in_ok-inventory.inventory c.new_order.result.plan (ap (λ (p : PlanValue). p.files) (c.new_order.ensures.plan ∙ asked.gives.0)) (c.in_ok-inventory.ensures.steady m steady dated)

pub returns-clause-untouched : goal.returns-clause-untouched
returns-clause-untouched g c =
    let l = c.in_ok-seen.ensures in
    let asked = c.in_ok-plan.ensures in
    moment_after c.args.source c.args.drives asked.started (looks_untouched c.args.source c.args.drives c.in_ok-inventory.ensures.untouched l.untouched) asked.called

pub returns-clause-gone : goal.returns-clause-gone
returns-clause-gone g c =
    let asked = c.in_ok-plan.ensures in
    gone_by_opening c.args.source c.args.drives c.requires.few c.in_ok-inventory.inventory c.in_ok-seen.seen.items asked.started c.in_ok-inventory.ensures.answer c.in_ok-seen.ensures asked.called
    c.new_order.result.drives.items (c.new_order.ensures.drives ∙ c.in_ok-starts.ensures.are)
