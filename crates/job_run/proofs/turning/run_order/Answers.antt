use Rattle.job_run.proofs.Ordered.{can_turn, run_has_end, order_goes}
use Rattle.job_run.proofs.turning.run_order.Goals as goal

pub run_to_end-outcome-requires-clause-ready : goal.run_to_end-outcome-requires-clause-ready
run_to_end-outcome-requires-clause-ready g c =
    let s = c.in-Ok.ensures in
    can_turn c.args.order c.in-Ok.both.0 c.in-Ok.both.1 (g.B.Bay.world c.args.bay.now) s.of s.starts s.free c.requires.can

pub end_run-requires : goal.end_run-requires
end_run-requires g c =
    let s = c.in-Ok.ensures in
    let r = c.run_to_end-outcome in
    run_has_end c.args.order c.in-Ok.both.0 r.new.run c.in-Ok.both.1 r.new.pool (g.B.Bay.world c.args.bay.now) (g.B.Bay.world r.new.bay) s.of s.starts r.ensures.same r.ensures.keeps r.ensures.ended r.ensures.turned
    c.turns_alone.ensures c.ends_have_causes.ensures c.requires.can.listed c.args.drives r.result r.ensures.outcome

pub returns : goal.returns
returns g c =
    let s = c.in-Ok.ensures in
    let r = c.run_to_end-outcome in
    order_goes c.args.order c.in-Ok.both.0 r.new.run c.in-Ok.both.1 r.new.pool (g.B.Bay.world c.args.bay.now) (g.B.Bay.world r.new.bay) s.of s.starts r.ensures.same r.ensures.keeps r.ensures.ended r.ensures.turned
    c.turns_alone.ensures c.ends_have_causes.ensures c.requires.can.listed c.args.drives r.result r.ensures.outcome c.end_run.result (g.B.Bay.world c.end_run.new.bay) c.end_run.ensures
