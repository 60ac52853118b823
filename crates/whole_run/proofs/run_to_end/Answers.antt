use Rattle.std.proofs.Common.{◌∙◌, refl, subst}
use Rattle.run_state.specs.Runs.{still, turned}
use Rattle.run_state.specs.State.{Ordered}
use Rattle.run_state.specs.Turn.{Turned}
use Rattle.offload_run.specs.Offload.{stands_at}
use Rattle.offload_run.proofs.Slots.{pool_still, pool_then}
use Rattle.whole_run.proofs.run_to_end.Goals as goal

pub loop-run-init : goal.loop-run-init
loop-run-init g c = record {
  same = refl;
  keeps = c.requires.keeps;
  ready = c.requires.ready;
  stocked = c.requires.stocked;
  pool = pool_still _ _ c.requires.ready.owns;
  turned = still;
}

pub loop-run-preserved : goal.loop-run-preserved
loop-run-preserved g c =
    let e = c.turn.ensures in
    let i = c.loop-run.invariant in
    record {
      same = e.same ∙ i.same;
      keeps = e.keeps;
      ready = e.ready;
      stocked = e.stocked;
      pool = pool_then _ _ _ _ _ _ i.pool e.pool;
      turned = turned i.turned (subst (λ (o : Ordered). Turned o (stands_at c.loop-run.run) (stands_at c.turn.new.self) c.loop-run.pool c.turn.new.pool (g.B.Bay.world c.loop-run.bay) (g.B.Bay.world c.turn.new.bay)) i.same e.turned);
    }

pub returns-in-Ended-clause-turned : goal.returns-in-Ended-clause-turned
returns-in-Ended-clause-turned g c =
    let i = c.loop-run.invariant in
    turned i.turned (subst (λ (o : Ordered). Turned o (stands_at c.loop-run.run) (stands_at c.turn.new.self) c.loop-run.pool c.turn.new.pool (g.B.Bay.world c.loop-run.bay) (g.B.Bay.world c.turn.new.bay)) i.same c.turn.ensures.turned)
