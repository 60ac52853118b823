use Rattle.std.proofs.Common.{length, sym, subst}
use Rattle.run_state.specs.declared.phase.Phase.{Phase}
use Rattle.run_state.specs.declared.outcome.RunTurn.{RunTurn}
use Rattle.run_state.specs.Rules.{Answers, CanTurn, IsRun}
use Rattle.run_state.specs.Runs.{starts, turns}
use Rattle.run_state.specs.State.{Ordered}
use Rattle.run_state.specs.Turn.{Acted}
use Rattle.offload_run.specs.Offload.{ordered_of, drives_of, stands_at, turns_left_of}
use Rattle.offload_run.proofs.Lasting.{ready_again}
use Rattle.offload_run.proofs.Nearing.{is_nearer}
use Rattle.offload_run.proofs.offload.Offload.turn.Goals as goal

pub returns-clause-keeps : goal.returns-clause-keeps
returns-clause-keeps g c =
    subst (λ (q : Ordered). IsRun q (stands_at c.act.new.self)) (sym c.act.ensures.same)
    (c.turns_keep_the_rules.ensures (ordered_of c.args.self.now) (record { at = stands_at c.args.self.now; pool = c.args.pool.now; world = g.B.Bay.world c.args.bay.now }) (record { at = stands_at c.act.new.self; pool = c.act.new.pool; world = g.B.Bay.world c.act.new.bay })
    c.requires.keeps (turns starts c.act.ensures.turned))

pub returns-clause-alone : goal.returns-clause-alone
returns-clause-alone g c =
    c.a_turn_calls_its_own.ensures (ordered_of c.args.self.now) (stands_at c.args.self.now) (stands_at c.act.new.self) c.args.pool.now c.act.new.pool (g.B.Bay.world c.args.bay.now) (g.B.Bay.world c.act.new.bay) c.requires.keeps c.act.ensures.turned

pub returns-clause-ready : goal.returns-clause-ready
returns-clause-ready g c =
    let calls = c.a_turn_calls_its_own.ensures (ordered_of c.args.self.now) (stands_at c.args.self.now) (stands_at c.act.new.self) c.args.pool.now c.act.new.pool (g.B.Bay.world c.args.bay.now) (g.B.Bay.world c.act.new.bay) c.requires.keeps c.act.ensures.turned in
    subst (λ (q : Ordered). CanTurn q (stands_at c.act.new.self) c.act.new.pool (g.B.Bay.world c.act.new.bay)) (sym c.act.ensures.same)
    (ready_again (ordered_of c.args.self.now) (stands_at c.args.self.now) (stands_at c.act.new.self) c.args.pool.now c.act.new.pool (g.B.Bay.world c.args.bay.now) (g.B.Bay.world c.act.new.bay) c.requires.ready c.act.ensures.turned
    calls.attached c.act.ensures.pool)

pub returns-clause-left : goal.returns-clause-left
returns-clause-left g c = λ going.
    c.a_turn_is_left_until_the_end.ensures (length (drives_of c.act.new.self).each) c.act.new.self.plan c.act.new.self.phase (subst (λ (r : RunTurn). Answers r c.act.new.self.phase) going c.answer.ensures)

pub returns-clause-nearer : goal.returns-clause-nearer
returns-clause-nearer g c = is_nearer c.answer.result (length (drives_of c.act.new.self).each) c.act.new.self.plan c.act.new.self.phase (turns_left_of c.args.self.now) c.answer.ensures c.act.ensures.nearer

pub returns-clause-idle : goal.returns-clause-idle
returns-clause-idle g c =
    λ ended.
    let t = subst (λ (x : Phase). Acted (ordered_of c.args.self.now) x (stands_at c.args.self.now) (stands_at c.act.new.self) c.args.pool.now c.act.new.pool (g.B.Bay.world c.args.bay.now) (g.B.Bay.world c.act.new.bay)) ended c.act.ensures.turned in
    (t.0, t.1, t.2)
