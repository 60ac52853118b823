use Rattle.std.proofs.Common.{List, Bool, ap, sym, subst, refl, ◌∙◌}
use Rattle.bay_core.specs.Replay.{Drive}
use Rattle.bay_core.specs.World.{Rose, Steady}
use Rattle.fan_core.specs.Flags.{has}
use Rattle.fan_core.proofs.Keeps.{still_live}
use Rattle.fan_copier.specs.Copying.{standing}
use Rattle.fan_copier.specs.declared.turn.Turn.TheVariants.{Going, Dropped}
use Rattle.fan_copier.proofs.Leaving.{copy_leaves}
use Rattle.fan_copier.proofs.Reading.{steady_still}
use Rattle.fan_copier.proofs.Rings.{keeps_then, keeps_none}
use Rattle.fan_copier.specs.Follows.{given_in}
use Rattle.fan_copier.proofs.Following.{some_live, dropped_that}
use Rattle.whole_copy.proofs.Turned.{so_far_none, so_far_more, turn_stands, turn_calls, turn_touches, all_touches, finish}
use Rattle.whole_copy.proofs.copying.copy_whole.Goals as goal

pub loop-ended-init : goal.loop-ended-init
loop-ended-init g c = record {
  far = so_far_none c.args.path.now c.args.copy.now c.args.pool.now (g.B.Bay.world c.args.bay.now) c.requires.fresh;
  pool = keeps_none c.args.compare.now c.args.copy.now.ring.slots c.args.pool.now c.requires.owns c.requires.compare.1;
  slots = refl;
}

pub loop-ended-preserved-in-Going : goal.loop-ended-preserved-in-Going
loop-ended-preserved-in-Going g c =
    let start = c.args.copy.now in
    let old = c.loop-ended.copy in
    let new = c.turn.new.self in
    let far = c.loop-ended.invariant.far in
    let e = c.in-Going.ensures in
    let some = some_live old.window.counts.live (λ none. cc ((e.idle none).0)) in
    let t = e.turned some.0 some.1 (given_in far.turns) far.copying in
    record {
      far = so_far_more start.source c.args.path.now start.size (standing start) (g.B.Bay.world c.args.bay.now) (g.B.Bay.world c.loop-ended.bay) (g.B.Bay.world c.turn.new.bay) old new c.loop-ended.pool c.turn.new.pool Going far t.pick t.given
          (turn_stands start.source c.args.path.now start.size (standing start) (g.B.Bay.world c.args.bay.now) (g.B.Bay.world c.loop-ended.bay) (g.B.Bay.world c.turn.new.bay) old new c.loop-ended.pool c.turn.new.pool Going far t)
          (turn_calls start.source c.args.path.now start.size (standing start) (g.B.Bay.world c.args.bay.now) (g.B.Bay.world c.loop-ended.bay) (g.B.Bay.world c.turn.new.bay) old new c.loop-ended.pool c.turn.new.pool Going far t)
          (turn_touches start.source c.args.path.now start.size (standing start) (g.B.Bay.world c.args.bay.now) (g.B.Bay.world c.loop-ended.bay) (g.B.Bay.world c.turn.new.bay) old c.loop-ended.pool far e.touches)
          t.card tt (e.same.0 ∙ far.source) (e.same.1 ∙ far.size_is) e.nearer (λ d live. ap (λ (set : List Bool). has set d) (sym e.go_on) ∙ live) (λ d live out. absurd (cc (sym live ∙ ap (λ (set : List Bool). has set d) (sym e.go_on) ∙ out))) t.came;
      pool = keeps_then c.args.compare.now start.ring.slots old.ring.slots new.ring.slots c.args.pool.now c.loop-ended.pool c.turn.new.pool c.loop-ended.invariant.pool e.pool;
      slots = e.same.2 ∙ c.loop-ended.invariant.slots;
    }

pub loop-ended-preserved : goal.loop-ended-preserved
loop-ended-preserved g c =
    let start = c.args.copy.now in
    let old = c.loop-ended.copy in
    let new = c.turn.new.self in
    let d = c.in-Dropped.d in
    let far = c.loop-ended.invariant.far in
    let e = c.in-Dropped.ensures in
    let some = some_live old.window.counts.live (λ none. cc ((e.idle none).0)) in
    let t = e.turned some.0 some.1 (given_in far.turns) far.copying in
    record {
      far = so_far_more start.source c.args.path.now start.size (standing start) (g.B.Bay.world c.args.bay.now) (g.B.Bay.world c.loop-ended.bay) (g.B.Bay.world c.turn.new.bay) old new c.loop-ended.pool c.turn.new.pool (Dropped d) far t.pick t.given
          (turn_stands start.source c.args.path.now start.size (standing start) (g.B.Bay.world c.args.bay.now) (g.B.Bay.world c.loop-ended.bay) (g.B.Bay.world c.turn.new.bay) old new c.loop-ended.pool c.turn.new.pool (Dropped d) far t)
          (turn_calls start.source c.args.path.now start.size (standing start) (g.B.Bay.world c.args.bay.now) (g.B.Bay.world c.loop-ended.bay) (g.B.Bay.world c.turn.new.bay) old new c.loop-ended.pool c.turn.new.pool (Dropped d) far t)
          (turn_touches start.source c.args.path.now start.size (standing start) (g.B.Bay.world c.args.bay.now) (g.B.Bay.world c.loop-ended.bay) (g.B.Bay.world c.turn.new.bay) old c.loop-ended.pool far e.touches)
          t.card tt (e.same.0 ∙ far.source) (e.same.1 ∙ far.size_is) e.nearer (λ x live. (still_live old.window.counts.live d x (ap (λ (set : List Bool). has set x) (sym e.go_on.1) ∙ live)).0)
          (λ x live out. subst (λ y. Rose ((g.B.Bay.world c.loop-ended.bay).faults (Drive y)) ((g.B.Bay.world c.turn.new.bay).faults (Drive y))) (sym (dropped_that old.window.counts.live d x live (ap (λ (set : List Bool). has set x) (sym e.go_on.1) ∙ out))) t.came.0) t.came.1;
      pool = keeps_then c.args.compare.now start.ring.slots old.ring.slots new.ring.slots c.args.pool.now c.loop-ended.pool c.turn.new.pool c.loop-ended.invariant.pool e.pool;
      slots = e.same.2 ∙ c.loop-ended.invariant.slots;
    }

pub returns-in_default : goal.returns-in_default
returns-in_default g c =
    let start = c.args.copy.now in
    let old = c.loop-ended.copy in
    let new = c.turn.new.self in
    let far = c.loop-ended.invariant.far in
    let e = c.turn.ensures in
    let w0 = g.B.Bay.world c.args.bay.now in
    let w1 = g.B.Bay.world c.loop-ended.bay in
    let w2 = g.B.Bay.world c.turn.new.bay in
    record {
      ended = finish c.args.path.now start w0 w1 w2 old new c.loop-ended.pool c.turn.new.pool c.turn.result far c.in_default.not-Going c.in_default.not-Dropped e.no_drive e.idle e.go_on e.touches e.turned;
      pool = keeps_then c.args.compare.now start.ring.slots old.ring.slots new.ring.slots c.args.pool.now c.loop-ended.pool c.turn.new.pool c.loop-ended.invariant.pool e.pool;
      steady = λ m steady size changed. e.steady m (subst (λ n. Steady w1 n m) (sym far.source) (steady_still start.source m far.touches steady)) (size ∙ sym far.size_is) changed;
      leaves = λ d. copy_leaves start.source c.args.path.now d (all_touches start.source c.args.path.now start.size (standing start) w0 w1 w2 old c.loop-ended.pool far e.touches);
    }
