use Rattle.std.proofs.Common.{refl, ◌∙◌}
use Rattle.fan_copier.proofs.Rings.{keeps_then, keeps_none}
use Rattle.first_file.proofs.Turning.{at_begin, all_touches, goes_on, ends_well, live_still, drive_rose, card_rose, other_length}
use Rattle.first_file.proofs.copying.copy_to_end.Goals as goal

pub loop-triple-init : goal.loop-triple-init
loop-triple-init g c = record {
  way = at_begin c.args.path.now c.args.copy.now c.args.pool.now (g.B.Bay.world c.args.bay.now) c.requires.fresh;
  pool = keeps_none _ _ _ c.requires.owns c.requires.lent.1;
  slots = refl;
}

pub loop-triple-preserved : goal.loop-triple-preserved
loop-triple-preserved g c =
    let i = c.loop-triple.invariant in
    let e = c.in-Going.ensures in
    let some = c.requires.some in
    let t = e.turned some.0 (live_still _ _ _ _ _ _ (g.B.Bay.world c.turn.new.bay) _ _ i.way some.0 some.1) i.way.bytes i.way.copying in
    record {
      way = goes_on _ _ _ _ _ _ _ _ _ _ _ i.way e.touches e.same.0 e.same.1 e.go_on t;
      pool = keeps_then _ _ _ _ _ _ _ i.pool e.pool;
      slots = e.same.2 ∙ i.slots;
    }

pub returns-in-Copied-clause-touches : goal.returns-in-Copied-clause-touches
returns-in-Copied-clause-touches g c = all_touches _ _ _ _ _ _ _ _ _ c.loop-triple.invariant.way c.in-Copied.ensures.touches

pub returns-in-Copied-clause-copied : goal.returns-in-Copied-clause-copied
returns-in-Copied-clause-copied g c =
    let i = c.loop-triple.invariant in
    let e = c.in-Copied.ensures in
    let some = c.requires.some in
    let t = e.turned some.0 (live_still _ _ _ _ _ _ (g.B.Bay.world c.turn.new.bay) _ _ i.way some.0 some.1) i.way.bytes i.way.copying in
    λ d live. ends_well _ _ _ _ _ _ _ _ _ _ _ i.way c.in-Copied.triple t d live

pub returns-in-Dropped-clause-touches : goal.returns-in-Dropped-clause-touches
returns-in-Dropped-clause-touches g c = all_touches _ _ _ _ _ _ _ _ _ c.loop-triple.invariant.way c.in-Dropped.ensures.touches

pub returns-in-Dropped-clause-cause : goal.returns-in-Dropped-clause-cause
returns-in-Dropped-clause-cause g c =
    let i = c.loop-triple.invariant in
    let e = c.in-Dropped.ensures in
    let some = c.requires.some in
    let t = e.turned some.0 (live_still _ _ _ _ _ _ (g.B.Bay.world c.turn.new.bay) _ _ i.way some.0 some.1) i.way.bytes i.way.copying in
    drive_rose _ _ _ _ _ _ (g.B.Bay.world c.turn.new.bay) _ _ i.way c.in-Dropped.d e.go_on.0 t.came.0

pub returns-in-SourceFailed-clause-touches : goal.returns-in-SourceFailed-clause-touches
returns-in-SourceFailed-clause-touches g c = all_touches _ _ _ _ _ _ _ _ _ c.loop-triple.invariant.way c.in-SourceFailed.ensures.touches

pub returns-in-SourceFailed-clause-cause : goal.returns-in-SourceFailed-clause-cause
returns-in-SourceFailed-clause-cause g c =
    let i = c.loop-triple.invariant in
    let e = c.in-SourceFailed.ensures in
    let some = c.requires.some in
    let t = e.turned some.0 (live_still _ _ _ _ _ _ (g.B.Bay.world c.turn.new.bay) _ _ i.way some.0 some.1) i.way.bytes i.way.copying in
    card_rose _ _ _ _ _ _ (g.B.Bay.world c.turn.new.bay) _ _ i.way t.came

pub returns-in-Changed-clause-touches : goal.returns-in-Changed-clause-touches
returns-in-Changed-clause-touches g c = all_touches _ _ _ _ _ _ _ _ _ c.loop-triple.invariant.way c.in-Changed.ensures.touches

pub returns-in-Changed-clause-cause : goal.returns-in-Changed-clause-cause
returns-in-Changed-clause-cause g c =
    let i = c.loop-triple.invariant in
    let e = c.in-Changed.ensures in
    let some = c.requires.some in
    let t = e.turned some.0 (live_still _ _ _ _ _ _ (g.B.Bay.world c.turn.new.bay) _ _ i.way some.0 some.1) i.way.bytes i.way.copying in
    other_length _ _ _ _ _ _ (g.B.Bay.world c.turn.new.bay) _ _ i.way _ _ _ c.in-Changed.listed c.in-Changed.read t.stands

pub unreachable-requires : goal.unreachable-requires
unreachable-requires g c =
    let i = c.loop-triple.invariant in
    let e = c.in-NoDrive.ensures in
    let some = c.requires.some in
    let t = e.turned some.0 (live_still _ _ _ _ _ _ (g.B.Bay.world c.turn.new.bay) _ _ i.way some.0 some.1) i.way.bytes i.way.copying in
    t.came
