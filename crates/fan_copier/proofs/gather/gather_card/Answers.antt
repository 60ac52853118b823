use Rattle.std.proofs.Common.{◌≡◌, ◌+◌, ◌-◌, ◌<◌, length, refl, arith}
use Rattle.bay_core.proofs.Runs.{went_none, went_such}
use Rattle.fan_copier.specs.Reads.{OnCard}
use Rattle.fan_copier.proofs.Reading.{tiles_none, read_more, read_ended, read_full, read_cut, card_gave, card_none, card_failed, bytes_more, steady_still, gather_exit}
use Rattle.fan_copier.proofs.gather.gather_card.Goals as goal

pub loop-n-init : goal.loop-n-init
loop-n-init g c = record {
  within = omega arith;
  size = refl;
  went = went_such (λ L none. tiles_none _ _ L none) (went_none _ _);
  steady = λ m steady. refl;
}

pub returns-in_err-got-clause-called : goal.returns-in_err-got-clause-called
returns-in_err-got-clause-called g c =
    let within = c.loop-n-test.true in
    let size : length c.source_read.new.into ≡ length c.loop-n.into - c.loop-n.n = omega arith in
    gather_exit (OnCard c.args.s c.args.path.now) c.args.at _ _ _ c.from_residual.result _ c.from_residual.ensures.1 refl
    (read_cut (OnCard c.args.s c.args.path.now) c.args.at c.loop-n.n c.loop-n.into _ _ within (omega arith) c.loop-n.invariant.went
    (card_failed c.args.s c.args.path.now (c.args.at + c.loop-n.n) c.source_read.new.into _ c.in_err-got.ensures.called))

pub returns-then-got-eq0-clause-called : goal.returns-then-got-eq0-clause-called
returns-then-got-eq0-clause-called g c =
    let within = c.loop-n-test.true in
    let size : length c.source_read.new.into ≡ length c.loop-n.into - c.loop-n.n = omega arith in
    read_ended (OnCard c.args.s c.args.path.now) c.args.at c.loop-n.n c.loop-n.into c.source_read.new.into within size c.loop-n.invariant.went
    (card_none c.args.s c.args.path.now (c.args.at + c.loop-n.n) c.in_ok-got.got c.source_read.new.into c.if-got-eq0.true (omega (arith, within, size)) c.in_ok-got.ensures.called)

pub loop-n-preserved : goal.loop-n-preserved
loop-n-preserved g c =
    let size : length c.source_read.new.into ≡ length c.loop-n.into - c.loop-n.n = omega arith in
    let few = c.in_ok-got.ensures.bound in
    let some : 0 < c.in_ok-got.got = omega (arith, c.if-got-eq0.false) in
    record {
      within = omega (arith, few);
      size = omega (arith, c.loop-n.invariant.size);
      went = read_more (OnCard c.args.s c.args.path.now) c.args.at c.loop-n.n c.in_ok-got.got c.loop-n.into c.source_read.new.into c.loop-n.invariant.within some few size c.loop-n.invariant.went
          (card_gave c.args.s c.args.path.now (c.args.at + c.loop-n.n) c.in_ok-got.got c.source_read.new.into c.in_ok-got.ensures.called);
      steady = λ m steady. bytes_more _ c.args.at c.loop-n.n c.in_ok-got.got c.loop-n.into c.source_read.new.into c.loop-n.invariant.within few size (c.loop-n.invariant.steady m steady)
          (c.in_ok-got.ensures.steady m (steady_still c.args.s m c.loop-n.invariant.went steady)).bytes;
    }

pub returns-clause-called : goal.returns-clause-called
returns-clause-called g c =
    let within = c.loop-n.invariant.within in
    read_full (OnCard c.args.s c.args.path.now) c.args.at c.loop-n.n c.loop-n.into (omega (arith, within, c.loop-n-test.false)) c.loop-n.invariant.went
