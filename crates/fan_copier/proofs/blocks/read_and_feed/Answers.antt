use Rattle.std.proofs.Common.{◌≡◌, length, drop, arith, ap}
use Rattle.std.specs.Prelude.{Ok}
use Rattle.std.proofs.lemmas.List.{length-take-le}
use Rattle.fan_copier.specs.Reads.{OnCard}
use Rattle.fan_copier.proofs.Reading.{gather_exit, gather_same, front_part}
use Rattle.fan_copier.proofs.blocks.read_and_feed.Goals as goal

pub returns-in_err-n-clause-called : goal.returns-in_err-n-clause-called
returns-in_err-n-clause-called g c =
    let size : length c.gather_card.new.into ≡ c.args.want = omega (arith, length-take-le c.args.want c.args.block.now c.requires.want) in
    gather_exit (OnCard c.args.s c.args.path.now) c.args.at c.gather_card.new.into _ _ c.from_residual.result _ c.from_residual.ensures.1 (ap length (front_part c.args.want c.gather_card.new.into (drop c.args.want c.args.block.now) size)) c.in_err-n.ensures.called

pub returns-then-n-want-clause-called : goal.returns-then-n-want-clause-called
returns-then-n-want-clause-called g c =
    let size : length c.gather_card.new.into ≡ c.args.want = omega (arith, length-take-le c.args.want c.args.block.now c.requires.want) in
    gather_same (OnCard c.args.s c.args.path.now) c.args.at c.gather_card.new.into _ (Ok c.in_ok-n.n) _ (front_part c.args.want c.gather_card.new.into (drop c.args.want c.args.block.now) size) c.in_ok-n.ensures.called

pub returns-else-n-want-clause-called : goal.returns-else-n-want-clause-called
returns-else-n-want-clause-called g c =
    let size : length c.gather_card.new.into ≡ c.args.want = omega (arith, length-take-le c.args.want c.args.block.now c.requires.want) in
    gather_same (OnCard c.args.s c.args.path.now) c.args.at c.gather_card.new.into _ (Ok c.in_ok-n.n) _ (front_part c.args.want c.gather_card.new.into (drop c.args.want c.args.block.now) size) c.in_ok-n.ensures.called
