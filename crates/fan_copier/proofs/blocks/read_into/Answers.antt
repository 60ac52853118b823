use Rattle.std.proofs.Common.{take, ap, get_or-set_same, []}
use Rattle.fan_copier.specs.Reads.{OnCard}
use Rattle.fan_copier.proofs.Reading.{gather_same}
use Rattle.fan_copier.proofs.blocks.read_into.Goals as goal

pub returns-clause-called : goal.returns-clause-called
returns-clause-called g c =
    let there = get_or-set_same c.args.pool.now.blocks c.args.slot.now c.read_and_feed.new.block [] c.bytes_mut.ensures.there in
    gather_same (OnCard c.args.s c.args.path.now) c.args.at (take c.args.want c.read_and_feed.new.block) _ _ _ (ap (take c.args.want) there) c.read_and_feed.ensures.called
