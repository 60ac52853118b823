use Rattle.std.proofs.Common.{◌<◌, length, arith}
use Rattle.fan_copier.proofs.Rings.{gave}
use Rattle.fan_copier.proofs.ring.Ring.give_one.Goals as goal

pub returns-in-Some : goal.returns-in-Some
returns-in-Some c =
    let in_range : c.args.place < length c.args.self.now.slots = omega (arith, c.args.self.now.sixteen) in
    gave c.args.place c.args.self.now.slots c.take_out.new.self.slots c.args.pool.now c.give.new.self c.in-Some.slot in_range c.in-Some.ensures.was c.in-Some.ensures.now c.requires.owns c.give.ensures
