use Rattle.std.proofs.Common.{◌≡◌, ◌<◌, length, arith, ap, ◌∙◌}
use Rattle.std.specs.Prelude.{None, is_some}
use Rattle.std.proofs.lemmas.List.{get_or_default}
use Rattle.fan_copier.specs.Ring.{cell}
use Rattle.fan_copier.proofs.Rings.{readied, none_at}
use Rattle.fan_copier.proofs.ring.Ring.ready.Goals as goal

pub returns-then-is_none : goal.returns-then-is_none
returns-then-is_none c =
    let in_range : c.args.place < length c.args.self.now.slots = omega (arith, c.args.self.now.sixteen) in
    let same = get_or_default c.args.self.now.slots c.args.place None c.index-self-place.result in_range in
    let none : cell c.args.self.now.slots c.args.place ≡ None = none_at _ (ap is_some same ∙ c.if-is_none.ensures) in
    readied c.args.place c.args.self.now.slots c.args.pool.now c.take.new.self c.take.result in_range none c.requires.owns (c.requires.room none) c.take.ensures.none c.take.ensures.some
