use Rattle.std.proofs.Common.{ℕ, ◌+◌, ◌<◌, length, take, refl, sym, ◌∙◌, ap, arith}
use Rattle.std.specs.Prelude.{if◌then◌else◌}
use Rattle.std.proofs.lemmas.List.{length-take}
use Rattle.fan_copier.specs.Ring.{taken}
use Rattle.fan_copier.proofs.Rings.{taken_few, taken_next}
use Rattle.fan_copier.proofs.ring.Ring.held.Goals as goal
use Rattle.fan_copier.proofs.ring.Ring.held.Goals.{then-is_some, else-is_some}

pub overflow_add-held : goal.overflow_add-held
overflow_add-held c =
    let count = c.loop-slot.invariant.held in
    let few = taken_few (take c.loop-slot.slot-index c.args.self.now.slots) in
    let short = length-take c.loop-slot.slot-index c.args.self.now.slots in
    let long = c.type_inv.slot-items in
    omega (arith, count, few, short, long)

pub loop-slot-preserved : goal.loop-slot-preserved
loop-slot-preserved c =
    let low : c.loop-slot.slot-index < length c.args.self.now.slots = let long = c.type_inv.slot-items in let test = c.loop-slot-test.true in omega (arith, long, test) in
    let next = taken_next c.args.self.now.slots c.loop-slot.slot-index c.slot-item.result c.is_some.result low c.is_some.ensures in
    let count = c.loop-slot.invariant.held in
    record {
      held = elim c.if-is_some.branch [
        | then-is_some w ↦ w.held-is ∙ ap (λ (n : ℕ). n + 1) count ∙ sym (next ∙ ap (λ b. if b then taken (take c.loop-slot.slot-index c.args.self.now.slots) + 1 else taken (take c.loop-slot.slot-index c.args.self.now.slots)) w.if-is_some.true)
        | else-is_some w ↦ w.held-is ∙ count ∙ sym (next ∙ ap (λ b. if b then taken (take c.loop-slot.slot-index c.args.self.now.slots) + 1 else taken (take c.loop-slot.slot-index c.args.self.now.slots)) w.if-is_some.false)
      ];
      same = refl;
    }
