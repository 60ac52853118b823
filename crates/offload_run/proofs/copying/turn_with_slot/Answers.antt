use Rattle.fan_copier.specs.Copying.{live_of}
use Rattle.offload_run.proofs.Slots.{some_free, some_live, slot_out, slot_pool, copy_turn}
use Rattle.offload_run.proofs.copying.turn_with_slot.Goals as goal

pub unreachable-requires : goal.unreachable-requires
unreachable-requires g c = some_free c.args.copy.now _ c.requires.free c.in-None.ensures.none.1

pub returns-clause-pool : goal.returns-clause-pool
returns-clause-pool g c = λ i. slot_pool c.args.copy.now c.turn-came.new.self _ _ _ _ _ c.requires.owns c.in-Some.ensures.some c.turn-came.ensures.pool c.give.ensures i

pub returns-clause-turned : goal.returns-clause-turned
returns-clause-turned g c = λ bytes copying.
    let some = some_live (live_of c.args.copy.now) c.requires.some in
    copy_turn _ _ _ _ _ _ _ _ _ _ bytes _ c.in-Some.ensures.some c.give.ensures (slot_out c.args.copy.now c.turn-came.new.self _ _ _ _ _ c.requires.owns c.in-Some.ensures.some c.turn-came.ensures.pool c.give.ensures) (λ there. c.turn-came.ensures.turned some.0 some.1 bytes there) copying
