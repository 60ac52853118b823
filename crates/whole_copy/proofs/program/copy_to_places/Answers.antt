use Rattle.std.proofs.Common.{List, Bool, ap, sym, ◌∙◌}
use Rattle.fan_core.specs.Flags.{has}
use Rattle.whole_copy.proofs.Attaching.{untold_still, untold_no_part, none_taken, none_there}
use Rattle.whole_copy.proofs.program.copy_to_places.Goals as goal

pub attach_drives-requires-clause-untold : goal.attach_drives-requires-clause-untold
attach_drives-requires-clause-untold g c = untold_still _ _ c.in-Ok-attach_source.ensures.told c.requires.untold

pub copy_whole-ended-requires-clause-compare : goal.copy_whole-ended-requires-clause-compare
copy_whole-ended-requires-clause-compare g c = (c.in-Some.ensures.some.lent, none_taken c.begin-copy.result.ring.slots c.begin-copy.ensures.none c.in-Some.slot)

pub copy_whole-ended-requires-clause-fresh : goal.copy_whole-ended-requires-clause-fresh
copy_whole-ended-requires-clause-fresh g c = c.begin-copy.ensures.copying c.take.new.self (g.B.Bay.world c.attach_drives.new.bay) (λ d live out. untold_no_part (g.B.Bay.world c.attach_drives.new.bay) d c.in_ok-drives.ensures.untold)
    (λ d kept. absurd (none_there 8 d (ap (λ (set : List Bool). has set d) (sym c.none.ensures) ∙ kept)))

pub give-requires : goal.give-requires
give-requires g c =
    let out = none_taken c.begin-copy.result.ring.slots c.begin-copy.ensures.none c.in-Some.slot in
    let pool = c.copy_whole-ended.ensures.pool in
    (c.end.ensures.spares c.in-Some.slot (pool.spares c.in-Some.slot c.in-Some.ensures.some.lent out).0 (pool.out c.in-Some.slot c.in-Some.ensures.some.lent out)).0
