use Rattle.std.proofs.Common.{◌≡◌, List, Bool, true, ap, sym, ◌∙◌, slice_set}
use Rattle.fan_core.specs.Flags.{has}
use Rattle.first_file.specs.Copied.{just}
use Rattle.first_file.proofs.Parting.{just_there, fresh_parts, in_none, none_taken, spares}
use Rattle.first_file.proofs.copying.copy_file.Goals as goal

pub begin-copy-requires-clause-drives : goal.begin-copy-requires-clause-drives
begin-copy-requires-clause-drives g c =
    let set : c.with-drives.result ≡ just c.args.d = c.with-drives.ensures ∙ ap (λ (l : List Bool). slice_set l c.args.d true) c.none.ensures in
    (c.args.d, ap (λ (l : List Bool). has l c.args.d) set ∙ just_there c.args.d c.requires.few)

pub copy_to_end-came-requires-clause-lent : goal.copy_to_end-came-requires-clause-lent
copy_to_end-came-requires-clause-lent g c = (c.requires.lent, none_taken c.begin-copy.result.ring.slots c.begin-copy.ensures.none c.args.slot.now)

pub copy_to_end-came-requires-clause-some : goal.copy_to_end-came-requires-clause-some
copy_to_end-came-requires-clause-some g c =
    let set : c.with-drives.result ≡ just c.args.d = c.with-drives.ensures ∙ ap (λ (l : List Bool). slice_set l c.args.d true) c.none.ensures in
    (c.args.d, ap (λ (l : List Bool). has l c.args.d) (c.begin-copy.ensures.is.2 ∙ set) ∙ just_there c.args.d c.requires.few)

pub copy_to_end-came-requires-clause-fresh : goal.copy_to_end-came-requires-clause-fresh
copy_to_end-came-requires-clause-fresh g c =
    let set : c.with-drives.result ≡ just c.args.d = c.with-drives.ensures ∙ ap (λ (l : List Bool). slice_set l c.args.d true) c.none.ensures in
    c.begin-copy.ensures.copying c.args.pool.now (g.B.Bay.world c.args.bay.now)
    (λ e live out. fresh_parts c.args.d (g.B.Bay.world c.args.bay.now) c.requires.no_part e (ap (λ (l : List Bool). has l e) (sym set) ∙ live))
    (λ e kept. absurd (in_none c.none-2.result e c.none-2.ensures kept))

pub returns-clause-pool : goal.returns-clause-pool
returns-clause-pool g c = spares _ _ _ _ _ _ c.begin-copy.ensures.none c.copy_to_end-came.ensures.pool c.end.ensures
