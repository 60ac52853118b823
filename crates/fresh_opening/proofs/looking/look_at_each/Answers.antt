-- One drive more at each turn; an error ends the looks.
use Rattle.std.proofs.Common.{[], rules, refl, arith}
use Rattle.fresh_opening.specs.declared.error.FreshError.TheVariants.{Memory}
use Rattle.fresh_opening.specs.Looks.{LooksEnd}
use Rattle.fresh_opening.proofs.Joining.{before_first, wanting_there, ends_there, next_there, none_behind, done_behind, wanting_next, err_handed}
use Rattle.fresh_opening.proofs.looking.look_at_each.Goals as goal

pub returns-in_err-line : goal.returns-in_err-line
returns-in_err-line g c =
    err_handed _ (λ e. LooksEnd c.args.first c.args.count e (g.B.Bay.world c.args.bay.now) (g.B.Bay.world c.args.bay.now)) c.from_residual.result Memory c.from_residual.ensures.1
    (wanting_there c.args.first c.args.count c.args.first [] (before_first c.args.first c.args.count [] refl (g.B.Bay.world c.args.bay.now)) (omega arith))

pub loop-d-init : goal.loop-d-init
loop-d-init g c = before_first c.args.first c.args.count c.new-seen.result.items c.new-seen.ensures.items (g.B.Bay.world c.args.bay.now)

pub returns-in_err-look_aloud : goal.returns-in_err-look_aloud
returns-in_err-look_aloud g c =
    err_handed _ (λ e. LooksEnd c.args.first c.args.count e (g.B.Bay.world c.args.bay.now) (g.B.Bay.world c.look_aloud.new.bay)) c.from_residual-in_err-look_aloud.result c.in_err-look_aloud.field-0.0 c.from_residual-in_err-look_aloud.ensures.1
    (ends_there c.args.first c.args.count c.loop-d.d c.loop-d.seen.items c.loop-d.invariant (search rules) c.requires.few c.in_err-look_aloud.field-0.0 c.in_err-look_aloud.ensures)

pub returns-in_err-push : goal.returns-in_err-push
returns-in_err-push g c =
    err_handed _ (λ e. LooksEnd c.args.first c.args.count e (g.B.Bay.world c.args.bay.now) (g.B.Bay.world c.look_aloud.new.bay)) c.from_residual-in_err-push.result Memory c.from_residual-in_err-push.ensures.1
    (wanting_next c.args.first c.args.count c.loop-d.d c.loop-d.seen.items c.loop-d.invariant (search rules) c.in_ok-look_aloud.field-0 c.in_ok-look_aloud.ensures)

pub loop-d-preserved : goal.loop-d-preserved
loop-d-preserved g c = next_there c.args.first c.args.count c.loop-d.d c.loop-d.seen.items c.loop-d.invariant (search rules) c.in_ok-look_aloud.field-0 c.push.new.self.items c.in_ok-look_aloud.ensures c.in_ok-push.ensures.items

pub returns-then-all_dropped : goal.returns-then-all_dropped
returns-then-all_dropped g c = none_behind c.args.first c.args.count c.loop-d.d c.loop-d.seen.items c.loop-d.invariant (search rules) c.deref.result.now c.deref.ensures.value c.if-all_dropped.ensures

pub returns : goal.returns
returns g c = done_behind c.args.first c.args.count c.loop-d.d c.loop-d.seen.items c.loop-d.invariant (search rules) c.deref.result.now c.deref.ensures.value c.if-all_dropped.ensures
