use Rattle.std.proofs.Common.{Bool, List, sym, subst}
use Rattle.fan_core.specs.Next.{IsWindow}
use Rattle.fan_core.proofs.Keeps.{keeps_drop}
use Rattle.fan_core.proofs.window.Window.drop_drive.Goals as goal

pub invariant_of-self : goal.invariant_of-self
invariant_of-self c =
    let counts = c.args.self.now.counts in
    record { keeps = subst (λ (live : List Bool). IsWindow (record counts { live = live })) (sym c.without-self.ensures) (keeps_drop counts c.args.self.now.keeps c.args.d) }
