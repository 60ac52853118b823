use Rattle.std.proofs.Common.{length, arith, ap, sym, ◌∙◌}
use Rattle.std.specs.Prelude.{Some, None}
use Rattle.fan_core.specs.Flags.{lowest}
use Rattle.fan_core.proofs.Rules.{lowest_at, lowest_none, lowest_none_exactly}
use Rattle.fan_core.proofs.drives.Drives.lowest.Goals as goal

pub returns-then-flag : goal.returns-then-flag
returns-then-flag c =
    let found = sym (ap lowest (sym c.self.view_is) ∙ lowest_at c.self.inside.flags c.loop-d.d c.if-flag.true c.loop-d.invariant) in
    record { lowest = found; none = lowest_none_exactly c.args.self.now (Some c.loop-d.d) (sym (ap length c.self.view_is) ∙ c.self.invariant) found }

pub returns : goal.returns
returns c =
    let found = sym (ap lowest (sym c.self.view_is) ∙ lowest_none c.self.inside.flags (λ k below. c.loop-d.invariant k (omega (arith, below)))) in
    record { lowest = found; none = lowest_none_exactly c.args.self.now None (sym (ap length c.self.view_is) ∙ c.self.invariant) found }
