use Rattle.std.proofs.Common.{arith, sym, ◌∙◌}
use Rattle.fan_core.specs.Next.{waiting}
use Rattle.fan_core.proofs.Rules.{lowest_at, lowest_none}
use Rattle.fan_core.proofs.Keeps.{length-waiting}
use Rattle.fan_core.proofs.window.Window.lowest_waiting.Goals as goal

pub returns-then-is_waiting : goal.returns-then-is_waiting
returns-then-is_waiting c = sym (lowest_at (waiting c.args.self.now.counts) c.loop-d.d (sym c.is_waiting.ensures ∙ c.if-is_waiting.true) c.loop-d.invariant)

pub returns : goal.returns
returns c =
    let counts = c.args.self.now.counts in
    let size = length-waiting counts c.args.self.now.keeps in
    sym (lowest_none (waiting counts) (λ d below. c.loop-d.invariant d (omega (arith, below, size))))
