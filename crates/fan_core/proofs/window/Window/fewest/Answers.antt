use Rattle.std.proofs.Common.{arith, add-one, sym, ap, ◌∙◌, cond, ◌<◌, take, length, slice_index, min, ℕ, Bool}
use Rattle.fan_core.specs.Next.{fewest}
use Rattle.fan_core.proofs.Rules.{fewest-take}
use Rattle.fan_core.proofs.Keeps.{same_length}
use Rattle.fan_core.proofs.window.Window.fewest.Goals as goal
use Rattle.fan_core.proofs.window.Window.fewest.Goals.{then-has, else-has}

pub loop-d-preserved : goal.loop-d-preserved
loop-d-preserved c =
    let counts = c.args.self.now.counts in
    let keeps = c.args.self.now.keeps in
    let d = c.loop-d.d in
    let in_range : d < length counts.live = omega (arith, keeps.eight_live) in
    let before = fewest (take d counts.live) (take d counts.written) counts.read in
    let with_next = λ (live : Bool). cond live (min before (slice_index counts.written d)) before in
    let more = ap (λ n. fewest (take n counts.live) (take n counts.written) counts.read) (add-one d)
    ∙ fewest-take counts.live counts.written counts.read d in_range (same_length counts keeps) in
    elim c.if-has.branch [
      | then-has w ↦ w.least-is ∙ w.min-least.ensures ∙ ap (λ (n : ℕ). min n (slice_index counts.written d)) c.loop-d.invariant ∙ sym (more ∙ ap with_next (sym c.has.ensures.is ∙ w.if-has.true))
      | else-has w ↦ w.least-is ∙ c.loop-d.invariant ∙ sym (more ∙ ap with_next (sym c.has.ensures.is ∙ w.if-has.false))
    ]
