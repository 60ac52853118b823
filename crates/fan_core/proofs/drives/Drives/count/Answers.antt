use Rattle.std.proofs.Common.{arith, add-one, sym, ap, ◌∙◌, cond, take, Bool, ◌+◌}
use Rattle.fan_core.specs.Flags.{count}
use Rattle.fan_core.proofs.Rules.{count-take}
use Rattle.fan_core.proofs.drives.Drives.count.Goals as goal
use Rattle.fan_core.proofs.drives.Drives.count.Goals.{then-flag, else-flag}

pub loop-flag-preserved : goal.loop-flag-preserved
loop-flag-preserved c =
    let flags = c.self.inside.flags in
    let i = c.loop-flag.flag-index in
    let so_far = c.loop-flag.invariant.so_far in
    let with_next = λ (flag : Bool). cond flag (count (take i flags) + 1) (count (take i flags)) in
    let more = ap (λ n. count (take n flags)) (add-one i) ∙ count-take flags i (omega arith) in
    elim c.if-flag.branch [
      | then-flag w ↦ record { so_far = w.n-is ∙ ap (λ n. n + 1) so_far ∙ sym (more ∙ ap with_next w.if-flag.true); few = omega arith }
      | else-flag w ↦ record { so_far = w.n-is ∙ so_far ∙ sym (more ∙ ap with_next w.if-flag.false); few = omega arith }
    ]
