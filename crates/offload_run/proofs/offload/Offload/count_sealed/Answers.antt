use Rattle.std.proofs.Common.{◌+◌, ◌<◌, ℕ, length, map, take, sym, ◌∙◌, ap, arith}
use Rattle.std.proofs.lemmas.List.{length-map, length-take}
use Rattle.run_state.specs.State.{at_of}
use Rattle.offload_run.proofs.Counting.{count_one, count_same, count_few}
use Rattle.offload_run.proofs.offload.Offload.count_sealed.Goals as goal
use Rattle.offload_run.proofs.offload.Offload.count_sealed.Goals.{in-Sealed, in_default}

pub overflow_add-sealed : goal.overflow_add-sealed
overflow_add-sealed c =
    let i = c.loop-drive.invariant in
    let few = count_few (map at_of (take c.loop-drive.drive-index c.deref-drive-items.result.now)) in
    let long = length-map (take c.loop-drive.drive-index c.deref-drive-items.result.now) at_of in
    let short = length-take c.loop-drive.drive-index c.deref-drive-items.result.now in
    let all = ap length i.same in
    let count = i.count in
    omega (arith, few, long, short, all, count)

pub loop-drive-preserved : goal.loop-drive-preserved
loop-drive-preserved c =
    let i = c.loop-drive.invariant in
    let within : c.loop-drive.drive-index < length c.deref-drive-items.result.now = omega arith in
    elim c.match-drive.branch [
      | in-Sealed w ↦ record { count = w.sealed-is ∙ ap (λ (n : ℕ). n + 1) i.count ∙ sym (count_one c.deref-drive-items.result.now c.loop-drive.drive-index c.drive-item.result within c.drive-item.is w.in-Sealed.is); same = i.same }
      | in_default w ↦ record { count = w.sealed-is ∙ i.count ∙ sym (count_same c.deref-drive-items.result.now c.loop-drive.drive-index c.drive-item.result within c.drive-item.is w.in_default.not-Sealed); same = i.same }
    ]
