use Rattle.std.proofs.Common.{◌≡◌, ◌+◌, ◌%◌, ◌^◌, length, ap, ◌∙◌, arith}
use Rattle.xxh64_stream.specs.Xxh64.{xxh64, before_length, converged}
use Rattle.xxh64_stream.proofs.States.{parts_of}
use Rattle.xxh64_stream.proofs.hasher.Xxh64.value.Goals as goal
use Rattle.xxh64_stream.proofs.hasher.Xxh64.value.Goals.{then-self, else-self}

pub returns : goal.returns
unfolding xxh64 before_length
returns c = λ seed fed held.
    let p = parts_of (c.self.view_is ∙ held) in
    let acc : c.if-self.acc ≡ before_length seed fed =
    elim c.if-self.branch [
      | then-self w ↦ rw (← p.striped_is, w.if-self.true) (w.acc-is ∙ w.converged-acc.ensures ∙ ap converged p.accs_are)
      | else-self w ↦ rw (← p.striped_is, w.if-self.false) (rw (← p.seed_is) w.acc-is)
    ] in
    let sum : (c.if-self.acc + c.self.inside.total) % 2 ^ 64 ≡ (before_length seed fed + length fed) % 2 ^ 64 = omega (arith, p.total_is) in
    rw (c.avalanche.ensures, c.add_rest.ensures, sum, p.rest_is)
