use Rattle.std.specs.Prelude.{◌≡◌, drop}
use Rattle.bay_mem.specs.State.{is_flipped}
use Rattle.bay_mem.proofs.lies.is_flipped.Given as goal

abbrev pub invariant-loop-flip : goal.invariant-loop-flip
invariant-loop-flip l = is_flipped (drop l.flip-index l.flips) l.fn.d ≡ is_flipped l.fn.flips l.fn.d
