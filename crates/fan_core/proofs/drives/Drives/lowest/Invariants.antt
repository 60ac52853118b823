use Rattle.std.proofs.Common.{◌≡◌, ℕ, ◌<◌, true}
use Rattle.fan_core.specs.Flags.{has}
use Rattle.fan_core.proofs.drives.Drives.lowest.Given as goal

abbrev pub invariant-loop-d : goal.invariant-loop-d
invariant-loop-d l = (k : ℕ) → k < l.d → has l.flag-items k ≡ true → ⊥
