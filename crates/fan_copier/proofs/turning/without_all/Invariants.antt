use Rattle.std.proofs.Common.{◌≡◌, ℕ, ◌<◌, true, false, length}
use Rattle.fan_core.specs.Flags.{has}
use Rattle.fan_copier.proofs.turning.without_all.Given as goal

abbrev pub invariant-loop-d : goal.invariant-loop-d
invariant-loop-d l = record {
  size : length l.left ≡ 8;
  within : (e : ℕ) → has l.left e ≡ true → (e < l.d) × (has l.drives e ≡ true) × (has l.others e ≡ false);
  all : (e : ℕ) → e < l.d → has l.drives e ≡ true → has l.others e ≡ false → has l.left e ≡ true;
}
