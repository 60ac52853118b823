use Rattle.std.proofs.Common.{◌≡◌, ℕ, ◌<◌, true, length, None}
use Rattle.fan_core.specs.Flags.{has}
use Rattle.whole_copy.proofs.program.attach_drives.Given as goal

abbrev pub invariant-loop-place : goal.invariant-loop-place
invariant-loop-place g l = record {
  untold : (g.B.Bay.world l.bay).events ≡ None;
  sources : (g.B.Bay.world l.bay).attached.sources ≡ (g.B.Bay.world l.initial.bay).attached.sources;
  drives : (g.B.Bay.world l.bay).attached.drives ≡ l.place-index;
  size : length l.drives ≡ 8;
  within : (d : ℕ) → has l.drives d ≡ true → d < l.place-index;
  first : 0 < l.place-index → has l.drives 0 ≡ true;
}
