use Rattle.std.proofs.Common.{◌≡◌, map, take}
use Rattle.run_state.specs.State.{at_of, count_sealed}
use Rattle.offload_run.proofs.offload.Offload.count_sealed.Given as goal

abbrev pub invariant-loop-drive : goal.invariant-loop-drive
invariant-loop-drive l = record {
  count : l.sealed ≡ count_sealed (map at_of (take l.drive-index l.drive-items));
  same : l.drive-items ≡ l.self.drives.items;
}
