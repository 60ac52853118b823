use Rattle.std.proofs.Common.{◌≡◌, ℕ, ◌-◌, ◌≤◌, List, length, take, drop}
use Rattle.std.specs.Prelude.{Some}
use Rattle.std.specs.FinMap.{get}
use Rattle.bay_core.specs.declared.event.Event.{Event}
use Rattle.bay_core.specs.Replay.{Drive, reads}
use Rattle.bay_core.specs.Map.{Map}
use Rattle.bay_core.specs.World.{Honest}
use Rattle.bay_core.specs.Went.{Went, Only}
use Rattle.fan_copier.specs.Reads.{OnDrive, Tiles}
use Rattle.fan_copier.proofs.gather.gather_drive.Given as goal

abbrev pub invariant-loop-n : goal.invariant-loop-n
invariant-loop-n g l = record {
  within : l.n ≤ length l.into;
  size : length l.into ≡ length l.initial.into;
  went : Went (Only (Drive l.d)) (λ L. Tiles (OnDrive l.d l.path) l.at L (take l.n l.into)) (g.B.Bay.world l.initial.bay) (g.B.Bay.world l.bay);
  honest : (m : Map) (L : List Event) → Honest (g.B.Bay.world l.bay) l.d m L → (file : List ℕ) → get (reads m L l.d) l.path ≡ Some file → take l.n l.into ≡ take l.n (drop l.at file);
}

abbrev pub decreases-loop-n : goal.decreases-loop-n
decreases-loop-n g l = length l.initial.into - l.n
