use Rattle.std.proofs.Common.{◌≡◌, ◌-◌, ◌≤◌, length, take, drop}
use Rattle.bay_core.specs.Replay.{Source}
use Rattle.bay_core.specs.Map.{Map, content}
use Rattle.bay_core.specs.World.{Steady}
use Rattle.bay_core.specs.Went.{Went, Only}
use Rattle.fan_copier.specs.Reads.{OnCard, Tiles}
use Rattle.fan_copier.proofs.gather.gather_card.Given as goal

abbrev pub invariant-loop-n : goal.invariant-loop-n
invariant-loop-n g l = record {
  within : l.n ≤ length l.into;
  size : length l.into ≡ length l.initial.into;
  went : Went (Only (Source l.s)) (λ L. Tiles (OnCard l.s l.path) l.at L (take l.n l.into)) (g.B.Bay.world l.initial.bay) (g.B.Bay.world l.bay);
  steady : (m : Map) → Steady (g.B.Bay.world l.initial.bay) l.s m → take l.n l.into ≡ take l.n (drop l.at (content m l.path));
}

abbrev pub decreases-loop-n : goal.decreases-loop-n
decreases-loop-n g l = length l.initial.into - l.n
