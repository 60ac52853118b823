use Rattle.std.proofs.Common.{◌-◌, ◌≡◌, ◌≤◌}
use Rattle.block_pool.specs.Lent.{block_at}
use Rattle.block_pool.specs.Lending.{with_block}
use Rattle.read_back.specs.Feeding.{PiecesFed}
use Rattle.read_back.proofs.pieces.feed_pieces.Given as goal

abbrev pub invariant-loop-at : goal.invariant-loop-at
invariant-loop-at g l = record {
  fed : PiecesFed l.d l.path l.size l.at l.fan (g.B.Bay.world l.initial.bay) (g.B.Bay.world l.bay);
  within : l.at ≤ l.size;
  pool : l.pool ≡ with_block l.initial.pool l.slot (block_at l.pool l.slot);
}

abbrev pub decreases-loop-at : goal.decreases-loop-at
decreases-loop-at g l = l.size - l.at
