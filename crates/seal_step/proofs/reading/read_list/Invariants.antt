use Rattle.std.proofs.Common.{◌≡◌, ◌-◌, ◌≤◌}
use Rattle.block_pool.specs.Lent.{block_at}
use Rattle.block_pool.specs.Lending.{with_block}
use Rattle.seal_step.specs.Parts.{list_parts, joined}
use Rattle.seal_step.specs.Comparing.{SameSoFar, Stands, place_of}
use Rattle.seal_step.proofs.reading.read_list.Given as goal

abbrev pub invariant-loop-at : goal.invariant-loop-at
invariant-loop-at g l = record {
  so_far : SameSoFar l.d (joined (list_parts l.list.plan.now l.list.entries.now l.list.finish)) l.at (g.B.Bay.world l.initial.bay) (g.B.Bay.world l.bay);
  stands : Stands (list_parts l.list.plan.now l.list.entries.now l.list.finish) l.place l.scratch;
  here : place_of (list_parts l.list.plan.now l.list.entries.now l.list.finish) l.place ≡ l.at;
  within : l.at ≤ l.total;
  pool : l.pool ≡ with_block l.initial.pool l.slot (block_at l.pool l.slot);
}

abbrev pub decreases-loop-at : goal.decreases-loop-at
decreases-loop-at g l = l.total - l.at
