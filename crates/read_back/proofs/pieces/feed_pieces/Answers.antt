use Rattle.std.proofs.Common.{inl, arith}
use Rattle.std.proofs.lemmas.Result.{err_from_is_err_and}
use Rattle.read_back.proofs.Copies.{pieces_none, pieces_more, piece_within, back_stopped, back_short, same_block, block_twice}
use Rattle.read_back.proofs.pieces.feed_pieces.Goals as goal

pub loop-at-init : goal.loop-at-init
loop-at-init g c = record { fed = pieces_none _ _ _ _ _ c.requires.start; within = omega arith; pool = same_block _ _ }

pub returns-in_err-n-clause-pool : goal.returns-in_err-n-clause-pool
returns-in_err-n-clause-pool g c = block_twice _ _ _ _ c.bytes_mut.ensures.there c.loop-at.invariant.pool

pub returns-in_err-n-clause-read : goal.returns-in_err-n-clause-read
returns-in_err-n-clause-read g c =
    let p = err_from_is_err_and c.from_residual.result c.from_residual.ensures.1 in
    rw (p.1, p.2) (back_stopped _ _ _ _ _ _ _ _ c.loop-at.invariant.fed _ _ c.in_err-n.ensures (omega arith, inl (omega arith)))

pub returns-then-n-eq0-clause-pool : goal.returns-then-n-eq0-clause-pool
returns-then-n-eq0-clause-pool g c = block_twice _ _ _ _ c.bytes_mut.ensures.there c.loop-at.invariant.pool

pub returns-then-n-eq0-clause-read : goal.returns-then-n-eq0-clause-read
returns-then-n-eq0-clause-read g c = back_short _ _ _ _ _ _ _ _ c.loop-at.invariant.fed _ _ _ c.in_ok-n.ensures c.if-n-eq0.true (omega arith) (omega arith)

pub loop-at-preserved : goal.loop-at-preserved
loop-at-preserved g c =
    let few = piece_within _ _ _ _ _ _ _ _ _ c.in_ok-n.ensures in
    record {
      fed = pieces_more _ _ _ _ _ _ _ _ _ _ _ c.loop-at.invariant.fed c.in_ok-n.ensures (omega arith) (omega arith);
      within = omega (arith, few);
      pool = block_twice _ _ _ _ c.bytes_mut.ensures.there c.loop-at.invariant.pool;
    }
