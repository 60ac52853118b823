use Rattle.offload_run.proofs.Slots.{pool_then}
use Rattle.offload_run.proofs.offload.Offload.turn_copy.Goals as goal

pub settle_copy-requires-clause-owns : goal.settle_copy-requires-clause-owns
settle_copy-requires-clause-owns g c = (c.turn_with_slot-came.ensures.pool c.args.index).owns

pub returns-clause-pool : goal.returns-clause-pool
returns-clause-pool g c = pool_then _ _ _ _ _ _ (c.turn_with_slot-came.ensures.pool c.args.index) c.settle_copy.ensures.pool

pub returns-clause-acted : goal.returns-clause-acted
returns-clause-acted g c =
    let e = c.turn_with_slot-came.ensures in
    record {
      file = c.file_at-file.result.now;
      is_file = c.file_at-file.ensures.is;
      came = c.turn_with_slot-came.result;
      next = c.turn_with_slot-came.new.copy;
      mid = g.B.Bay.world c.turn_with_slot-came.new.bay;
      between = c.turn_with_slot-came.new.pool;
      same = e.same;
      go_on = e.go_on;
      touches = e.touches;
      cause = e.cause;
      steady = e.steady;
      turned = e.turned;
      settles = c.settle_copy.ensures.settles;
      same_pool = c.settle_copy.ensures.kept;
    }
