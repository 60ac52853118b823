use Rattle.std.proofs.Common.{arith}
use Rattle.std.proofs.lemmas.Result.{err_from_is_err_and}
use Rattle.read_back.proofs.Copies.{same_block, block_twice}
use Rattle.seal_step.specs.Parts.{list_parts}
use Rattle.seal_step.proofs.Compares.{same_none, list_back}
use Rattle.seal_step.proofs.Drafts.{none_long}
use Rattle.seal_step.proofs.Texts.{length-list_parts}
use Rattle.seal_step.proofs.reading.read_list.Goals as goal

pub part_into-requires-clause-part : goal.part_into-requires-clause-part
part_into-requires-clause-part g c =
    let list = c.args.list.now in
    omega (arith, length-list_parts list.plan.now list.entries.now list.finish c.requires.whole)

pub loop-at-init : goal.loop-at-init
loop-at-init g c =
    let list = c.args.list.now in
    record {
      so_far = same_none _ _ _;
      stands = record {
        there = omega (arith, length-list_parts list.plan.now list.entries.now list.finish c.requires.whole);
        is = c.part_into.ensures.is;
        within = omega arith;
        fits = c.part_into.ensures.fits;
      };
      here = omega (arith, none_long (list_parts list.plan.now list.entries.now list.finish));
      within = omega arith;
      pool = same_block _ _;
    }

pub returns-in_err-n-clause-back : goal.returns-in_err-n-clause-back
returns-in_err-n-clause-back g c =
    let p = err_from_is_err_and c.from_residual.result c.from_residual.ensures.1 in
    rw (p.1, p.2) (c.in_err-n.ensures (g.B.Bay.world c.args.bay.now) c.loop-at.invariant.so_far)

pub returns-in_err-n-clause-pool : goal.returns-in_err-n-clause-pool
returns-in_err-n-clause-pool g c = block_twice _ _ _ _ c.bytes_mut.ensures.there c.loop-at.invariant.pool

pub loop-at-preserved : goal.loop-at-preserved
loop-at-preserved g c =
    let b = c.in_ok-n.ensures in
    record {
      so_far = b.4 (g.B.Bay.world c.args.bay.now) c.loop-at.invariant.so_far;
      stands = b.1;
      here = b.2;
      within = omega (arith, b.3);
      pool = block_twice _ _ _ _ c.bytes_mut.ensures.there c.loop-at.invariant.pool;
    }

pub returns-clause-back : goal.returns-clause-back
returns-clause-back g c = list_back _ _ _ _ _ _ _ _ c.loop-at.invariant.so_far c.requires.total (omega arith) c.ask_past_end.ensures

pub returns-clause-pool : goal.returns-clause-pool
returns-clause-pool g c = block_twice _ _ _ _ c.bytes_mut-2.ensures.there c.loop-at.invariant.pool
