use Rattle.std.proofs.Common.{rules, arith}
use Rattle.bay_core.proofs.Looking.{tiles_look}
use Rattle.file_reading.proofs.Stops.{halted_after}
use Rattle.verify_run.proofs.Hashing.{hashed_none, hashed_more, taken_end, taken_limit, few}
use Rattle.verify_run.proofs.reading.read_file.Goals as goal

pub loop-at-init : goal.loop-at-init
loop-at-init g c = record { read = hashed_none _ _ _ (g.D.Digest.fed c.start-run.result) _ c.start-run.ensures; within = omega arith }

pub returns-in-Err : goal.returns-in-Err
returns-in-Err g c = let s = c.loop-at.invariant.read.read in halted_after _ _ s.calls (tiles_look _ _ _ _ s.tiles) s.went c.in-Err.ensures.read

pub returns-then-n-eq0 : goal.returns-then-n-eq0
returns-then-n-eq0 g c = taken_end _ _ _ c.saturating_add-limit.result _ _ _ c.in-Ok.got c.read_piece.new.buffer _ _ _ _ _ (search rules) c.loop-at.invariant.read c.in-Ok.ensures.read (omega arith) c.in-Ok.ensures.bound c.unwrap_or-n.ensures c.if-n-eq0.true (omega arith) (omega arith) c.finish.ensures

pub loop-at-preserved : goal.loop-at-preserved
loop-at-preserved g c =
    let small = few _ _ _ c.in-Ok.ensures.bound c.unwrap_or-n.ensures in
    record {
      read = hashed_more _ _ _ _ _ _ c.in-Ok.got c.read_piece.new.buffer _ _ _ _ _ c.loop-at.invariant.read c.in-Ok.ensures.read (omega arith) c.in-Ok.ensures.bound c.unwrap_or-n.ensures small (omega arith) c.feed.ensures;
      within = omega (arith, small);
    }

pub returns : goal.returns
returns g c = taken_limit _ _ _ _ c.saturating_add-limit.result _ _ _ _ (search rules) c.loop-at.invariant.read (omega arith) c.loop-at.invariant.within (search rules) c.finish-2.ensures
