use Rattle.std.proofs.Common.{◌<◌, ap, length, ◌∙◌, arith, true, false}
use Rattle.drive_journal.proofs.Trying.{tried_exit}
use Rattle.seal_step.specs.Parts.{list_parts}
use Rattle.seal_step.proofs.Drafts.{none_written, none_long, one_more, one_failed}
use Rattle.seal_step.proofs.Texts.{joined_next}
use Rattle.seal_step.proofs.drafting.write_parts.Goals as goal

pub loop-part-init : goal.loop-part-init
loop-part-init g c =
    let list = c.args.list.now in
    let parts = list_parts list.plan.now list.entries.now list.finish in
    record { tried = none_written _ parts _; here = none_long parts; small = omega arith }

pub returns-in_err-write-clause-tried : goal.returns-in_err-write-clause-tried
returns-in_err-write-clause-tried g c =
    let list = c.args.list.now in
    let parts = list_parts list.plan.now list.entries.now list.finish in
    let inside = c.loop-part-test.true in
    let many = c.count-part-end.ensures.count in
    tried_exit _ _ _ _ c.from_residual.ensures.1
    (one_failed _ parts _ (one_more _ parts _ _ _ false (omega arith) c.loop-part.invariant.here (c.bytes-bytes.ensures ∙ c.part_into.ensures.is) c.loop-part.invariant.tried c.in_err-write.ensures))

pub loop-part-preserved : goal.loop-part-preserved
loop-part-preserved g c =
    let list = c.args.list.now in
    let parts = list_parts list.plan.now list.entries.now list.finish in
    let inside = c.loop-part-test.true in
    let many = c.count-part-end.ensures.count in
    let there : c.loop-part.part < length parts = omega arith in
    let is = c.bytes-bytes.ensures ∙ c.part_into.ensures.is in
    let here = c.loop-part.invariant.here in
    record {
      tried = one_more _ parts _ _ _ true there here is c.loop-part.invariant.tried c.in_ok-write.ensures;
      here = omega (arith, here, ap length is, joined_next parts c.loop-part.part there);
      small = let small = c.loop-part.invariant.small in let fits = c.part_into.ensures.fits in omega (arith, small, fits, ap length c.bytes-bytes.ensures);
    }
