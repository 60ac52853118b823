use Rattle.std.proofs.Common.{ℕ, drop, length, ap, sym, ◌∙◌, arith, length-drop}
use Rattle.std.proofs.lemmas.List.{length-take}
use Rattle.std.proofs.lemmas.Result.{err_from_is_err_and}
use Rattle.seal_step.specs.Parts.{list_parts, joined}
use Rattle.seal_step.proofs.Compares.{piece_given, slice_given, compared_other, same_later}
use Rattle.seal_step.proofs.reading.compare_block.Goals as goal

pub returns-in_err-compare : goal.returns-in_err-compare
returns-in_err-compare c =
    let list = c.args.list.now in
    let parts = list_parts list.plan.now list.entries.now list.finish in
    let i = c.loop-done.invariant in
    let r = c.refill.ensures in
    let p = err_from_is_err_and c.from_residual.result c.from_residual.ensures.1 in
    let is = ap length c.bytes.ensures in
    rw (p.1, p.2) (
    compared_other parts c.args.at c.args.read.now c.loop-done.done c.min-n.result _ _ _ _ _
    (piece_given parts c.refill.new.place c.refill.new.scratch c.bytes.result.now c.args.at c.loop-done.done c.min-n.result r.stands (r.same ∙ i.here) c.bytes.ensures (omega (arith, is, length-take {A = ℕ}, length-drop {A = ℕ})))
    (slice_given c.args.read.now c.loop-done.done c.min-n.result)
    i.same (omega (arith, is, length-take {A = ℕ}, length-drop {A = ℕ})) c.requires.inside c.in_err-compare.ensures
    )

pub loop-done-preserved : goal.loop-done-preserved
loop-done-preserved c =
    let list = c.args.list.now in
    let parts = list_parts list.plan.now list.entries.now list.finish in
    let i = c.loop-done.invariant in
    let r = c.refill.ensures in
    let here = r.same ∙ i.here in
    let is = ap length c.bytes.ensures in
    record {
      same = same_later c.args.read.now (drop c.args.at (joined parts)) c.loop-done.done c.min-n.result i.same
          (sym (slice_given c.args.read.now c.loop-done.done c.min-n.result) ∙ c.in_ok-compare.ensures
          ∙ piece_given parts c.refill.new.place c.refill.new.scratch c.bytes.result.now c.args.at c.loop-done.done c.min-n.result r.stands here c.bytes.ensures (omega (arith, is, length-take {A = ℕ}, length-drop {A = ℕ})));
      stands = record { there = r.stands.there; is = r.stands.is; within = omega (arith, is, length-take {A = ℕ}, length-drop {A = ℕ}); fits = r.stands.fits };
      here = omega (arith, here);
      within = omega (arith, is, length-take {A = ℕ}, length-drop {A = ℕ});
    }
