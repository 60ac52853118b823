use Rattle.std.proofs.Common.{◌<◌, length, ◌∙◌, ap, arith, rules}
use Rattle.std.specs.Prelude.{is_some}
use Rattle.run_state.specs.State.{DriveAt, due, keeps_part}
use Rattle.offload_run.proofs.Counting.{below_next}
use Rattle.offload_run.proofs.Places.{read_at}
use Rattle.offload_run.proofs.offload.Offload.due.Goals as goal

pub loop-d-preserved : goal.loop-d-preserved
loop-d-preserved c =
    let i = c.loop-d.invariant in
    let items = c.args.self.now.drives.items in
    let within : c.loop-d.d < length c.args.self.now.drives.items = search rules in
    let small : c.loop-d.d < 8 = let few = c.requires in omega (arith, few, within) in
    let first = read_at c.args.self.now.drives.items c.loop-d.d c.index.result.now within c.index.ensures in
    let second = read_at c.args.self.now.drives.items c.loop-d.d c.index-in-loop-d.result.now within c.index-in-loop-d.ensures in
    record {
      are_due = below_next _ c.loop-d.d _ _ c.is_due.result small (c.is_due.ensures ∙ ap (λ (x : DriveAt). is_some (due c.args.index x)) first) c.with_if-drives.ensures i.are_due;
      keep = below_next _ c.loop-d.d _ _ c.keeps_part.result small (c.keeps_part.ensures ∙ ap (λ (x : DriveAt). keeps_part (due c.args.index x)) second) c.with_if-keeping.ensures i.keep;
    }
