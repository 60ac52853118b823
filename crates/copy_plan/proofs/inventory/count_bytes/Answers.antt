-- The bytes of one file more; a path has at most 1,024.
use Rattle.std.proofs.Common.{◌≡◌, ◌+◌, ◌∙◌, ap, arith}
use Rattle.std.specs.Prelude.{length}
use Rattle.copy_plan.proofs.Arranged.{bytes_more, bytes_none}
use Rattle.copy_plan.proofs.inventory.count_bytes.Goals as goal

pub loop-file-init : goal.loop-file-init
loop-file-init c = (bytes_none c.args.files.now, omega arith)

pub loop-file-preserved : goal.loop-file-preserved
loop-file-preserved c =
    let long : c.loop-file.sum + length c.as_str.result.now ≡ c.loop-file.sum + length c.file-item.result.path = ap (λ n. c.loop-file.sum + n) (ap length c.as_str.ensures.same) in
    let short = c.as_str.ensures.short in
    let low = c.loop-file.invariant.1 in
    (long ∙ bytes_more c.args.files.now c.loop-file.file-index c.file-item.result c.loop-file.sum c.loop-file-test.true c.file-item.is c.loop-file.invariant.0, omega (arith, short, low))
