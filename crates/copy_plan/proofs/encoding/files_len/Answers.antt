use Rattle.std.proofs.Common.{◌≡◌, ◌+◌, length, take, suc, sym, ap, add-one, arith}
use Rattle.std.specs.List.{flat_map}
use Rattle.copy_plan.specs.Fields.{file_code}
use Rattle.copy_plan.proofs.Lengths.{files_more}
use Rattle.copy_plan.proofs.encoding.files_len.Goals as goal

pub loop-file-preserved : goal.loop-file-preserved
loop-file-preserved c =
    let files = c.args.files.now in
    let i = c.loop-file.file-index in
    let more = files_more files i c.file-item.result c.loop-file-test.true (sym c.file-item.is) in
    let next : length (flat_map file_code (take (i + 1) files)) ≡ length (flat_map file_code (take (suc i) files)) = ap (λ n. length (flat_map file_code (take n files))) (add-one i) in
    let same = ap length c.as_str.ensures.same in
    let short = c.as_str.ensures.short in
    let value = c.loop-file.invariant.value in
    let bound = c.loop-file.invariant.bound in
    record { value = omega (arith, more, next, same, value); bound = omega (arith, same, short, bound) }
