use Rattle.std.proofs.Common.{◌+◌, ◌++◌, [], ◌∷◌, length, sym, subst, ap}
use Rattle.copy_plan.specs.Fields.{Fails, Begins, MayFollow, file_code}
use Rattle.copy_plan.proofs.Taken.{SoFar, none_taken, one_more, files_failed}
use Rattle.copy_plan.proofs.decoding.take_files.Goals as goal

pub loop-init : goal.loop-init
loop-init c = subst (λ files. SoFar c.args.list.now c.args.count c.args.rest.now files 0 0 c.args.rest.now) (sym c.new-files.ensures.items) (none_taken c.args.list.now c.args.count c.args.rest.now)

pub returns-in-Err : goal.returns-in-Err
returns-in-Err c =
    files_failed c.args.list.now c.args.count c.loop.counter c.loop.total c.args.bytes.now c.args.rest.now c.loop.files.items c.loop.rest.now c.in-Err.error c.refusal.result c.requires c.loop-test.true c.loop.invariant
    (subst (λ files. Fails (MayFollow c.args.list.now files) file_code c.loop.rest.now c.in-Err.error) c.deref.ensures.value c.in-Err.ensures) c.refusal.ensures

pub loop-preserved : goal.loop-preserved
loop-preserved c =
    let long = ap length c.as_str.ensures.same in
    let begins = subst (λ files. Begins (MayFollow c.args.list.now files) file_code c.loop.rest.now c.in-Ok.taken.0 c.in-Ok.taken.1.now) c.deref.ensures.value c.in-Ok.ensures in
    let next = one_more c.args.list.now c.args.count c.loop.counter c.loop.total c.args.rest.now c.loop.files.items c.loop.rest.now c.in-Ok.taken.0 c.in-Ok.taken.1.now c.loop-test.true c.loop.invariant begins in
    subst (λ files. SoFar c.args.list.now c.args.count c.args.rest.now files (c.loop.total + length c.as_str.result.now) (c.loop.counter + 1) c.in-Ok.taken.1.now) (sym c.in-Ok-push.ensures.items)
    (subst (λ n. SoFar c.args.list.now c.args.count c.args.rest.now (c.loop.files.items ++ c.in-Ok.taken.0 ∷ []) (c.loop.total + n) (c.loop.counter + 1) c.in-Ok.taken.1.now) (sym long) next)
