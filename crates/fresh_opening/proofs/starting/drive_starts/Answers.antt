-- The drive that may not begin is the first.
use Rattle.std.proofs.Common.{map, drop, length, ◌+◌, rules, sym, ◌∙◌}
use Rattle.std.proofs.lemmas.Iterator.Adapters.{YieldsList-from_vec}
use Rattle.std.proofs.lemmas.Iterator.Consumers.{YieldsList-so_far, YieldsList-turn}
use Rattle.std.proofs.lemmas.List.{map-id}
use Rattle.fresh_opening.specs.Looks.{sight_by}
use Rattle.fresh_opening.specs.Openings.{StartsFail}
use Rattle.fresh_opening.proofs.Joining.{err_handed}
use Rattle.fresh_opening.proofs.Placing.{parted, not_placed}
use Rattle.fresh_opening.proofs.starting.drive_starts.Goals as goal

pub returns-in_err-drive_start : goal.returns-in_err-drive_start
returns-in_err-drive_start c =
    let all = c.args.seen.items in
    let done = c.loop-drive.yielded in
    let road = YieldsList-from_vec {s = c.into_iter-drive-iterator.result} c.args.seen.items (search rules) (search rules) in
    let so_far = YieldsList-so_far road done c.loop-drive.drive-iterator c.loop-drive.yielded_by in
    let turn = YieldsList-turn road done c.loop-drive.drive-iterator c.loop-drive.yielded_by c.next.result c.next.new.self c.in-Some.drive c.in-Some.is c.next.ensures.steps in
    err_handed _ (StartsFail c.args.first c.args.plan.now (map sight_by all)) c.from_residual-in_err-drive_start.result c.in_err-drive_start.field-0.0 c.from_residual-in_err-drive_start.ensures.1
    (not_placed c.args.first c.args.plan.now all done c.in-Some.drive (drop (length done + 1) all) c.loop-drive.starts.items c.len-d.result c.in_err-drive_start.field-0.0 c.loop-drive.invariant
    (parted done all c.in-Some.drive (sym (map-id done) ∙ so_far) turn.0 turn.1) (search rules) c.in_err-drive_start.ensures)
