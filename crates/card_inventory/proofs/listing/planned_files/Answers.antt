-- The files so far are a first part of the listing, and the next one stands behind them.
use Rattle.std.proofs.Common.{rules, sym, ◌∙◌}
use Rattle.std.proofs.lemmas.Iterator.Adapters.{YieldsList-from_vec}
use Rattle.std.proofs.lemmas.Iterator.Consumers.{YieldsList-so_far, YieldsList-turn}
use Rattle.std.proofs.lemmas.List.{map-id}
use Rattle.card_inventory.specs.Listed.{FilesFail}
use Rattle.card_inventory.proofs.Listings.{files_fail, handed_on}
use Rattle.card_inventory.proofs.listing.planned_files.Goals as goal

pub returns-in_err-planned_file-clause-first : goal.returns-in_err-planned_file-clause-first
returns-in_err-planned_file-clause-first c =
    let road = YieldsList-from_vec {s = c.into_iter-file-iterator.result} c.args.files.items (search rules) (search rules) in
    let done = c.loop-file.yielded in
    let so_far = YieldsList-so_far road done c.loop-file.file-iterator c.loop-file.yielded_by in
    let turn = YieldsList-turn road done c.loop-file.file-iterator c.loop-file.yielded_by c.next.result c.next.new.self c.in-Some.file c.in-Some.is c.next.ensures.steps in
    handed_on (FilesFail c.args.files.items) c.from_residual-in_err-planned_file.result c.in_err-planned_file.field-0.0 c.from_residual-in_err-planned_file.ensures.1
    (files_fail done c.args.files.items c.loop-file.plan.items c.in-Some.file c.len-index.result c.in_err-planned_file.field-0.0 c.loop-file.invariant (search rules) (sym (map-id done) ∙ so_far) turn.0 turn.1 c.in_err-planned_file.ensures.fault)
