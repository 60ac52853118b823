use Rattle.std.proofs.Common.{◌∙◌, true, false, subst}
use Rattle.bay_core.specs.Went.{Tried}
use Rattle.drive_journal.proofs.Trying.{tried_then, tried_stopped}
use Rattle.seal_step.specs.Parts.{list_parts, naming}
use Rattle.seal_step.proofs.Seals.{calls_undrafted, calls_unread, calls_unnamed, calls_named, fails_alone, seals_undrafted, seals_unread, seals_named}
use Rattle.seal_step.proofs.Texts.{joined_is_text, some_text}
use Rattle.seal_step.proofs.sealing.draft_and_name.Goals as goal

pub returns-in_default-clause-went : goal.returns-in_default-clause-went
returns-in_default-clause-went g c = calls_undrafted _ _ _ (tried_stopped _ _ _ c.in_default.ensures.tried)

pub returns-in_default-clause-seals : goal.returns-in_default-clause-seals
returns-in_default-clause-seals g c =
    let p = c.args.plan.now in
    let recs = c.args.entries.now in
    let finish = c.args.finish in
    seals_undrafted c.steps_are_safe.ensures _ _ (list_parts p recs finish) (joined_is_text p recs finish) (some_text p recs finish) (tried_stopped _ _ _ c.in_default.ensures.tried)

pub returns-in-Err-clause-went : goal.returns-in-Err-clause-went
returns-in-Err-clause-went g c = calls_undrafted _ _ _ (tried_then _ _ _ false c.in-Ok.ensures.tried c.in-Err.ensures)

pub returns-in-Err-clause-seals : goal.returns-in-Err-clause-seals
returns-in-Err-clause-seals g c =
    let p = c.args.plan.now in
    let recs = c.args.entries.now in
    let finish = c.args.finish in
    seals_undrafted c.steps_are_safe.ensures _ _ (list_parts p recs finish) (joined_is_text p recs finish) (some_text p recs finish) (tried_then _ _ _ false c.in-Ok.ensures.tried c.in-Err.ensures)

pub returns-in-Err-read_list-clause-went : goal.returns-in-Err-read_list-clause-went
returns-in-Err-read_list-clause-went g c = calls_unread _ _ _ (tried_then _ _ _ true c.in-Ok.ensures.tried c.in-Ok-sync.ensures) _ c.in-Err-read_list.ensures.back

pub returns-in-Err-read_list-clause-honest : goal.returns-in-Err-read_list-clause-honest
returns-in-Err-read_list-clause-honest g c =
    fails_alone _ _ (tried_then _ _ _ true c.in-Ok.ensures.tried c.in-Ok-sync.ensures) _ (some_text c.args.plan.now c.args.entries.now c.args.finish) c.in-Err-read_list.ensures.back

pub returns-in-Err-read_list-clause-seals : goal.returns-in-Err-read_list-clause-seals
returns-in-Err-read_list-clause-seals g c =
    let p = c.args.plan.now in
    let recs = c.args.entries.now in
    let finish = c.args.finish in
    seals_unread c.steps_are_safe.ensures _ _ (list_parts p recs finish) (joined_is_text p recs finish) (some_text p recs finish) (tried_then _ _ _ true c.in-Ok.ensures.tried c.in-Ok-sync.ensures) c.in-Err-read_list.ensures.back

pub returns-in-Ok-name_list-clause-went : goal.returns-in-Ok-name_list-clause-went
returns-in-Ok-name_list-clause-went g c =
    let n = subst (λ list. Tried c.args.d (naming c.args.d list) true (g.B.Bay.world c.read_list.new.bay) (g.B.Bay.world c.name_list.new.bay)) (c.as_str.ensures.same ∙ c.list.ensures) c.in-Ok-name_list.ensures in
    calls_named _ _ _ (tried_then _ _ _ true c.in-Ok.ensures.tried c.in-Ok-sync.ensures) c.in-Ok-read_list.ensures.back n

pub returns-in-Ok-name_list-clause-seals : goal.returns-in-Ok-name_list-clause-seals
returns-in-Ok-name_list-clause-seals g c =
    let p = c.args.plan.now in
    let recs = c.args.entries.now in
    let finish = c.args.finish in
    let n = subst (λ list. Tried c.args.d (naming c.args.d list) true (g.B.Bay.world c.read_list.new.bay) (g.B.Bay.world c.name_list.new.bay)) (c.as_str.ensures.same ∙ c.list.ensures) c.in-Ok-name_list.ensures in
    seals_named c.steps_are_safe.ensures _ _ (list_parts p recs finish) (joined_is_text p recs finish) (some_text p recs finish) (tried_then _ _ _ true c.in-Ok.ensures.tried c.in-Ok-sync.ensures) true c.in-Ok-read_list.ensures.back n

pub returns-in-Err-name_list-clause-went : goal.returns-in-Err-name_list-clause-went
returns-in-Err-name_list-clause-went g c =
    let n = subst (λ list. Tried c.args.d (naming c.args.d list) false (g.B.Bay.world c.read_list.new.bay) (g.B.Bay.world c.name_list.new.bay)) (c.as_str.ensures.same ∙ c.list.ensures) c.in-Err-name_list.ensures in
    calls_unnamed _ _ _ (tried_then _ _ _ true c.in-Ok.ensures.tried c.in-Ok-sync.ensures) c.in-Ok-read_list.ensures.back n

pub returns-in-Err-name_list-clause-seals : goal.returns-in-Err-name_list-clause-seals
returns-in-Err-name_list-clause-seals g c =
    let p = c.args.plan.now in
    let recs = c.args.entries.now in
    let finish = c.args.finish in
    let n = subst (λ list. Tried c.args.d (naming c.args.d list) false (g.B.Bay.world c.read_list.new.bay) (g.B.Bay.world c.name_list.new.bay)) (c.as_str.ensures.same ∙ c.list.ensures) c.in-Err-name_list.ensures in
    seals_named c.steps_are_safe.ensures _ _ (list_parts p recs finish) (joined_is_text p recs finish) (some_text p recs finish) (tried_then _ _ _ true c.in-Ok.ensures.tried c.in-Ok-sync.ensures) false c.in-Ok-read_list.ensures.back n
