use Rattle.std.proofs.Common.{◌≢◌, ℕ, List, subst}
use Rattle.std.specs.Prelude.{is_ok}
use Rattle.bay_core.specs.Crashes.{Leaves, Rests}
use Rattle.bay_core.specs.Paths.{new_path}
use Rattle.copy_plan.specs.Plan.{list_of}
use Rattle.drive_journal.specs.Steps.{NoScratch, IsWhole, IsThere}
use Rattle.offload_law.proofs.Plans.{not_new, list_free}
use Rattle.seal_step.specs.Parts.{list_parts}
use Rattle.seal_step.proofs.Crashes.{seal_leaves, seal_rests}
use Rattle.seal_step.proofs.Texts.{joined_is_text, some_text}
use Rattle.seal_step.proofs.sealing.seal.Goals as goal

pub returns-clause-text : goal.returns-clause-text
returns-clause-text g c = joined_is_text c.args.plan.now c.args.entries.now c.args.finish

pub returns-clause-crash : goal.returns-clause-crash
returns-clause-crash g c =
    let p = c.args.plan.now in
    let recs = c.args.entries.now in
    let finish = c.args.finish in
    let differ : list_of p ≢ new_path = not_new (list_of p) (list_free p c.files-files.ensures.plan) in
    subst (λ (text : List ℕ). Leaves c.args.d NoScratch (IsWhole (list_of p) text) (g.B.Bay.world c.args.bay.now) (g.B.Bay.world c.draft_and_name.new.bay)) (joined_is_text p recs finish)
    (seal_leaves c.args.d (list_of p) (list_parts p recs finish) (some_text p recs finish) differ c.draft_and_name.result c.draft_and_name.ensures.went)

pub returns-clause-rests : goal.returns-clause-rests
returns-clause-rests g c =
    let p = c.args.plan.now in
    let recs = c.args.entries.now in
    let finish = c.args.finish in
    let differ : list_of p ≢ new_path = not_new (list_of p) (list_free p c.files-files.ensures.plan) in
    subst (λ (text : List ℕ). Rests c.args.d NoScratch (IsThere (list_of p) text) (is_ok c.draft_and_name.result) (g.B.Bay.world c.args.bay.now) (g.B.Bay.world c.draft_and_name.new.bay)) (joined_is_text p recs finish)
    (seal_rests c.args.d (list_of p) (list_parts p recs finish) (some_text p recs finish) differ c.draft_and_name.result c.draft_and_name.ensures.went)
