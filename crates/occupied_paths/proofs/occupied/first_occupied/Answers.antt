use Rattle.std.proofs.Common.{length, refl, sym, ◌∙◌, arith, below_more}
use Rattle.std.specs.FinMap.{get}
use Rattle.std.proofs.lemmas.Bool.{false≢true}
use Rattle.std.proofs.lemmas.Option.{slice_get_read}
use Rattle.folder_listing.specs.Listing.{sizes_in}
use Rattle.occupied_paths.proofs.Occupying.{named_first, named_not_free, free_names_none, found_file, found_list, found_none, free_here}
use Rattle.occupied_paths.proofs.occupied.first_occupied.Goals as goal

pub returns-then-branch-clause-free : goal.returns-then-branch-clause-free
returns-then-branch-clause-free c =
    let files = c.files-file-items.result.now in
    let at = slice_get_read files (length files) c.loop-number.number c.file-item.result refl (omega arith) c.file-item.is in
    named_not_free (get (sizes_in c.args.folder.now)) c.args.records c.args.plan.now c.file-item.result.path
    (found_file (get (sizes_in c.args.folder.now)) c.args.records c.args.plan.now files c.loop-number.number c.file-item.result c.files-file-items.ensures.same at (c.in_ok-is_occupied.ensures.0 c.if-branch.true) c.loop-number.invariant)

pub returns-then-branch-clause-first : goal.returns-then-branch-clause-first
returns-then-branch-clause-first c =
    let files = c.files-file-items.result.now in
    let at = slice_get_read files (length files) c.loop-number.number c.file-item.result refl (omega arith) c.file-item.is in
    named_first (get (sizes_in c.args.folder.now)) c.args.records c.args.plan.now c.file-item.result.path
    (found_file (get (sizes_in c.args.folder.now)) c.args.records c.args.plan.now files c.loop-number.number c.file-item.result c.files-file-items.ensures.same at (c.in_ok-is_occupied.ensures.0 c.if-branch.true) c.loop-number.invariant)

pub loop-number-preserved : goal.loop-number-preserved
loop-number-preserved c =
    let files = c.files-file-items.result.now in
    let at = slice_get_read files (length files) c.loop-number.number c.file-item.result refl (omega arith) c.file-item.is in
    below_more _ _ c.loop-number.invariant
    (free_here (get (sizes_in c.args.folder.now)) c.args.records files c.loop-number.number c.file-item.result at (λ occupied. false≢true (sym c.if-branch.false ∙ c.in_ok-is_occupied.ensures.1 occupied)))

pub returns-then-branch-2-clause-first : goal.returns-then-branch-2-clause-first
returns-then-branch-2-clause-first c =
    named_first (get (sizes_in c.args.folder.now)) c.args.records c.args.plan.now c.list.result.now
    (found_list (get (sizes_in c.args.folder.now)) c.args.records c.args.plan.now c.files-file-items.result.now c.loop-number.number c.list.result.now c.files-file-items.ensures.same (omega arith) c.loop-number.invariant (c.in_ok-is_list_occupied.ensures.0 c.if-branch-2.true) c.list.ensures)

pub returns-clause-free : goal.returns-clause-free
returns-clause-free c =
    (λ _. found_none (get (sizes_in c.args.folder.now)) c.args.records c.args.plan.now c.files-file-items.result.now c.loop-number.number c.files-file-items.ensures.same (omega arith) c.loop-number.invariant (λ occupied. false≢true (sym c.if-branch-2.false ∙ c.in_ok-is_list_occupied.ensures.1 occupied)), λ _. refl)

pub returns-clause-first : goal.returns-clause-first
returns-clause-first c =
    free_names_none (get (sizes_in c.args.folder.now)) c.args.records c.args.plan.now
    (found_none (get (sizes_in c.args.folder.now)) c.args.records c.args.plan.now c.files-file-items.result.now c.loop-number.number c.files-file-items.ensures.same (omega arith) c.loop-number.invariant (λ occupied. false≢true (sym c.if-branch-2.false ∙ c.in_ok-is_list_occupied.ensures.1 occupied)))
