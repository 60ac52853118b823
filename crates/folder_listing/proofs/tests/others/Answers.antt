use Rattle.std.proofs.Common.{List, ◌∙◌, subst}
use Rattle.std.proofs.lemmas.List.{take_all}
use Rattle.std.proofs.lemmas.Result.{IfOk-weaker}
use Rattle.bay_core.specs.declared.event.FileInfo.{FileInfo}
use Rattle.bay_core.specs.Map.{paths}
use Rattle.folder_listing.specs.Listing.{listing, IsMarkedAt}
use Rattle.folder_listing.proofs.Marked.{marked_at_none, marked_at_turn, left_of_marked}
use Rattle.folder_listing.proofs.tests.others.Goals as goal

pub loop-file-init : goal.loop-file-init
loop-file-init c = marked_at_none _ _ c.in_ok-folder.ensures.sizes c.in_ok-folder.ensures.unmarked

pub loop-file-preserved : goal.loop-file-preserved
loop-file-preserved c =
    marked_at_turn (λ f. f.path) c.args.list.now c.loop-file.file-index c.file-item.result (listing c.args.files.items) c.as_str.result.now c.loop-file.folder c.mark.new.self c.loop-file-test.true c.file-item.is c.as_str.ensures c.loop-file.invariant c.mark.ensures

pub returns : goal.returns
returns c =
    let marked : IsMarkedAt (listing c.args.files.items) (paths c.args.list.now) c.loop-file.folder = subst (λ (files : List FileInfo). IsMarkedAt (listing c.args.files.items) (paths files) c.loop-file.folder) (take_all c.loop-file.file-index c.args.list.now c.loop-file-test.false) c.loop-file.invariant in
    IfOk-weaker c.unmarked.result _ _ (λ others left. left ∙ left_of_marked (listing c.args.files.items) (paths c.args.list.now) c.loop-file.folder marked) c.unmarked.ensures
