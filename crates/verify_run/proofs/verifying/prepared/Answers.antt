use Rattle.std.proofs.Common.{◌∙◌, ap, map, List, ℕ}
use Rattle.std.specs.List.{filter}
use Rattle.report_text.specs.Shown.{shown}
use Rattle.verify_run.specs.Report.{is_other}
use Rattle.folder_listing.proofs.Marked.{left_of_marked}
use Rattle.verify_run.proofs.Others.{others_are}
use Rattle.verify_run.proofs.verifying.prepared.Goals as goal

pub returns-clause-folder : goal.returns-clause-folder
returns-clause-folder c = c.mark_listed.ensures.sizes_are ∙ c.in_ok-folder.ensures.sizes

pub returns-clause-others : goal.returns-clause-others
returns-clause-others c = others_are c.args.entries.now _ _ _ _ _ c.in_ok-folder.ensures.sizes (c.in_ok-unmarked.ensures ∙ left_of_marked _ _ _ c.mark_listed.ensures) (c.in_ok-others.ensures ∙ ap (λ (l : List (List ℕ)). map shown (filter (is_other c.args.own.now) l)) c.deref.ensures.value)
