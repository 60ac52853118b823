use Rattle.std.proofs.Common.{◌≤◌, refl, sym, ap, ◌∙◌, subst, arith, Bool, List, length}
use Rattle.std.specs.Prelude.{slice_index_or}
use Rattle.copy_plan.specs.declared.file.PlannedFile.{PlannedFile}
use Rattle.path_text.specs.Moment.{last_moment}
use Rattle.copy_plan.proofs.Bounds.{code_most}
use Rattle.first_file.specs.Steps.{CopiesFirst}
use Rattle.first_file.proofs.Recording.{copy_went, all_went, copy_alone, copy_failed, copy_recorded, first_of, not_ok}
use Rattle.first_file.proofs.first.copy_first.Goals as goal

pub returns-in_err-triple-clause-went : goal.returns-in_err-triple-clause-went
returns-in_err-triple-clause-went g c = copy_went _ _ c.in_err-triple.ensures.touches

pub returns-in_err-triple-clause-copies : goal.returns-in_err-triple-clause-copies
returns-in_err-triple-clause-copies g c =
    subst (λ (ok : Bool). CopiesFirst c.args.source c.args.d c.args.plan.now ok (g.B.Bay.world c.args.bay.now) (g.B.Bay.world c.copy_file.new.bay)) (sym (not_ok _ _ c.from_residual.ensures.1))
    (copy_failed _ _ _ _ c.in_err-triple.ensures.touches)

pub record_aloud-requires-clause-at : goal.record_aloud-requires-clause-at
record_aloud-requires-clause-at g c = let few = code_most c.args.plan.now c.files.ensures.plan in let at = c.requires.gate.0 in omega (arith, few, at)

pub returns-clause-went : goal.returns-clause-went
returns-clause-went g c = all_went _ _ c.in_ok-triple.ensures.touches c.moment.ensures.called.went c.record_aloud.ensures.went

pub returns-clause-copies : goal.returns-clause-copies
returns-clause-copies g c =
    let f = c.index-files-0.result in
    let files = c.files.ensures in
    let first = first_of c.args.plan.now.files f files.plan.inventory.some (c.index-files-0.is ∙ ap (λ (l : List PlannedFile). slice_index_or l 0 f) files.same) in
    let at = c.in-Some.ensures in
    let early : c.in-Some.moment ≤ last_moment = let low = at.0 in let is = at.1 in omega (arith, low, is) in
    let counted = ap (λ (l : List PlannedFile). length l) c.files-2.ensures.same in
    copy_recorded _ _ _ _ c.in_ok-triple.ensures.touches _ _ c.in_ok-triple.ensures.copied f _ first refl refl _ c.requires.gate.0 _ early _ counted _ c.moment.ensures.called.went c.record_aloud.ensures.records

pub returns-clause-alone : goal.returns-clause-alone
returns-clause-alone g c =
    copy_alone _ _ c.args.plan.now _ _ _ c.in-Some.moment c.record_aloud.result c.in_ok-triple.ensures.copied c.moment.ensures.called.went c.record_aloud.ensures.went c.record_aloud.ensures.honest
