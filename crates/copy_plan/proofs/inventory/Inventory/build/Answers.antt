-- The files as they are arranged, and what their places tell.
use Rattle.std.proofs.Common.{List, ◌∙◌, sym, ap, subst}
use Rattle.std.specs.List.{AllByRecursion}
use Rattle.copy_plan.specs.declared.file.PlannedFile.{PlannedFile}
use Rattle.copy_plan.specs.Inventory.{IsPlannable}
use Rattle.copy_plan.specs.Build.{IsInBounds, IsFit, IsFirstNot, IsClashAt, BuildGives}
use Rattle.std.specs.Prelude.{Err}
use Rattle.copy_plan.proofs.Arranged.{unfit_gives, clash_gives, clash_order}
use Rattle.copy_plan.proofs.inventory.Inventory.build.Goals as goal

pub returns-in-Some-first_unfit : goal.returns-in-Some-first_unfit
returns-in-Some-first_unfit c =
    let arranged = c.arrange.new.files.items in
    let bounds : IsInBounds arranged = subst IsInBounds c.deref.ensures.value c.in_default.ensures in
    let found : IsFirstNot IsFit arranged c.in-Some-first_unfit.at = subst (λ (l : List PlannedFile). IsFirstNot IsFit l c.in-Some-first_unfit.at) c.deref-2.ensures.value c.in-Some-first_unfit.ensures.found in
    (arranged, c.arrange.ensures, subst (λ e. BuildGives arranged (Err e)) (sym c.unfit.ensures) (unfit_gives arranged c.in-Some-first_unfit.at c.take_path.result bounds found c.take_path.ensures.path))

pub returns-in-Some-first_clash : goal.returns-in-Some-first_clash
returns-in-Some-first_clash c =
    let arranged = c.arrange.new.files.items in
    let bounds : IsInBounds arranged = subst IsInBounds c.deref.ensures.value c.in_default.ensures in
    let each : AllByRecursion IsPlannable arranged = subst (λ (l : List PlannedFile). AllByRecursion IsPlannable l) c.deref-2.ensures.value c.in_default-first_unfit.ensures.none in
    let found : IsClashAt arranged c.in-Some-first_clash.above c.in-Some-first_clash.below = subst (λ (l : List PlannedFile). IsClashAt l c.in-Some-first_clash.above c.in-Some-first_clash.below) c.deref-3.ensures.value c.in-Some-first_clash.ensures.found in
    let low = clash_order arranged c.in-Some-first_clash.above c.in-Some-first_clash.below found in
    let first = λ (f : PlannedFile). c.take_path-first.ensures.path f ∙ ap (λ (g : PlannedFile). g.path) (c.take_path-second.ensures.others c.in-Some-first_clash.above f low) in
    (arranged, c.arrange.ensures, clash_gives arranged c.in-Some-first_clash.above c.in-Some-first_clash.below c.take_path-first.result c.take_path-second.result bounds each found first c.take_path-second.ensures.path)
