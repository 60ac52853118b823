use Rattle.std.proofs.Common.{List, length, refl, sym, subst}
use Rattle.std.specs.List.{AllByRecursion}
use Rattle.copy_plan.specs.declared.file.PlannedFile.{PlannedFile}
use Rattle.offload_run.specs.Offload.{HasAtMost}
use Rattle.offload_run.proofs.Starting.{order_most, starts_of}
use Rattle.offload_run.proofs.offload.Offload.new.Goals as goal

pub drive_runs-requires : goal.drive_runs-requires
drive_runs-requires c =
    let order = c.args.order in
    subst (λ (files : List PlannedFile). AllByRecursion (HasAtMost (length files)) order.drives.items) (sym c.files-count.ensures.same) (order_most order.slots order.plan order.listed order.drives.items order.rules)

pub returns-clause-starts : goal.returns-clause-starts
returns-clause-starts c =
    let order = c.args.order in
    starts_of _ _ order.listed order.drives.items order.rules c.files-count.ensures.plan refl c.in_ok-drives.ensures.at c.none.ensures c.none-2.ensures refl refl
