-- A run that has ended says its last line, if its end has one.
use Rattle.std.proofs.Common.{◌∙◌, sym, ap}
use Rattle.copy_plan.specs.Plan.{PlanValue}
use Rattle.fan_core.specs.Flags.{count}
use Rattle.offload_run.specs.Offload.{ordered_of, stands_at}
use Rattle.job_run.proofs.Silent.{silent_whole, silent_less, silent_none, silent_unsaid, changed_said}
use Rattle.job_run.proofs.ending.end_run.Goals as goal

pub returns-then-count-drives : goal.returns-then-count-drives
returns-then-count-drives g c = λ end ends.
    silent_whole c.args.drives (ordered_of c.args.run.now).plan (stands_at c.args.run.now) c.args.outcome end ends (g.B.Bay.world c.args.bay.now) c.in-Finished.is (sym (c.count.ensures ∙ ap count c.sealed.ensures) ∙ c.if-count-drives.true)

pub returns-else-count-drives : goal.returns-else-count-drives
returns-else-count-drives g c = λ end ends.
    silent_less c.args.drives (ordered_of c.args.run.now).plan (stands_at c.args.run.now) c.args.outcome end ends (g.B.Bay.world c.args.bay.now) c.in-Finished.is (λ all. c.if-count-drives.false (c.count.ensures ∙ ap count c.sealed.ensures ∙ all))

pub returns-in-NoDrive : goal.returns-in-NoDrive
returns-in-NoDrive g c = λ end ends.
    silent_none c.args.drives (ordered_of c.args.run.now).plan (stands_at c.args.run.now) c.args.outcome end ends (g.B.Bay.world c.args.bay.now) c.in-NoDrive.is

pub returns-in-Changed : goal.returns-in-Changed
returns-in-Changed g c = λ end ends.
    changed_said c.args.drives (ordered_of c.args.run.now).plan (stands_at c.args.run.now) c.args.outcome end ends c.in-Changed.index c.in-Changed.listed c.in-Changed.read c.files.result.now c.index-files-index.result
    c.as_str-path.result.now c.end-in-Changed.result (g.B.Bay.world c.args.bay.now) (g.B.Bay.world c.end-in-Changed.new.bay) c.in-Changed.is (c.files.ensures.same ∙ ap (λ (p : PlanValue). p.files) c.plan.ensures) c.as_str-path.ensures.same c.end-in-Changed.ensures

pub returns-in-OutFailed : goal.returns-in-OutFailed
returns-in-OutFailed g c = λ end ends.
    silent_unsaid c.args.drives (ordered_of c.args.run.now).plan (stands_at c.args.run.now) c.args.outcome end ends (g.B.Bay.world c.args.bay.now) c.in-OutFailed.is
