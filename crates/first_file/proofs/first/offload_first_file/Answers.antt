use Rattle.std.proofs.Common.{false, sym, ap, subst, Bool, List, length, inl}
use Rattle.copy_plan.specs.declared.file.PlannedFile.{PlannedFile}
use Rattle.first_file.proofs.Telling.{went_any, any_then}
use Rattle.first_file.specs.First.{OffloadsFirst}
use Rattle.first_file.proofs.Recording.{not_ok}
use Rattle.first_file.proofs.Offloading.{begin_fails, begin_goes_on, offloads_first}
use Rattle.first_file.proofs.first.offload_first_file.Goals as goal

pub returns-in_err-begin_aloud-clause-offloads : goal.returns-in_err-begin_aloud-clause-offloads
returns-in_err-begin_aloud-clause-offloads g c =
    subst (λ (ok : Bool). OffloadsFirst c.args.place.now c.args.source c.args.plan.now ok (g.B.Bay.world c.args.bay.now) (g.B.Bay.world c.begin_aloud.new.bay)) (sym (not_ok _ _ c.from_residual.ensures.1))
    (offloads_first c.keeping_is_safe.ensures _ _ _ _ _ c.files.ensures.plan c.requires.journal c.in-Ok.ensures false (went_any (λ x on. inl on) c.in_err-begin_aloud.ensures.went) (begin_fails _ _ _ _ _ (ap (λ (l : List PlannedFile). length l) c.files.ensures.same) c.in_err-begin_aloud.ensures.begins))

pub returns-clause-offloads : goal.returns-clause-offloads
returns-clause-offloads g c =
    offloads_first c.keeping_is_safe.ensures _ _ _ _ _ c.files.ensures.plan c.requires.journal c.in-Ok.ensures _ (any_then (went_any (λ x on. inl on) c.in_ok-begin_aloud.ensures.went) c.copy_first-came.ensures.went) (begin_goes_on _ _ _ _ _ _ (ap (λ (l : List PlannedFile). length l) c.files.ensures.same) c.in_ok-begin_aloud.ensures.went c.in_ok-begin_aloud.ensures.begins c.copy_first-came.ensures.copies)
