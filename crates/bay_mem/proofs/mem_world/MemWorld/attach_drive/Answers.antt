use Rattle.std.proofs.Common.{rules, sym, refl, ap, ◌∙◌}
use Rattle.bay_core.specs.declared.event.Event.TheVariants.{AttachDrive}
use Rattle.bay_mem.proofs.Attaching.{pushed, adds_drive_from, keeps_added_drive}
use Rattle.bay_mem.proofs.mem_world.MemWorld.attach_drive.Goals as goal

pub returns-clause-ok : goal.returns-clause-ok
returns-clause-ok c =
    adds_drive_from _ _ _ _ _ _ _ _ _ c.self.view_is (search rules)
    (pushed _ _ _ _ _ refl c.in_ok-push.ensures.items (ap (AttachDrive c.len-d.result) (c.in_ok-place.ensures ∙ c.as_bytes.ensures.value)))
    (pushed _ _ _ _ _ c.in_ok-reserve.ensures.items c.in-Ok-Ok-Ok.ensures.items c.in_ok-start.ensures.same)
    (pushed _ _ _ _ _ c.in_ok-reserve-2.ensures.items c.in-Ok-Ok-Ok.ensures'.items c.in_ok-files.ensures.same)
    (pushed _ _ _ _ _ c.in_ok-reserve-3.ensures.items c.in-Ok-Ok-Ok.ensures''.items refl)
    (sym c.in-Some.ensures.found) c.in-Some.ensures.kept

pub invariant_of-self-2 : goal.invariant_of-self-2
invariant_of-self-2 c = keeps_added_drive _ _ _ _ (returns-clause-ok c)
