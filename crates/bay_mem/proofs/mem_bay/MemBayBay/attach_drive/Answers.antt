use Rattle.std.proofs.Common.{refl, ◌∙◌, ap, subst}
use Rattle.std.specs.Prelude.{Err}
use Rattle.bay_core.specs.Attach.{Attaches}
use Rattle.bay_mem.specs.State.{State, world_of}
use Rattle.bay_mem.specs.Failing.{BayState, NotAdded}
use Rattle.bay_mem.proofs.Attaching.{adds_drive, fails_drive}
use Rattle.bay_mem.proofs.Blames.{blamed_later, blameless_drive}
use Rattle.bay_mem.proofs.mem_bay.MemBayBay.attach_drive.Goals as goal

pub returns-in-Some-clause-attaches : goal.returns-in-Some-clause-attaches
returns-in-Some-clause-attaches c = adds_drive _ _ _ _ c.in-Some.ensures.ok

pub returns-in-Some-clause-blamed : goal.returns-in-Some-clause-blamed
returns-in-Some-clause-blamed c = blameless_drive _ c.args.place.now c.in-Some.d _ _ c.in-Some.ensures.ok

pub returns-in-None-clause-attaches : goal.returns-in-None-clause-attaches
returns-in-None-clause-attaches c =
    subst (λ (s : State). Attaches c.args.place.now (Err (record {})) (world_of s) (world_of c.fail_attach-noted.new.world)) (ap (λ (b : BayState). b.seen) c.self.view_is ∙ c.in-None.ensures.none refl)
    (fails_drive _ _ _ c.fail_attach-noted.ensures.kept c.fail_attach-noted.ensures.fails)

pub returns-in-None-clause-blamed : goal.returns-in-None-clause-blamed
returns-in-None-clause-blamed c = blamed_later (NotAdded c.args.self.now.seen c.args.place.now) _ c.attached_drive.new.self _ c.self.inside.faults (ap (λ (b : BayState). b.failing) c.self.view_is) (c.in-None.ensures.excuse refl) c.counted.ensures.later
