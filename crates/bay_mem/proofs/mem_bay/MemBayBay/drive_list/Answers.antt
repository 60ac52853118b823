use Rattle.std.proofs.Common.{◌≡◌, refl, inl, inr, ap}
use Rattle.std.specs.Prelude.{None, Some, Ok, Err}
use Rattle.bay_core.specs.declared.event.Event.TheVariants.{DriveList}
use Rattle.bay_core.specs.declared.failed.ListError.TheVariants.{Failed}
use Rattle.bay_core.specs.Replay.{Drive}
use Rattle.bay_core.specs.Went.{ListCall}
use Rattle.bay_mem.specs.State.{noted}
use Rattle.bay_mem.specs.Failing.{BayState}
use Rattle.bay_mem.proofs.Worlds.{noted_from, still_from, listed_so, unlisted_so, failed_from}
use Rattle.bay_mem.proofs.mem_bay.MemBayBay.drive_list.Goals as goal

pub returns-then-strikes-clause-called : goal.returns-then-strikes-clause-called
returns-then-strikes-clause-called c = failed_from _ _ _ (DriveList c.args.d None) (Drive c.args.d) (ListCall c.args.d (Err Failed)) (ap (λ (b : BayState). b.seen) c.self.view_is) refl (inl refl) (inr refl) c.fail_list-noted.ensures

pub returns-clause-called : goal.returns-clause-called
returns-clause-called c =
    noted_from _ _ _ (DriveList c.args.d (Some c.in-Ok.files.items)) (Drive c.args.d) (ListCall c.args.d (Ok c.in-Ok.files)) (ap (λ (b : BayState). b.seen) c.self.view_is)
    (listed_so (λ files. c.try_list-outcome.new.world ≡ noted c.self.inside.world (DriveList c.args.d (Some files.items))) _ c.in-Ok.files c.in-Ok.ensures.same c.try_list-outcome.ensures.ok) refl refl

pub returns-in_default-clause-called : goal.returns-in_default-clause-called
returns-in_default-clause-called c =
    still_from _ _ _ (Drive c.args.d) (ap (λ (b : BayState). b.seen) c.self.view_is)
    (unlisted_so (c.try_list-outcome.new.world ≡ c.self.inside.world) _ c.in_default.field-0 c.in_default.ensures.same c.try_list-outcome.ensures.err)
