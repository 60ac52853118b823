use Rattle.std.proofs.Common.{refl, ◌∙◌, inl, inr, ap, length}
use Rattle.std.specs.Prelude.{Ok, Err}
use Rattle.bay_core.specs.declared.event.Event.TheVariants.{DriveRead}
use Rattle.bay_core.specs.declared.event.DriveGot.TheVariants.{Failed}
use Rattle.bay_core.specs.Replay.{Drive}
use Rattle.bay_core.specs.Went.{ReadCall}
use Rattle.bay_mem.specs.Failing.{BayState}
use Rattle.bay_mem.proofs.Worlds.{noted_as, failed_from}
use Rattle.bay_mem.proofs.mem_bay.MemBayBay.drive_read.Goals as goal

pub returns-in-Ok-clause-called : goal.returns-in-Ok-clause-called
returns-in-Ok-clause-called c = noted_as _ _ _ (Drive c.args.d) (ReadCall c.args.d c.args.path.now c.args.at c.drive_bytes.new.into (Ok c.in-Ok.got)) c.in-Ok.ensures.ok refl refl

pub returns-in-Err-clause-called : goal.returns-in-Err-clause-called
returns-in-Err-clause-called c =
    failed_from _ _ _ (DriveRead c.args.d c.args.path.now c.args.at (length c.drive_bytes.new.into) Failed) (Drive c.args.d) (ReadCall c.args.d c.args.path.now c.args.at c.drive_bytes.new.into (Err (record {})))
    (ap (λ (b : BayState). b.seen) c.self.view_is ∙ c.in-Err.ensures.err) refl (inl refl) (inr refl) c.fail_read-noted.ensures
