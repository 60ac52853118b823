use Rattle.station_run.specs.Verify.{unattached}
use Rattle.station_run.proofs.Attached.{none_attached}
use Rattle.station_run.proofs.Verified.{verify_attached_run}
use Rattle.station_run.proofs.run.verify_place.Goals as goal

pub returns-in-Ok : goal.returns-in-Ok
returns-in-Ok g c = verify_attached_run _ _ _ _ _ _ _ c.in-Ok.ensures c.verify_attached.ensures

pub returns-in-Err : goal.returns-in-Err
returns-in-Err g c = unattached (none_attached _ _ _ _ _ _ c.in-Err.ensures c.end.ensures)
