use Rattle.station_run.specs.Print.{unattached}
use Rattle.station_run.proofs.Attached.{none_attached}
use Rattle.station_run.proofs.Printed.{print_attached_run}
use Rattle.station_run.proofs.run.print_place.Goals as goal

pub returns-in-Ok : goal.returns-in-Ok
returns-in-Ok g c = print_attached_run _ _ _ _ _ _ _ c.in-Ok.ensures c.print_attached.ensures

pub returns-in-Err : goal.returns-in-Err
returns-in-Err g c = unattached (none_attached _ _ _ _ _ _ c.in-Err.ensures c.end.ensures)
