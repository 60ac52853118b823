use Rattle.std.proofs.Common.{sym, ap}
use Rattle.station_run.specs.Ends.{broken_end}
use Rattle.last_lines.proofs.Ends.{ended_silent, ended_as}
use Rattle.station_run.proofs.run.end_unverified.Goals as goal

pub returns-in-OutFailed : goal.returns-in-OutFailed
returns-in-OutFailed g c = ended_as _ _ _ _ _ (ap broken_end (sym c.in-OutFailed.is)) (ended_silent 5 _)
