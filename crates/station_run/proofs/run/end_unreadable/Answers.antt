use Rattle.std.proofs.Common.{sym, ap}
use Rattle.station_run.specs.Ends.{fault_end}
use Rattle.last_lines.proofs.Ends.{ended_as}
use Rattle.station_run.proofs.run.end_unreadable.Goals as goal

pub returns-in-Malformed : goal.returns-in-Malformed
returns-in-Malformed g c = ended_as _ _ _ _ _ (ap fault_end (sym c.in-Malformed.is)) c.end-in-Malformed.ensures

pub returns-in-NoFile : goal.returns-in-NoFile
returns-in-NoFile g c = ended_as _ _ _ _ _ (ap fault_end (sym c.in-NoFile.is)) c.end-in-NoFile.ensures

pub returns-in-BadDigest : goal.returns-in-BadDigest
returns-in-BadDigest g c = ended_as _ _ _ _ _ (ap fault_end (sym c.in-BadDigest.is)) c.end-in-BadDigest.ensures
