use Rattle.job_stays.proofs.Stopping.{ours_after_stops}
use Rattle.job_stays.proofs.laws.ours_after_stops.Goals as goal

pub returns : goal.returns
returns c = ours_after_stops c.one_progress.ensures.on_card c.stays_ours.ensures
